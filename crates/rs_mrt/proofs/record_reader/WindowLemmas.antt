-- What a window holds when its octets are moved, dropped and added to: for window.rt.
use Rattle.std.proofs.Common.{◌≡◌, ℕ, zero, suc, ◌+◌, ◌-◌, ◌≤◌, List, ◌++◌, length, take, drop, Ok, refl, sym, ap, ◌∙◌, arith, length-drop}
use Rattle.std.specs.Prelude.{nat_lt}
use Rattle.std.proofs.lemmas.Bool.{lt-ltb}
use Rattle.std.proofs.lemmas.List.{drop-take, drop-drop, length-take-le, take-append-le}
use Rattle.std.proofs.lemmas.List.Edits.{take-paste}
use Rattle.std.proofs.Math.Seq.{take-append-add}
use lib.Seq.{paste}
use Rattle.rs_mrt.specs.Inflow.{gave_some}

-- octets are dropped
pub window-drop : (buffer : List ℕ) (start end count : ℕ) → start + count ≤ end
    → take (end - (start + count)) (drop (start + count) buffer) ≡ drop count (take (end - start) (drop start buffer))
window-drop buffer start end count fits =
    let left = end - (start + count) in
    let split : count + left ≡ end - start = omega arith in
    sym (ap (λ (k : ℕ). drop count (take k (drop start buffer))) (sym split) ∙ drop-take count left (drop start buffer)
    ∙ ap (take left) (drop-drop count start buffer))

-- they are moved to the front of the buffer
front-settled : (buffer copied : List ℕ) (start end : ℕ) → start ≤ end → end ≤ length buffer
    → copied ≡ paste buffer 0 (drop start buffer) (end - start)
    → take (end - start) copied ≡ take (end - start) (drop start buffer)
front-settled buffer copied start end order fits same =
    let len = end - start in
    let count : len ≡ 0 + len = omega arith in
    ap (take len) same ∙ ap (λ (k : ℕ). take k (paste buffer 0 (drop start buffer) len)) count
    ∙ take-paste buffer 0 (drop start buffer) len (omega arith) (omega (arith, length-drop start buffer))

-- and octets are added behind them
pub window-extended : (buffer copied added rest : List ℕ) (start end count : ℕ) → start ≤ end → end ≤ length buffer
    → copied ≡ paste buffer 0 (drop start buffer) (end - start) → count ≤ length added
    → take (end - start + count - 0) (drop 0 (take (end - start) copied ++ (added ++ rest))) ≡ take (end - start) (drop start buffer)
    ++ take count added
window-extended buffer copied added rest start end count order fits same bound =
    let len = end - start in
    let held = take len (drop start buffer) in
    let held_len : length held ≡ len = length-take-le len (drop start buffer) (omega (arith, length-drop start buffer)) in
    let count_up : len + count - 0 ≡ length held + count = omega arith in
    ap (λ (k : ℕ). take k (take len copied ++ (added ++ rest))) count_up
    ∙ ap (λ (z : List ℕ). take (length held + count) (z ++ (added ++ rest))) (front-settled buffer copied start end order fits same)
    ∙ take-append-add held (added ++ rest) count
    ∙ ap (λ (z : List ℕ). held ++ z) (take-append-le count added rest bound)

-- whether octets were added
pub gave-lt : (n : ℕ) → gave_some (Ok n) ≡ Ok (nat_lt 0 n)
gave-lt zero = refl
gave-lt (suc n) = ap Ok (sym (lt-ltb 0 (suc n) (omega arith)))
