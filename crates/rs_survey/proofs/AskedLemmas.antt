-- A count that stops at the greatest number of 64 bits: for asked_rows.rt.
use Rattle.std.proofs.Common.{◌≡◌, ◌∙◌, ◌+◌, ◌≤◌, ap, ℕ, Bool, true, false, cond, List, [], ◌∷◌, arith, min}
use Rattle.std.specs.Prelude.{count_by}
use Rattle.std.proofs.lemmas.List.Sums.{sum_by-append}
use Rattle.rs_survey.specs.Tally.{most}

pub counted_none : (n : ℕ) → min (0 + n) most ≡ min n most
counted_none n = omega arith

pub counted_all : (count : ℕ) → count ≤ most → count ≡ min (count + 0) most
counted_all count fits = omega (arith, fits)

pub count_more : (count later : ℕ) (asked : Bool) (sum : ℕ) → sum ≡ min (count + cond asked 1 0) most →
    min (sum + later) most ≡ min (count + (cond asked 1 0 + later)) most
count_more count later true sum is = omega (arith, is)
count_more count later false sum is = omega (arith, is)

pub counted_bound : (count : ℕ) (asked : Bool) (sum : ℕ) → sum ≡ min (count + cond asked 1 0) most → sum ≤ most
counted_bound count asked sum is = omega (arith, is)

pub count_first : {X : Type 0} (p : X → Bool) (x : X) (later : List X) → count_by p (x ∷ later) ≡ cond (p x) 1 0 + count_by p later
count_first p x later =
    sum_by-append (λ x. cond (p x) 1 0) (x ∷ []) later
    ∙ ap (λ n. n + count_by p later) (omega arith)
