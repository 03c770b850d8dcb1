-- What a call of a reader over std's or over memory says of the octets that may come: for reader.rt and memory_reader.rt.
use Rattle.std.proofs.Common.{◌≡◌, ℕ, zero, suc, ◌+◌, ◌-◌, ◌≤◌, ◌<◌, min, List, [], ◌∷◌, ◌++◌, length, take, drop, Option, Some, None, Ok}
use Rattle.std.proofs.Common.{Bool, refl, sym, ap, subst, ◌∙◌, arith}
use Rattle.std.specs.Prelude.{nat_le, true, if◌then◌else◌}
use Rattle.std.specs.Io.KnownBytes.{Consumes, IsAtEnd}
use Rattle.std.proofs.lemmas.Bool.Decides.{nat_tests}
use Rattle.std.proofs.lemmas.List.{take-append-drop, length-drop}
use Rattle.std.proofs.Math.Seq.{take-add, take-append-add}
use Rattle.std.proofs.Math.Dec.{leb-suc-zero}
use Rattle.rs_mrt.specs.Reader.{ReadEnd, FileEnds, ReadFails, ReadGives, MayBeLeft}
use Rattle.rs_mrt.specs.Memory.{fewer}
use Rattle.rs_mrt.specs.MemoryReading.{MemoryReading, Comes, ComesBefore, amount_at, amount_within, coming, ending, sooner}

-- ---- over std's

-- octets that came stand before those that may be left
given_behind : (front left after later : List ℕ) (end : ReadEnd) → left ≡ front ++ after → MayBeLeft (Some after) later end
    → MayBeLeft (Some left) (front ++ later) end
given_behind front left after later FileEnds same may = ap (λ (z : List ℕ). front ++ z) may ∙ sym same
given_behind front left after later ReadFails same may =
    let most = length front + may.0 in
    (most, ap (λ (z : List ℕ). front ++ z) may.1 ∙ sym (take-append-add front after may.0) ∙ ap (take most) (sym same))

-- a call that gave octets, where those that are left are known or not
pub given_by_std : (n : ℕ) (piece : List ℕ) (old new : Option (List ℕ)) → Consumes old new (take n piece)
    × (n ≡ 0 → 0 < length piece → IsAtEnd new)
    → ReadGives (MayBeLeft old) (MayBeLeft new) (Ok n) piece
given_by_std zero (octet ∷ octets) None new h = tt
given_by_std zero (octet ∷ octets) (Some left) None h = absurd h.0
given_by_std zero (octet ∷ octets) (Some left) (Some after) h = let none : after ≡ [] = h.1 refl (omega arith) in sym (h.0 ∙ none)
given_by_std zero [] None new h = λ later end may. tt
given_by_std zero [] (Some left) None h = absurd h.0
given_by_std zero [] (Some left) (Some after) h = λ later end may. subst (λ (z : List ℕ). MayBeLeft (Some z) later end) (sym h.0) may
given_by_std (suc n) piece None new h = λ later end may. tt
given_by_std (suc n) piece (Some left) None h = absurd h.0
given_by_std (suc n) piece (Some left) (Some after) h = λ later end may. given_behind (take (suc n) piece) left after later end h.0 may

-- ---- over memory

-- a number that is no more than another stays so when both lose as much
le-less : (n b len : ℕ) → n ≤ b → n ≤ len → nat_le (b - n) (len - n) ≡ nat_le b len
le-less n b len hb hl = grind (arith, nat_tests)

-- the octets that come are those of one call, and those that come later
coming-step : (left : List ℕ) (before : Option ℕ) (wanted n : ℕ) → wanted ≤ length left → Some n ≡ amount_within before wanted
    → (take n left ++ coming (drop n left) (sooner before n) ≡ coming left before)
    × (ending (drop n left) (sooner before n) ≡ ending left before)
coming-step left None wanted n le e = (take-append-drop n left, refl)
coming-step left (Some zero) wanted n le e = absurd cc
coming-step left (Some (suc b)) wanted n le e =
    let e' : Some n ≡ Some (min wanted (suc b)) = e in
    let same : n ≡ min wanted (suc b) = cc in
    let whole : n + (suc b - n) ≡ suc b = omega arith in
    let test : nat_le (suc b - n) (length (drop n left)) ≡ nat_le (suc b) (length left) =
    ap (nat_le (suc b - n)) (length-drop n left) ∙ le-less n (suc b) (length left) (omega arith) (omega arith) in
    (sym (take-add n (suc b - n) left) ∙ ap (λ (k : ℕ). take k left) whole, ap (λ (t : Bool). if t then ReadFails else FileEnds) test)

-- a call that gives nothing to a piece that isn't empty has nothing left
not_nothing : (before : Option ℕ) (wanted : ℕ) → 0 < wanted → Some 0 ≡ amount_within before wanted → ⊥
not_nothing before wanted h e = grind arith

ends-none : (before : Option ℕ) (wanted : ℕ) → Some 0 ≡ amount_within before wanted → ([] ≡ coming [] before)
    × (FileEnds ≡ ending [] before)
ends-none None wanted e = (refl, refl)
ends-none (Some zero) wanted e = absurd cc
ends-none (Some (suc b)) wanted e = (refl, ap (λ (t : Bool). if t then ReadFails else FileEnds) (sym (leb-suc-zero b)))

ends_given : (left : List ℕ) (before : Option ℕ) (len most : ℕ) → 0 < len → 0 < most
    → Some 0 ≡ amount_within before (min (min len (length left)) most)
    → ([] ≡ coming left before) × (FileEnds ≡ ending left before)
ends_given [] before len most some h e = ends-none before (min (min len 0) most) e
ends_given (octet ∷ octets) before len most some h e =
    absurd (not_nothing before (min (min len (length (octet ∷ octets))) most) (omega arith) e)

-- a call that does not fail gives as many octets as where none fails for its number
within : (calls before : Option ℕ) (wanted n : ℕ) → Some n ≡ amount_at calls before wanted → Some n ≡ amount_within before wanted
within None before wanted n e = e
within (Some zero) before wanted n e = absurd cc
within (Some (suc calls)) before wanted n e = e

-- octets that came stand before those that may come
comes_behind : (calls : Option ℕ) (front later-coming all : List ℕ) (later-end last : ReadEnd) → (calls ≡ Some 0 → ⊥)
    → front ++ later-coming ≡ all → later-end ≡ last
    → (later : List ℕ) (end : ReadEnd) → ComesBefore (fewer calls) later-coming later-end later end
    → ComesBefore calls all last (front ++ later) end
comes_behind None front rest all later-end last goes whole same later end may =
    (ap (λ (z : List ℕ). front ++ z) may.0 ∙ whole, may.1 ∙ same)
comes_behind (Some zero) front rest all later-end last goes whole same later end may = absurd (goes refl)
comes_behind (Some (suc calls)) front rest all later-end last goes whole same later FileEnds may =
    (ap (λ (z : List ℕ). front ++ z) may.0 ∙ whole, may.1 ∙ same)
comes_behind (Some (suc calls)) front rest all later-end last goes whole same later ReadFails may =
    let most = length front + may.0 in
    (most, ap (λ (z : List ℕ). front ++ z) may.1 ∙ sym (take-append-add front rest may.0) ∙ ap (take most) whole)

comes_at_end : (calls : Option ℕ) (all : List ℕ) (last : ReadEnd) → ([] ≡ all) × (FileEnds ≡ last) → ComesBefore calls all last [] FileEnds
comes_at_end None all last h = h
comes_at_end (Some calls) all last h = h

goes_well : (calls before : Option ℕ) (wanted n : ℕ) → Some n ≡ amount_at calls before wanted → calls ≡ Some 0 → ⊥
goes_well None before wanted n e none = absurd cc
goes_well (Some zero) before wanted n e none = absurd cc
goes_well (Some (suc calls)) before wanted n e none = absurd cc

-- what comes later comes behind what a call gives
given_later : (n : ℕ) (piece : List ℕ) (old new : MemoryReading)
    → Some n ≡ amount_at old.calls old.before_failure (min (min (length piece) (length old.left)) old.most)
    → take n piece ≡ take n old.left → new.left ≡ drop n old.left → new.calls ≡ fewer old.calls
    → new.before_failure ≡ sooner old.before_failure n
    → (later : List ℕ) (end : ReadEnd) → Comes new later end → Comes old (take n piece ++ later) end
given_later n piece old new amount same left calls before later end may =
    let wanted = min (min (length piece) (length old.left)) old.most in
    let step = coming-step old.left old.before_failure wanted n (omega arith) (within old.calls old.before_failure wanted n amount) in
    let whole : take n piece ++ coming new.left new.before_failure ≡ coming old.left old.before_failure = rw (same, left, before) step.0 in
    let ends : ending new.left new.before_failure ≡ ending old.left old.before_failure = rw (left, before) step.1 in
    comes_behind old.calls (take n piece) (coming new.left new.before_failure) (coming old.left old.before_failure)
    (ending new.left new.before_failure) (ending old.left old.before_failure)
    (goes_well old.calls old.before_failure wanted n amount) whole ends later end
    (subst (λ c. ComesBefore c (coming new.left new.before_failure) (ending new.left new.before_failure) later end) calls may)

pub given_by_memory : (n : ℕ) (piece : List ℕ) (old new : MemoryReading) → 0 < old.most
    → Some n ≡ amount_at old.calls old.before_failure (min (min (length piece) (length old.left)) old.most)
    → take n piece ≡ take n old.left → new.left ≡ drop n old.left → new.calls ≡ fewer old.calls
    → new.before_failure ≡ sooner old.before_failure n
    → ReadGives (Comes old) (Comes new) (Ok n) piece
given_by_memory zero (octet ∷ octets) old new most amount same left calls before =
    let len = length (octet ∷ octets) in
    comes_at_end old.calls (coming old.left old.before_failure) (ending old.left old.before_failure)
    (ends_given old.left old.before_failure len old.most (omega arith) most
    (within old.calls old.before_failure (min (min len (length old.left)) old.most) 0 amount))
given_by_memory zero [] old new most amount same left calls before = given_later 0 [] old new amount same left calls before
given_by_memory (suc n) piece old new most amount same left calls before = given_later (suc n) piece old new amount same left calls before

none_is_least : (n : ℕ) → nat_le 0 n ≡ true
none_is_least n = grind (arith, nat_tests)

fails_at : (calls : Option ℕ) (left : List ℕ) (before : Option ℕ) (wanted : ℕ) → None ≡ amount_at calls before wanted
    → ComesBefore calls (coming left before) (ending left before) [] ReadFails
fails_at (Some calls) left before wanted e = (0, refl)
fails_at None left None wanted e = absurd cc
fails_at None left (Some zero) wanted e = (refl, ap (λ (t : Bool). if t then ReadFails else FileEnds) (sym (none_is_least (length left))))
fails_at None left (Some (suc before)) wanted e = absurd cc

-- a call that fails comes behind no octet
pub fails_by_memory : (old : MemoryReading) (wanted : ℕ) → None ≡ amount_at old.calls old.before_failure wanted → Comes old [] ReadFails
fails_by_memory old wanted e = fails_at old.calls old.left old.before_failure wanted e
