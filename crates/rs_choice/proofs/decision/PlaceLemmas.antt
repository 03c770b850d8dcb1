-- The choice by its place in a list: for ScanLemmas, GroupChoice, GroupSettling, LawLemmas and PlanLaws.
use Rattle.std.proofs.Common.{◌≡◌, ◌∙◌, ap, refl, ℕ, ◌<◌, ◌≤◌, suc, arith, not, ◌⊎◌, inl, inr, List, [], ◌∷◌, length, get_or, Some, None}
use Rattle.std.specs.Prelude.{slice_get}
use Rattle.std.specs.List.{list_any, enumerate_from, AllPairs}
use Rattle.std.specs.Option.{option_map}
use Rattle.std.proofs.lemmas.List.Kept.{AllPairs-filter}
use Rattle.std.proofs.lemmas.List.FromFn.{get_or-enumerate_from, length-enumerate_from}
use Rattle.std.proofs.lemmas.Option.{get_or_from_slice_get, slice_get_within}
use Rattle.std.proofs.Math.Nat.{zero-add}
use Rattle.rs_choice.specs.declared.candidate.Standing.{Standing}
use Rattle.rs_choice.specs.declared.step.Step.{Step}
use Rattle.rs_choice.specs.Decision.{beats, decision_steps, unbeaten, remaining, first_member, choice, place_of_choice}
use Rattle.rs_choice.specs.Comparison.{IsAheadByMed, Precedes}
use Rattle.rs_choice.specs.Naturality.{numbered_at}
use Rattle.rs_choice.proofs.Members.{Mem, all_mem, contains-mem, mem-at, mem-slice_get, slice_get-mem}
use Rattle.rs_choice.proofs.Eliminations.{Unbeaten, Left, LeftByMed, By, same_remaining}

-- the numbered members of a list are those at their numbers
pub enumerate-at : {M : Type 0} (xs : List M) (j : ℕ) (x : M) → slice_get xs j ≡ Some x → Mem (enumerate_from 0 xs) (j, x)
enumerate-at xs j x at =
    let within = slice_get_within xs j x at in
    let read = get_or_from_slice_get xs j x x at in
    contains-mem (enumerate_from 0 xs) (j, x) (
      j,
      omega (arith, within, length-enumerate_from 0 xs),
      get_or-enumerate_from 0 xs j (j, x) within
          ∙ ap (λ k. (k, get_or xs j x)) (zero-add j) ∙ ap (λ x. (j, x)) read,
    )

at-enumerate : {M : Type 0} (xs : List M) (numbered : ℕ × M) → Mem (enumerate_from 0 xs) numbered
    → slice_get xs numbered.0 ≡ Some numbered.1
at-enumerate xs numbered = all_mem (λ numbered. slice_get xs numbered.0 ≡ Some numbered.1) (enumerate_from 0 xs) numbered (numbered_at xs)

-- the first of a list, where there is one, is a member
pub first_cases : {M : Type 0} (xs : List M) → ((first_member xs ≡ None) × ((x : M) → Mem xs x → ⊥))
    ⊎ ((x : M) × (first_member xs ≡ Some x) × Mem xs x)
first_cases [] = inl (refl, λ x h. h)
first_cases (x ∷ xs) = inr (x, refl, inl refl)

-- a member's standing, whatever its number
abbrev pub numbered : {M : Type 0} → (M → Standing) → ℕ × M → Standing
numbered standing (place, member) = standing member

-- numbers ascend
abbrev pub Ascends : {M : Type 0} → ℕ × M → ℕ × M → Type 0
Ascends one other = one.0 < other.0

ascends-enumerate : {M : Type 0} (n : ℕ) (xs : List M) → AllPairs Ascends (enumerate_from n xs)
ascends-enumerate n xs i j d below within =
    let counts = length-enumerate_from n xs in
    let first : i < length xs = omega arith in
    let second : j < length xs = omega arith in
    rw (get_or-enumerate_from n xs i d first, get_or-enumerate_from n xs j d second) (omega arith)

ascends-remaining : {M : Type 0} (standing : ℕ × M → Standing) (steps : List Step) (xs : List (ℕ × M)) →
    AllPairs Ascends xs → AllPairs Ascends (remaining standing steps xs)
unfolding remaining unbeaten
ascends-remaining standing [] xs ascends = ascends
ascends-remaining standing (step ∷ later) xs ascends =
    ascends-remaining standing later (unbeaten standing step xs)
    (AllPairs-filter Ascends (λ one. not (list_any (λ other. beats step (standing other) (standing one)) xs)) xs ascends)

-- the member of the least number is the first
first_least : {M : Type 0} (xs : List (ℕ × M)) (x : ℕ × M) → AllPairs Ascends xs → Mem xs x → ((y : ℕ × M) → Mem xs y → x.0 ≤ y.0)
    → first_member xs ≡ Some x
first_least [] x ascends h least = absurd h
first_least (y ∷ ys) x ascends (inl same) least = ap Some same
first_least (y ∷ ys) x ascends (inr h) least =
    let found = mem-at ys x h in
    let within : suc found.0 < suc (length ys) = omega (arith, found.1) in
    let above = ascends 0 (suc found.0) y (omega arith) within in
    let e = found.2 y in
    let below : y.0 < x.0 = rw e at above in
    absurd (omega (arith, below, least y (inl refl)))

unbeaten_member : {M : Type 0} (standing : M → Standing) (Beats : Standing → Standing → Type 0) (InPairs : ℕ × M → Type 0) (In : M → Type 0)
    →
    ((p : ℕ × M) → InPairs p → In p.1) → ((x : M) → In x → (k : ℕ) × InPairs (k, x)) → (p : ℕ × M) →
    Unbeaten (By (numbered standing) Beats) InPairs p → Unbeaten (By standing Beats) In p.1
unbeaten_member standing Beats InPairs In to from p left = record {
  member = to p left.member;
  best = λ w h. let found = from w h in left.best (found.0, w) found.1;
}

unbeaten_pair : {M : Type 0} (standing : M → Standing) (Beats : Standing → Standing → Type 0) (InPairs : ℕ × M → Type 0) (In : M → Type 0) →
    ((p : ℕ × M) → InPairs p → In p.1) → (p : ℕ × M) → InPairs p →
    Unbeaten (By standing Beats) In p.1 → Unbeaten (By (numbered standing) Beats) InPairs p
unbeaten_pair standing Beats InPairs In to p member left = record { member = member; best = λ q h. left.best q.1 (to q h) }

module _ {M : Type 0} (standing : M → Standing) (xs : List M) where
  abbrev pairs : List (ℕ × M)
  pairs = enumerate_from 0 xs

  pair_to : (p : ℕ × M) → Mem pairs p → Mem xs p.1
  pair_to p h = mem-slice_get xs p.0 p.1 (at-enumerate xs p h)

  pair_from : (x : M) → Mem xs x → (k : ℕ) × Mem pairs (k, x)
  pair_from x h = let found = slice_get-mem xs x h in (found.0, enumerate-at xs found.0 x found.1)

  by_med_to : (p : ℕ × M) → LeftByMed (numbered standing) (Mem pairs) p → LeftByMed standing (Mem xs) p.1
  by_med_to p left = unbeaten_member standing IsAheadByMed (Mem pairs) (Mem xs) pair_to pair_from p left

  by_med_from : (x : M) → LeftByMed standing (Mem xs) x → (k : ℕ) × LeftByMed (numbered standing) (Mem pairs) (k, x)
  by_med_from x left =
      let found = pair_from x left.member in
      (found.0, unbeaten_pair standing IsAheadByMed (Mem pairs) (Mem xs) pair_to (found.0, x) found.1 left)

  left_to : (p : ℕ × M) → Left (numbered standing) (Mem pairs) p → Left standing (Mem xs) p.1
  left_to p left = unbeaten_member standing Precedes (LeftByMed (numbered standing) (Mem pairs)) (LeftByMed standing (Mem xs))
      by_med_to by_med_from p left

  left_from : (p : ℕ × M) → Mem pairs p → Left standing (Mem xs) p.1 → Left (numbered standing) (Mem pairs) p
  left_from p member left =
      unbeaten_pair standing Precedes (LeftByMed (numbered standing) (Mem pairs)) (LeftByMed standing (Mem xs)) by_med_to p
      (unbeaten_pair standing IsAheadByMed (Mem pairs) (Mem xs) pair_to p member left.member) left

-- the least place at which a member is left is the place of the choice
pub place_of_choice-Some : {M : Type 0} (standing : M → Standing) (xs : List M) (place : ℕ) (x : M) → slice_get xs place ≡ Some x →
    Left standing (Mem xs) x → ((k : ℕ) (w : M) → slice_get xs k ≡ Some w → Left standing (Mem xs) w → place ≤ k)
    → place_of_choice standing xs ≡ Some place
unfolding place_of_choice choice
place_of_choice-Some standing xs place x at left least =
    let all = remaining (numbered standing) decision_steps (enumerate_from 0 xs) in
    let same = same_remaining (numbered standing) (enumerate_from 0 xs) in
    let kept = same.from (place, x) (left_from standing xs (place, x) (enumerate-at xs place x at) left) in
    let first = first_least all (place, x) (ascends-remaining (numbered standing) decision_steps (enumerate_from 0 xs)
    (ascends-enumerate 0 xs)) kept
    (λ y h. let left = same.to y h in least y.0 y.1 (at-enumerate xs y left.member.member) (left_to standing xs y left)) in
    ap (option_map (λ ((place, member) : ℕ × _). place)) first

-- where no member is left, there is no choice
pub place_of_choice-None : {M : Type 0} (standing : M → Standing) (xs : List M) → ((x : M) → Left standing (Mem xs) x → ⊥)
    → place_of_choice standing xs ≡ None
unfolding place_of_choice choice
place_of_choice-None standing xs none =
    let same = same_remaining (numbered standing) (enumerate_from 0 xs) in
    elim (first_cases (remaining (numbered standing) decision_steps (enumerate_from 0 xs))) [
      | inl empty ↦ ap (option_map (λ ((place, member) : ℕ × _). place)) empty.0
      | inr found ↦ absurd (none found.0.1 (left_to standing xs found.0 (same.to found.0 found.2)))
    ]
