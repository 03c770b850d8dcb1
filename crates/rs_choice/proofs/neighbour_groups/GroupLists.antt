-- Lists of places as they change, and who stands for whom: for `take_in` of decision.rt, GroupLemmas and GroupMarks.
use Rattle.std.proofs.Common.{◌≡◌, ◌≢◌, ◌∙◌, sym, ap, refl, ℕ, ◌<◌, suc, zero, arith, ◌⊎◌, inl, inr, List, [], ◌∷◌, ◌++◌, length, Some}
use Rattle.std.specs.Prelude.{slice_get, slice_set}
use Rattle.std.proofs.lemmas.List.{get_or-set_other, get_or-set_same, length-set}
use Rattle.std.proofs.lemmas.Option.{get_or_from_slice_get, slice_get-get_or, slice_get_within}
use Rattle.rs_choice.specs.declared.candidate.Standing.{Standing}
use Rattle.rs_choice.specs.Comparison.{IsAhead, IsLevel}
use Rattle.rs_choice.specs.Grouping.{BeatsInGroup, StandsFor}

pub level_ahead : (a b c : Standing) → IsLevel a b → IsAhead b c → IsAhead a c
level_ahead a b c h k = grind arith

pub level_back : (a b : Standing) → IsLevel a b → IsLevel b a
level_back a b h = (sym h.0, sym h.1, sym h.2)

pub level_then : (a b c : Standing) → IsLevel a b → IsLevel b c → IsLevel a c
level_then a b c h k = (h.0 ∙ k.0, h.1 ∙ k.1, h.2 ∙ k.2)

pub stands_for_itself : (a : Standing) (place : ℕ) → StandsFor a place a place
stands_for_itself a place = inr ((refl, refl, refl), refl, inr (refl, inr (refl, refl, omega arith)))

-- who beats the one that stands for another stands for it too
pub beats_stands : (one held other : Standing) (place held_place other_place : ℕ) → IsLevel one held → one.neighbour ≡ held.neighbour
    → BeatsInGroup one held →
    StandsFor held held_place other other_place → StandsFor one place other other_place
beats_stands one held other place held_place other_place level same beats stands = grind arith

-- who isn't beaten by a later one stands for it
pub held_stands : (held one : Standing) (held_place place : ℕ) → IsLevel held one → held.neighbour ≡ one.neighbour
    → (BeatsInGroup one held → ⊥) → held_place < place →
    StandsFor held held_place one place
held_stands held one held_place place level same beats_not earlier = grind arith

pub single : {X : Type 0} (n : X) (group : ℕ) (place : X) → slice_get (n ∷ []) group ≡ Some place → (group ≡ 0) × (place ≡ n)
single n zero place at = (refl, cc)
single n (suc group) place at = absurd (cc (at))

pub push_cases : {X : Type 0} (groups : List X) (n : X) (group : ℕ) (place : X) → slice_get (groups ++ n ∷ []) group ≡ Some place →
    (slice_get groups group ≡ Some place) ⊎ ((group ≡ length groups) × (place ≡ n))
push_cases [] n group place at = inr (single n group place at)
push_cases (g ∷ groups) n zero place at = inl at
push_cases (g ∷ groups) n (suc group) place at = elim (push_cases groups n group place at) [
  | inl old ↦ inl old
  | inr new ↦ inr (ap suc new.0, new.1)
]

pub push_old : {X : Type 0} (groups : List X) (n : X) (group : ℕ) (place : X) → slice_get groups group ≡ Some place
    → slice_get (groups ++ n ∷ []) group ≡ Some place
push_old [] n group place at = absurd (cc (at))
push_old (g ∷ groups) n zero place at = at
push_old (g ∷ groups) n (suc group) place at = push_old groups n group place at

pub push_new : {X : Type 0} (groups : List X) (n : X) → slice_get (groups ++ n ∷ []) (length groups) ≡ Some n
push_new [] n = refl
push_new (g ∷ groups) n = push_new groups n

pub set_cases : {X : Type 0} (groups : List X) (at : ℕ) (n : X) (group : ℕ) (place : X)
    → slice_get (slice_set groups at n) group ≡ Some place →
    ((group ≡ at) × (place ≡ n)) ⊎ ((group ≢ at) × (slice_get groups group ≡ Some place))
set_cases [] at n group place here = absurd (cc (here))
set_cases (g ∷ groups) zero n zero place here = inl (refl, cc)
set_cases (g ∷ groups) zero n (suc group) place here = inr ((λ e. absurd (omega (arith, e))), here)
set_cases (g ∷ groups) (suc at) n zero place here = inr ((λ e. absurd (omega (arith, e))), here)
set_cases (g ∷ groups) (suc at) n (suc group) place here = elim (set_cases groups at n group place here) [
  | inl new ↦ inl (ap suc new.0, new.1)
  | inr old ↦ inr ((λ e. old.0 (omega (arith, e))), old.1)
]

pub set_same : {X : Type 0} (groups : List X) (at : ℕ) (n : X) → at < length groups → slice_get (slice_set groups at n) at ≡ Some n
set_same groups at n within =
    slice_get-get_or (slice_set groups at n) at n (omega (arith, within, length-set groups at n))
    ∙ ap Some (get_or-set_same groups at n n within)

pub set_other : {X : Type 0} (groups : List X) (at : ℕ) (n : X) (group : ℕ) (place : X) → group ≢ at → slice_get groups group ≡ Some place
    → slice_get (slice_set groups at n) group ≡ Some place
set_other groups at n group place differ here =
    slice_get-get_or (slice_set groups at n) group place (omega (arith, slice_get_within groups group place here, length-set groups at n))
    ∙ ap Some (get_or-set_other groups at group n place differ ∙ get_or_from_slice_get groups group place place here)
