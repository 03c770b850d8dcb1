-- Lists, place by place, as routers change them.
use Rattle.std.proofs.Common.{◌≡◌, ◌≢◌, ◌∙◌, sym, ap, refl, ℕ, ◌+◌, ◌⊎◌, suc, zero, add-one, inl, inr, Bool, true, List, [], ◌∷◌, length}
use Rattle.std.proofs.Common.{map, Option, Some, None}
use Rattle.std.specs.Prelude.{slice_get, slice_set}
use Rattle.std.specs.List.{list_all}
use Rattle.std.specs.Option.{option_map}
use Rattle.std.proofs.lemmas.Bool.{and_parts}
use Rattle.std.proofs.lemmas.Bool.Decides.{eqb_tells}
use Rattle.std.proofs.lemmas.Option.{slice_get_within}
use Rattle.rs_patience.proofs.PlaceLemmas.{get-set_same, get-set_other}

-- what stands at a place afterwards: the new one at its own, and elsewhere what stood there
pub set_cases : {X : Type 0} (xs : List X) (at : ℕ) (old new : X) (place : ℕ) (x : X) → slice_get xs at ≡ Some old
    → slice_get (slice_set xs at new) place ≡ Some x
    → ((place ≡ at) × (new ≡ x)) ⊎ ((place ≢ at) × (slice_get xs place ≡ Some x))
set_cases xs at old new place x here e = elim (eqb_tells place at) [
  | inl told ↦
      let there : slice_get (slice_set xs at new) at ≡ Some x = ap (λ (n : ℕ). slice_get (slice_set xs at new) n) (sym told.1) ∙ e in
      let set : slice_get (slice_set xs at new) at ≡ Some new = get-set_same xs at new (slice_get_within xs at old here) in
      inl (told.1, cc (set, there))
  | inr told ↦ inr (told.1, sym (get-set_other xs at new place told.1) ∙ e)
]

pub list_all-get : {X : Type 0} (p : X → Bool) (xs : List X) (at : ℕ) (x : X) → list_all p xs ≡ true → slice_get xs at ≡ Some x → p x ≡ true
list_all-get p [] at x all e = absurd cc
list_all-get p (y ∷ ys) zero x all e = let found : y ≡ x = cc in ap p (sym found) ∙ (and_parts (p y) (list_all p ys) all).0
list_all-get p (y ∷ ys) (suc at) x all e = list_all-get p ys at x (and_parts (p y) (list_all p ys) all).1 e

-- ---- f of each element from a place on

abbrev pub map_from : {X : Type 0} → (X → X) → ℕ → List X → List X
map_from f zero xs = map f xs
map_from f (suc n) [] = []
map_from f (suc n) (x ∷ xs) = x ∷ map_from f n xs

pub map_from-end : {X : Type 0} (f : X → X) (xs : List X) → map_from f (length xs) xs ≡ xs
map_from-end f [] = refl
map_from-end f (x ∷ xs) = ap (λ ys. x ∷ ys) (map_from-end f xs)

map_from-suc : {X Y : Type 0} (v : X → Y) (f : Y → Y) (n : ℕ) (xs : List X) (x new : X) → slice_get xs n ≡ Some x → v new ≡ f (v x)
    → map_from f (suc n) (map v (slice_set xs n new)) ≡ map_from f n (map v xs)
map_from-suc v f n [] x new e is = absurd cc
map_from-suc v f zero (y ∷ ys) x new e is = let found : y ≡ x = cc in ap (λ z. z ∷ map f (map v ys)) (is ∙ ap (λ z. f (v z)) (sym found))
map_from-suc v f (suc n) (y ∷ ys) x new e is = ap (λ zs. v y ∷ zs) (map_from-suc v f n ys x new e is)

pub map_from-step : {X Y : Type 0} (v : X → Y) (f : Y → Y) (n : ℕ) (xs : List X) (x new : X) → slice_get xs n ≡ Some x → v new ≡ f (v x)
    → map_from f (n + 1) (map v (slice_set xs n new)) ≡ map_from f n (map v xs)
map_from-step v f n xs x new e is = rw add-one (map_from-suc v f n xs x new e is)

pub option_map-get : {X Y : Type 0} (f : X → Y) (o : Option X) (y : Y) → option_map f o ≡ Some y → (x : X) × ((o ≡ Some x) × (f x ≡ y))
option_map-get f None y e = absurd cc
option_map-get f (Some x) y e = (x, (refl, cc))
