-- The byte order mark at the front of a text.
use Rattle.std.proofs.Common.{◌≡◌, ◌≢◌, ◌==◌, ◌&&◌, ℕ, List, [], ◌∷◌, refl, inl, inr}
use Rattle.std.proofs.lemmas.Bool.{and_parts, cases_Bool, eqb-true}
use Rattle.csv.specs.Reading.{is_bom, strip_bom}

pub marked : (text rest : List ℕ) → text ≡ 239 ∷ 187 ∷ 191 ∷ rest → rest ≡ strip_bom text
unfolding strip_bom
marked text rest is = rw is refl

pub unmarked : (text : List ℕ) → ((rest : List ℕ) → text ≢ 239 ∷ 187 ∷ 191 ∷ rest) → text ≡ strip_bom text
unfolding strip_bom
unmarked [] none = refl
unmarked (a ∷ []) none = refl
unmarked (a ∷ b ∷ []) none = refl
unmarked (a ∷ b ∷ c ∷ rest) none = elim (cases_Bool (is_bom a b c)) [
  | inl mark ↦
      let (front, third) = and_parts ((a == 239) && (b == 187)) (c == 191) mark in
      let (first, second) = and_parts (a == 239) (b == 187) front in
      absurd (none rest (rw (eqb-true a 239 first, eqb-true b 187 second, eqb-true c 191 third) refl))
  | inr other ↦ rw other refl
]
