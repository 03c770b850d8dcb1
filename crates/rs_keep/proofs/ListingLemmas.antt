-- Lists that are gone through by place. `rs_run` cites `flat_map-one_more` and `lines-one_more`.
use Rattle.std.proofs.Common.{◌≡◌, ℕ, zero, suc, ◌+◌, List, [], ◌∷◌, ◌++◌, Some, take, sym, ap, ◌∙◌, append_assoc, arith}
use Rattle.std.specs.Prelude.{slice_get}
use Rattle.std.specs.List.{flat_map, enumerate_from}
use Rattle.std.proofs.lemmas.Grind.{flat_map-append}
use Rattle.std.proofs.lemmas.List.{append-nil, take_more}
use Rattle.std.proofs.lemmas.Option.{get_or_from_slice_get, slice_get_within}

-- what stands before a place, and the one there
pub take-one_more : {X : Type 0} (xs : List X) (place : ℕ) (x : X) → slice_get xs place ≡ Some x
    → take (place + 1) xs ≡ take place xs ++ x ∷ []
take-one_more xs place x e =
    take_more xs place x (slice_get_within xs place x e) ∙ ap (λ one. take place xs ++ one ∷ []) (get_or_from_slice_get xs place x x e)

-- the same of what each gives
pub flat_map-one_more : {X B : Type 0} (f : X → List B) (xs : List X) (place : ℕ) (x : X) → slice_get xs place ≡ Some x
    → flat_map f (take (place + 1) xs) ≡ flat_map f (take place xs) ++ f x
flat_map-one_more f xs place x e =
    ap (flat_map f) (take-one_more xs place x e) ∙ flat_map-append f (take place xs) (x ∷ [])
    ∙ ap (λ more. flat_map f (take place xs) ++ more) (append-nil (f x))

-- what stands at a place of a list whose places are numbered
pub slice_get-enumerated_from : {X : Type 0} (from : ℕ) (xs : List X) (place : ℕ) (x : X) → slice_get xs place ≡ Some x
    → slice_get (enumerate_from from xs) place ≡ Some (from + place, x)
slice_get-enumerated_from from [] place x e = absurd cc
slice_get-enumerated_from from (a ∷ xs) zero x e = let same : from + 0 ≡ from = omega arith in rw same (cc)
slice_get-enumerated_from from (a ∷ xs) (suc place) x e = let same : from + suc place ≡ from + 1 + place = omega arith in
    rw same (slice_get-enumerated_from (from + 1) xs place x e)

pub slice_get-enumerated : {X : Type 0} (xs : List X) (place : ℕ) (x : X) → slice_get xs place ≡ Some x
    → slice_get (enumerate_from 0 xs) place ≡ Some (place, x)
slice_get-enumerated xs place x e = let same : 0 + place ≡ place = omega arith in rw same at (slice_get-enumerated_from 0 xs place x e)

-- a text grows by one more line, behind those before it
pub lines-one_more : (base old new line before after : List ℕ) → old ≡ base ++ before → new ≡ old ++ line → after ≡ before ++ line
    → new ≡ base ++ after
lines-one_more base old new line before after so_far added is =
    added ∙ ap (λ text. text ++ line) so_far ∙ append_assoc base before line ∙ ap (λ text. base ++ text) (sym is)
