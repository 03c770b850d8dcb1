-- Lists that agree at each place, and zipped lists: for the lemmas of runs, of reports, and of schedules in rs_floor.
use Rattle.std.proofs.Common.{◌≡◌, sym, ℕ, suc, zero, arith, List, [], ◌∷◌, length, Some}
use Rattle.std.specs.Prelude.{slice_get}
use Rattle.std.specs.List.{zip}
use Rattle.std.proofs.lemmas.List.{same_lists}
use Rattle.std.proofs.lemmas.Option.{get_or_from_slice_get, slice_get-get_or}
use Rattle.std.proofs.lemmas.Slice.Zip.{length-zip}

-- two lists that agree at each place of the first are equal
pub same-places : {X : Type 0} (xs ys : List X) → length xs ≡ length ys
    → ((at : ℕ) (x : X) → slice_get xs at ≡ Some x → slice_get ys at ≡ Some x) → ys ≡ xs
same-places xs ys counts all =
    sym (same_lists xs ys counts (λ at d below. sym (get_or_from_slice_get ys at _ d (all at _ (slice_get-get_or xs at d below)))))

pub zip-at : {X Y : Type 0} (xs : List X) (ys : List Y) (place : ℕ) (x : X) (y : Y) → slice_get xs place ≡ Some x
    → slice_get ys place ≡ Some y → slice_get (zip xs ys) place ≡ Some (x, y)
zip-at [] ys place x y at_xs at_ys = absurd cc
zip-at (a ∷ xs) [] place x y at_xs at_ys = absurd cc
zip-at (a ∷ xs) (b ∷ ys) zero x y at_xs at_ys = cc
zip-at (a ∷ xs) (b ∷ ys) (suc place) x y at_xs at_ys = zip-at xs ys place x y at_xs at_ys

pub zip-counted : {X Y : Type 0} (xs : List X) (ys : List Y) → length ys ≡ length xs → length (zip xs ys) ≡ length xs
zip-counted xs ys same = omega (arith, same, length-zip xs ys)
