-- Lists that grow by one at a time, place by place: for the lemmas of the crates above.
use Rattle.std.proofs.Common.{◌≡◌, ◌++◌, ◌⊎◌, ◌∷◌, [], ℕ, List, Some, ap, inl, inr, length, refl, slice_get, suc, zero}

-- what stands at a place of a list with one more: what stood there, or the last one
pub at-pushed : {X : Type 0} (xs : List X) (x y : X) (n : ℕ) → slice_get (xs ++ x ∷ []) n ≡ Some y → (slice_get xs n ≡ Some y)
    ⊎ ((n ≡ length xs) × (x ≡ y))
at-pushed [] x y zero e = inr (refl, cc)
at-pushed [] x y (suc n) e = absurd cc
at-pushed (z ∷ zs) x y zero e = inl e
at-pushed (z ∷ zs) x y (suc n) e = elim (at-pushed zs x y n e) [
  | inl there ↦ inl there
  | inr last ↦ inr (ap suc last.0, last.1)
]
