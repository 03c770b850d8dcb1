-- A loop that replaces the elements of a list one by one: for writers that take their turns, in the crates above.
use Rattle.std.proofs.Common.{◌≡◌, ℕ, ◌+◌, ◌<◌, ◌≤◌, ◌∙◌, List, get_or, set, length, inl, inr, ap, sym, subst, arith}
use Rattle.std.proofs.lemmas.Bool.{cases_eq}
use Rattle.std.proofs.lemmas.List.{get_or_default, get_or-set_other, get_or-set_same}

-- one element more of a list is replaced by one that stands to it as it should
module _ {X : Type 0} (R : X → X → Type 0) (old now : List X) (n : ℕ) (next new : X) (count : length now ≡ length old)
    (within : n < length now) where
  pub done-also : ((k : ℕ) (d : X) → k < n → k < length old → R (get_or old k d) (get_or now k d))
      → ((k : ℕ) (d : X) → n ≤ k → get_or now k d ≡ get_or old k d) → R (get_or now n next) new
      → (k : ℕ) (d : X) → k < n + 1 → k < length old → R (get_or old k d) (get_or (set now n new) k d)
  done-also done to_do step k d below known = elim (cases_eq k n) [
    | inl same ↦
        let P : X → Type 0 = λ before. R before (get_or (set now n new) k d) in
        let Q : X → Type 0 = λ after. R (get_or now n next) after in
        let at : get_or now n next ≡ get_or old k d =
        get_or_default now n next d within ∙ to_do n d (omega arith) ∙ ap (λ place. get_or old place d) (sym same) in
        let put : get_or (set now n new) k d ≡ new =
        ap (λ place. get_or (set now n new) place d) same ∙ get_or-set_same now n new d within in
        subst P at (subst Q (sym put) step)
    | inr other ↦
        let P : X → Type 0 = λ after. R (get_or old k d) after in
        subst P (sym (get_or-set_other now n k new d other)) (done k d (omega (arith, other)) known)
  ]

  pub to_do-also : ((k : ℕ) (d : X) → n ≤ k → get_or now k d ≡ get_or old k d) → (k : ℕ) (d : X) → n + 1 ≤ k
      → get_or (set now n new) k d ≡ get_or old k d
  to_do-also to_do k d later = get_or-set_other now n k new d (λ same. omega (arith, same, later)) ∙ to_do k d (omega (arith, later))
