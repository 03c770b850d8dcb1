-- One number more of which nothing holds.
use Rattle.std.proofs.Common.{◌≡◌, ◌∙◌, ◌↔◌, ◌+◌, ◌≤◌, ℕ, Bool, true, false, sym, subst, arith, inl, inr}
use Rattle.std.proofs.lemmas.Bool.{cases_lt, true≢false}
use Rattle.rs_glass_shell.specs.Named.{NoneFrom}

pub none-none : (Holds : ℕ → Type 0) (from : ℕ) → NoneFrom Holds from from
none-none Holds from number above below = absurd (omega (arith, above, below))

pub none-more : (Holds : ℕ → Type 0) (from to : ℕ) (is : Bool) → NoneFrom Holds from to → (is ≡ true) ↔ Holds to → is ≡ false
    → NoneFrom Holds from (to + 1)
none-more Holds from to is none tells isnt number above below =
    elim (cases_lt number to) [
      | inl earlier ↦ none number above earlier
      | inr later ↦ λ holds. true≢false (sym (tells.1 (subst Holds (omega (arith, below, later)) holds)) ∙ isnt)
    ]

pub none-below : (Holds : ℕ → Type 0) (from to end : ℕ) → end ≤ to → NoneFrom Holds from to → NoneFrom Holds from end
none-below Holds from to end least none number above below = none number above (omega (arith, least, below))
