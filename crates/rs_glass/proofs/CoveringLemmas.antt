-- Prefixes that cover one, by how many of its bits each has.
use Rattle.std.proofs.Common.{◌≡◌, ◌∙◌, sym, ap, subst, refl, ℕ, ◌+◌, ◌-◌, ◌≤◌, Bool, true, false, List, cond, inl, inr, arith}
use Rattle.std.specs.Prelude.{nat_lt}
use Rattle.std.proofs.lemmas.Bool.{cases_lt, ltb-false, true≢false}
use Rattle.std.proofs.lemmas.Bool.Decides.{eqb_tells}
use Rattle.rs_update.specs.Covering.{covers}
use Rattle.rs_update.specs.IpPrefix.{IpPrefix}
use Rattle.rs_update.specs.Prefix.{network_of}
use Rattle.rs_update.specs.PrefixOrder.{same_prefix}
use Rattle.rs_table.specs.Content.{RibContent}
use Rattle.rs_table.specs.Listing.{is_held}
use Rattle.rs_table.proofs.PrefixLemmas.{same_prefix-true}

-- a prefix that covers one has so many of its first bits
covering-is : (wide prefix : IpPrefix) → covers wide prefix ≡ true → (wide.len ≤ prefix.len) × (wide ≡ network_of prefix.address wide.len)
covering-is wide prefix covering = by_length (nat_lt prefix.len wide.len) refl covering
  where
    by_length : (b : Bool) → nat_lt prefix.len wide.len ≡ b → cond b false (same_prefix wide (network_of prefix.address wide.len)) ≡ true
        → (wide.len ≤ prefix.len) × (wide ≡ network_of prefix.address wide.len)
    by_length true is e = absurd cc
    by_length false is e = (ltb-false prefix.len wide.len is, same_prefix-true wide (network_of prefix.address wide.len) e)

module _ (ribs : List RibContent) (prefix : IpPrefix) where
  -- each prefix that covers it and on which some peer has a route lacks so many of its bits
  abbrev pub Lack : ℕ → Type 0
  Lack dropped = (wide : IpPrefix) → covers wide prefix ≡ true → is_held ribs wide ≡ true → wide.len + dropped ≤ prefix.len

  -- one bit more, where no peer has a route on the one that lacks just that many
  pub lack-more : (dropped : ℕ) → Lack dropped → is_held ribs (network_of prefix.address (prefix.len - dropped)) ≡ false
      → Lack (dropped + 1)
  lack-more dropped so_far none wide covering held = elim (eqb_tells wide.len (prefix.len - dropped)) [
    | inl same ↦
        let front : wide ≡ network_of prefix.address (prefix.len - dropped) =
        subst (λ (n : ℕ). wide ≡ network_of prefix.address n) same.1 (covering-is wide prefix covering).1 in
        absurd (true≢false (sym held ∙ ap (is_held ribs) front ∙ none))
    | inr apart ↦
        let within = so_far wide covering held in
        elim (cases_lt wide.len (prefix.len - dropped)) [
          | inl less ↦ omega (arith, less, within)
          | inr past ↦ absurd (apart.1 (omega (arith, past, within)))
        ]
  ]
