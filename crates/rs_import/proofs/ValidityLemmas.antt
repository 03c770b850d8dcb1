-- The validity of a route is the one that is computed.
use Rattle.std.proofs.Common.{◌≡◌, sym, subst, refl, true, false, inl, inr, List, ℕ, Option}
use Rattle.std.specs.List.{list_any}
use Rattle.std.proofs.lemmas.Bool.{cases_Bool}
use Rattle.rs_types.specs.IpPrefix.{IpPrefix}
use Rattle.rs_import.specs.declared.validity.Validity.{Validity}
use Rattle.rs_import.specs.declared.validity.Validity.TheVariants.{Valid, Invalid, NotFound}
use Rattle.rs_types.specs.declared.vrp.Vrp.{Vrp}
use Rattle.rs_import.specs.Rpki.{HasValidity, is_covering, is_matching, validity_of}
use Rattle.rs_import.proofs.MemberLemmas.{any-from, from-member, none-at, none-from}
use Rattle.rs_import.proofs.VrpLemmas.{matching-covers}

module _ (vrps : List Vrp) (q : IpPrefix) (origin : Option ℕ) where
  valid-value : list_any (is_matching q origin) vrps ≡ true → validity_of vrps q origin ≡ Valid
  valid-value matching = rw matching refl

  invalid-value : list_any (is_matching q origin) vrps ≡ false → list_any (is_covering q) vrps ≡ true → validity_of vrps q origin ≡ Invalid
  invalid-value matching covering = rw (matching, covering) refl

  not_found-value : list_any (is_matching q origin) vrps ≡ false → list_any (is_covering q) vrps ≡ false
      → validity_of vrps q origin ≡ NotFound
  not_found-value matching covering = rw (matching, covering) refl

  pub value-of : (v : Validity) → HasValidity vrps q origin v → v ≡ validity_of vrps q origin
  value-of Valid h = sym (valid-value (from-member (is_matching q origin) vrps h.0 h.1 h.2))
  value-of Invalid h =
      sym (invalid-value (none-from (is_matching q origin) vrps h.1) (from-member (is_covering q) vrps h.0.0 h.0.1 h.0.2))
  value-of NotFound h =
      sym (not_found-value (none-from (is_matching q origin) vrps (λ vrp here. matching-covers q origin vrp (h vrp here)))
      (none-from (is_covering q) vrps h))

  pub has-value : HasValidity vrps q origin (validity_of vrps q origin)
  has-value = elim (cases_Bool (list_any (is_matching q origin) vrps)) [
    | inl matching ↦
        subst (λ (v : Validity). HasValidity vrps q origin v) (sym (valid-value matching)) (any-from (is_matching q origin) vrps matching)
    | inr none ↦ elim (cases_Bool (list_any (is_covering q) vrps)) [
      | inl covering ↦
          subst (λ (v : Validity). HasValidity vrps q origin v) (sym (invalid-value none covering))
          (any-from (is_covering q) vrps covering, none-at (is_matching q origin) vrps none)
      | inr apart ↦
          subst (λ (v : Validity). HasValidity vrps q origin v) (sym (not_found-value none apart)) (none-at (is_covering q) vrps apart)
    ]
  ]
