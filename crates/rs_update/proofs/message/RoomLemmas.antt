-- Memory is taken only for an UPDATE without a fault that lists a prefix: for `read_update` and `read_treating` of update.rt.
use Rattle.std.proofs.Common.{◌≡◌, ℕ, ◌<◌, false, List, ◌∷◌, [], length, Option, Some, None, Result, Ok, Err, refl, arith, inl, inr}
use Rattle.std.specs.Prelude.{is_err}
use Rattle.std.specs.Option.{option_map}
use Rattle.std.proofs.lemmas.Bool.{true≢false}
use Rattle.rs_types.specs.declared.fault.UpdateFault.{UpdateFault}
use Rattle.rs_types.specs.FirstFault.{first_fault}
use Rattle.rs_update.specs.Handling.{strongest_in}
use Rattle.rs_types.specs.IpPrefix.{IpPrefix}
use Rattle.rs_update.specs.Message.{ListsPrefix, length_tests, listed_prefixes, announced_attributes, withdrawn_field, section_field}
use Rattle.rs_update.specs.Message.{nlri_field, update_message, update_of}
use Rattle.rs_types.specs.PathAttributes.{PathAttributes}
use Rattle.rs_types.specs.Prefix.{prefixes_of}
use Rattle.rs_types.specs.Section.{section_fault}
use Rattle.rs_update.specs.Treating.{reset_of, standing_attributes, treating_update_of, treating_message}
use Rattle.rs_types.proofs.section.KindLemmas.{cases_Option}
use Rattle.rs_update.proofs.fields.PrefixLemmas.{some_prefix}
use Rattle.rs_update.proofs.message.MessageLemmas.{steps}
use Rattle.rs_update.proofs.treating.TreatingLemmas.{treating_steps}

-- a field that has a count lists prefixes
counted : (field : List ℕ) (count : ℕ) → option_map length (prefixes_of field) ≡ Some count → (prefixes : List IpPrefix)
    × (listed_prefixes field ≡ Ok prefixes) × (prefixes_of field ≡ Some prefixes)
counted field count e =
    elim (cases_Option (prefixes_of field)) [
      | inl none ↦ let nothing = rw none at e in absurd cc
      | inr some ↦ (some.0, rw (some.1, listed_prefixes) refl, some.1)
    ]

-- and one at least where it has octets
counted_some : (field : List ℕ) (prefixes : List IpPrefix) → prefixes_of field ≡ Some prefixes → 0 < length field → 0 < length prefixes
counted_some [] prefixes listed some = absurd (omega arith)
counted_some (octet ∷ field) prefixes listed some = some_prefix octet field prefixes listed

lists : (announced : Result (Option PathAttributes) UpdateFault) (withdrawn nlri : List IpPrefix) → is_err announced ≡ false
    → 0 < length nlri
    → ListsPrefix (update_message (steps None None announced (Ok withdrawn) (Ok nlri)))
lists (Err fault) withdrawn nlri there some = absurd (true≢false there)
lists (Ok attributes) withdrawn nlri there some = omega arith

treating_lists : (withdrawn nlri : List IpPrefix) (standing : Option (Option PathAttributes)) → 0 < length nlri
    → ListsPrefix (treating_message (treating_steps None None (Ok withdrawn) (Ok nlri) standing))
treating_lists withdrawn nlri None some = omega arith
treating_lists withdrawn nlri (Some attributes) some = omega arith

-- an UPDATE whose fields have counts, and whose NLRI has octets
module _ (body : List ℕ) (withdrawn nlri : ℕ) (first : option_map length (prefixes_of (withdrawn_field body)) ≡ Some withdrawn)
    (second : option_map length (prefixes_of (nlri_field body)) ≡ Some nlri)
    (octets : 0 < length (nlri_field body)) (lengths : first_fault (length_tests body) ≡ None) where
  pub update_lists : section_fault (section_field body) ≡ None
      → is_err (announced_attributes (section_field body) (nlri_field body)) ≡ false → ListsPrefix (update_message (update_of body))
  unfolding update_of
  update_lists none there =
      let before = counted (withdrawn_field body) withdrawn first in
      let behind = counted (nlri_field body) nlri second in
      rw (before.1, behind.1, lengths, none)
      (lists (announced_attributes (section_field body) (nlri_field body)) before.0 behind.0 there
      (counted_some (nlri_field body) behind.0 behind.2 octets))

  pub treating_update_lists : reset_of (strongest_in (section_field body)) ≡ None → ListsPrefix (treating_message (treating_update_of body))
  unfolding treating_update_of
  treating_update_lists none =
      let before = counted (withdrawn_field body) withdrawn first in
      let behind = counted (nlri_field body) nlri second in
      rw (before.1, behind.1, lengths, none)
      (treating_lists before.0 behind.0 (standing_attributes (strongest_in (section_field body)) (section_field body) (nlri_field body))
      (counted_some (nlri_field body) behind.0 behind.2 octets))
