-- Whether a message may concern a prefix, by the types that stand in its section and by its fields: for concerns.rt.
use Rattle.std.proofs.Common.{◌≡◌, ℕ, ◌<◌, Bool, true, false, not, ◌==◌, ◌||◌, cond, List, [], ◌∷◌, length, drop, get_or, Option, Some}
use Rattle.std.proofs.Common.{None, Result, Ok, Err, refl, sym, ap, ◌∙◌, arith}
use Rattle.std.specs.Prelude.{is_err, is_some, if◌then◌else◌}
use Rattle.std.specs.Option.{option_map_or}
use mathlib.Core.Bool.{or_assoc}
use Rattle.rs_update.specs.declared.errors.Errors.{Errors}
use Rattle.rs_update.specs.declared.errors.Errors.TheVariants.{Rfc4271, Rfc7606}
use Rattle.rs_update.specs.declared.fault.HeaderFault.{HeaderFault}
use Rattle.rs_types.specs.declared.fault.UpdateFault.{UpdateFault}
use Rattle.rs_types.specs.declared.fault.UpdateFault.TheVariants.{InvalidNetworkField}
use Rattle.rs_update.specs.declared.header.MessageType.{MessageType}
use Rattle.rs_update.specs.declared.header.MessageType.TheVariants as types
use Rattle.rs_update.specs.Concerns.{AreTypesOf, field_concerns, has_mandatory, message_concerns, section_closes}
use Rattle.rs_types.specs.Covering.{covers, lists_cover}
use Rattle.rs_types.specs.FirstFault.{first_fault}
use Rattle.rs_types.specs.Gathered.{attributes_of, look}
use Rattle.rs_update.specs.Handling.{strongest_in}
use Rattle.rs_update.specs.Header.{header_of}
use Rattle.rs_types.specs.IpPrefix.{IpPrefix}
use Rattle.rs_update.specs.Message.{length_tests, announced_attributes, withdrawn_field, section_field, nlri_field, update_message}
use Rattle.rs_update.specs.Message.{update_of}
use Rattle.rs_types.specs.PathAttributes.{PathAttributes}
use Rattle.rs_types.specs.Prefix.{prefix_at, prefixes_of}
use Rattle.rs_types.specs.Section.{Item, items_of, section_fault}
use Rattle.rs_update.specs.Treating.{reset_of, standing_attributes, treating_message, treating_update_of, update_by, typed_message_by}
use Rattle.rs_update.specs.Treating.{message_by}
use Rattle.rs_update.proofs.message.MessageLemmas.{steps, announced-missing}
use Rattle.rs_update.proofs.fields.PrefixLemmas.{prefixes_more, prefixes_end}
use Rattle.rs_update.proofs.treating.TreatingLemmas.{message_by-typed, treating_steps}
use Rattle.rs_types.proofs.section.KindLemmas.{has_look}
use Rattle.rs_update.proofs.gather.WholeLemmas.{mandatory_given}

mandatory_types : (seen : List Bool) (items : List Item) → AreTypesOf seen items → has_mandatory seen ≡ is_some (attributes_of items)
mandatory_types seen items are = mandatory_given items (each 1 (omega arith)) (each 2 (omega arith)) (each 3 (omega arith))
  where
    each : (kind : ℕ) → kind < 256 → get_or seen kind false ≡ is_some (look kind items)
    each kind below = are kind below ∙ has_look kind items

-- a section without fault closes where a mandatory attribute of announced routes misses
pub lacking_closes : (seen : List Bool) (section nlri : List ℕ) → section_fault section ≡ None → AreTypesOf seen (items_of section)
    → 0 < length nlri → not (has_mandatory seen) ≡ section_closes Rfc4271 section nlri
lacking_closes seen section nlri none are some =
    rw none (ap not (mandatory_types seen (items_of section) are) ∙ announced-missing section nlri some)

-- ---- a field

-- by the prefixes listed and what is left over
abbrev parts_concern : IpPrefix → List IpPrefix × List ℕ → Bool
parts_concern prefix parts = option_map_or (lists_cover prefix) (if length parts.1 == 0 then Some parts.0 else None) true

first_concerns : (prefix front : IpPrefix) (prefixes : List IpPrefix) (whole : Bool)
    → option_map_or (lists_cover prefix) (cond whole (Some (front ∷ prefixes)) None) true
    ≡ (covers front prefix || option_map_or (lists_cover prefix) (cond whole (Some prefixes) None) true)
first_concerns prefix front prefixes whole = grind arith

-- a prefix in front covers it, or what stands behind concerns it
pub concerns_more : (prefix front : IpPrefix) (octets rest : List ℕ) → Some (front, rest) ≡ prefix_at octets
    → field_concerns prefix octets ≡ (covers front prefix || field_concerns prefix rest)
concerns_more prefix front octets rest read =
    ap (parts_concern prefix) (prefixes_more octets front rest read) ∙ first_concerns prefix front _ _

end_concerns : (prefix : IpPrefix) (whole : Bool) → option_map_or (lists_cover prefix) (cond whole (Some []) None) true ≡ not whole
end_concerns prefix whole = grind arith

-- what begins with no prefix is at fault unless it is empty
pub concerns_end : (prefix : IpPrefix) (octets : List ℕ) → None ≡ prefix_at octets → field_concerns prefix octets ≡ not (length octets == 0)
concerns_end prefix octets none = ap (parts_concern prefix) (prefixes_end octets none) ∙ end_concerns prefix _

-- ---- an UPDATE

-- a field as a step of the reading
abbrev listed : Option (List IpPrefix) → Result (List IpPrefix) UpdateFault
listed found = elim found [ None ↦ Err InvalidNetworkField | Some prefixes ↦ Ok prefixes ]

abbrev concerned : IpPrefix → Option (List IpPrefix) → Bool
concerned prefix found = option_map_or (lists_cover prefix) found true

-- by RFC 4271
steps_concern : (prefix : IpPrefix) (section : Option UpdateFault) (announced : Result (Option PathAttributes) UpdateFault)
    (withdrawn nlri : Option (List IpPrefix))
    → message_concerns prefix (update_message (steps None section announced (listed withdrawn) (listed nlri)))
    ≡ ((is_some section || is_err announced) || (concerned prefix withdrawn || concerned prefix nlri))
steps_concern prefix section announced withdrawn nlri = grind arith

-- by RFC 7606
treating_steps_concern : (prefix : IpPrefix) (section : Option UpdateFault) (withdrawn nlri : Option (List IpPrefix))
    (standing : Option (Option PathAttributes))
    → message_concerns prefix (treating_message (treating_steps None section (listed withdrawn) (listed nlri) standing))
    ≡ (is_some section || (concerned prefix withdrawn || concerned prefix nlri))
treating_steps_concern prefix section withdrawn nlri standing = grind arith

-- an UPDATE whose lengths are at fault
pub lengths_concern : (errors : Errors) (prefix : IpPrefix) (body : List ℕ) (fault : UpdateFault)
    → first_fault (length_tests body) ≡ Some fault → message_concerns prefix (update_by errors body) ≡ true
unfolding update_of treating_update_of
lengths_concern Rfc4271 prefix body fault found = rw (update_of, found) refl
lengths_concern Rfc7606 prefix body fault found = rw (treating_update_of, found) refl

-- one whose lengths are not: its section closes, or one of its fields concerns the prefix
pub update_concern : (errors : Errors) (prefix : IpPrefix) (body : List ℕ) → first_fault (length_tests body) ≡ None
    → message_concerns prefix (update_by errors body) ≡ (section_closes errors (section_field body) (nlri_field body)
    || (field_concerns prefix (withdrawn_field body) || field_concerns prefix (nlri_field body)))
unfolding update_of treating_update_of
update_concern Rfc4271 prefix body none =
    rw (update_of, none) (steps_concern prefix (section_fault (section_field body))
    (announced_attributes (section_field body) (nlri_field body)) (prefixes_of (withdrawn_field body)) (prefixes_of (nlri_field body)))
update_concern Rfc7606 prefix body none =
    rw (treating_update_of, none)
    (treating_steps_concern prefix (reset_of (strongest_in (section_field body))) (prefixes_of (withdrawn_field body))
    (prefixes_of (nlri_field body))
    (standing_attributes (strongest_in (section_field body)) (section_field body) (nlri_field body)))

-- the same, by what the code answers of its parts
pub parts_of_update : (errors : Errors) (prefix : IpPrefix) (body withdrawn section nlri : List ℕ) (value closes : Bool)
    → withdrawn ≡ withdrawn_field body → section ≡ section_field body → nlri ≡ nlri_field body → first_fault (length_tests body) ≡ None
    → closes ≡ section_closes errors section nlri → value ≡ (closes || field_concerns prefix withdrawn)
    → (value || field_concerns prefix nlri) ≡ message_concerns prefix (update_by errors body)
parts_of_update errors prefix body withdrawn section nlri value closes w s n none c v =
    ap (λ (b : Bool). b || field_concerns prefix nlri) v ∙ or_assoc closes (field_concerns prefix withdrawn) (field_concerns prefix nlri)
    ∙ (rw (c, w, s, n) (sym (update_concern errors prefix body none)))

-- ---- a message

-- one whose header is at fault
pub header_concern : (errors : Errors) (prefix : IpPrefix) (octets : List ℕ) (fault : HeaderFault) → header_of octets ≡ Err fault
    → message_concerns prefix (message_by errors octets) ≡ true
unfolding message_by
header_concern errors prefix octets fault e = rw (e, message_by) refl

typed_concern : (errors : Errors) (prefix : IpPrefix) (kind : MessageType) (body : List ℕ) → (kind ≡ types.Update → ⊥)
    → message_concerns prefix (typed_message_by errors kind body) ≡ true
typed_concern errors prefix kind body other = grind arith

-- one of another type than UPDATE
pub other_concern : (errors : Errors) (prefix : IpPrefix) (octets : List ℕ) (kind : MessageType) → header_of octets ≡ Ok kind
    → (kind ≡ types.Update → ⊥) → message_concerns prefix (message_by errors octets) ≡ true
other_concern errors prefix octets kind e other =
    rw (message_by-typed errors octets kind e) (typed_concern errors prefix kind (drop 19 octets) other)
