-- A message behind its header: for `lacks_mandatory` of update.rt, two laws of messages in laws.rt, and the other lemmas of messages.
use Rattle.std.proofs.Common.{◌≡◌, ℕ, ◌<◌, Bool, true, false, not, ltb, List, [], ◌∷◌, length, drop, Option, Some, None, Result, Ok, Err}
use Rattle.std.proofs.Common.{refl, sym, ap, ◌∙◌, arith}
use Rattle.std.specs.Prelude.{◌↔◌, IsOk, IsSome, is_err}
use Rattle.std.specs.Option.{is_none, is_some, option_map, ok_or}
use Rattle.std.proofs.lemmas.Bool.{true≢false}
use Rattle.rs_update.specs.declared.fault.HeaderFault.{HeaderFault}
use Rattle.rs_update.specs.declared.fault.HeaderFault.TheVariants.{NotSynchronized, BadLength, BadType}
use Rattle.rs_update.specs.declared.fault.MessageFault.{MessageFault}
use Rattle.rs_update.specs.declared.header.MessageType.{MessageType}
use Rattle.rs_types.specs.declared.fault.UpdateFault.{UpdateFault}
use Rattle.rs_types.specs.FirstFault.{first_fault, or_else}
use Rattle.rs_update.specs.Fault.{of_header, of_update}
use Rattle.rs_types.specs.Gathered.{attributes_of}
use Rattle.rs_update.specs.Header.{header_fault, is_marked, has_length, suits_type, type_of, type_field}
use Rattle.rs_update.specs.Message.{MessageContent, UpdateContent, ◌>>=◌, passes, listed_prefixes, announced_attributes, section_field}
use Rattle.rs_update.specs.Message.{nlri_field, contents_fault, update_fault, update_message, update_of, message_fault, message_of}
use Rattle.rs_update.specs.Message.{typed_message}
use Rattle.rs_types.specs.Prefix.{prefixes_of}
use Rattle.rs_types.specs.Section.{items_of}
use Rattle.rs_types.specs.IpPrefix.{IpPrefix}
use Rattle.rs_types.specs.PathAttributes.{PathAttributes}
use Rattle.rs_update.proofs.fields.PrefixLemmas.{no_prefix, some_prefix}

-- ---- the first fault

-- what a reading answers in place of a value
abbrev pub err_of : {A E : Type 0} → Result A E → Option E
err_of (Ok x) = None
err_of (Err fault) = Some fault

-- the steps of an UPDATE, over what each of them finds
abbrev pub steps : Option UpdateFault → Option UpdateFault → Result (Option PathAttributes) UpdateFault → Result (List IpPrefix) UpdateFault
    → Result (List IpPrefix) UpdateFault → Result UpdateContent UpdateFault
steps lengths section announced withdrawn nlri = do
  _lengths ← passes lengths
  _section ← passes section
  attributes ← announced
  first ← withdrawn
  second ← nlri
  Ok (record { withdrawn = first; attributes = attributes; nlri = second })

err_of-update : (body : List ℕ) → err_of (update_of body) ≡ update_fault body
unfolding update_of
err_of-update body = grind arith

err_of-update_message : (read : Result UpdateContent UpdateFault) → err_of (update_message read) ≡ option_map of_update (err_of read)
err_of-update_message read = grind arith

-- without a fault of the header its type is known
fourth : {F : Type 0} (a b c d e : Bool) (v w x y z : F) → first_fault ((a, v) ∷ (b, w) ∷ (c, x) ∷ (d, y) ∷ (e, z) ∷ []) ≡ None → d ≡ false
fourth a b c d e v w x y z none = grind arith

type_is_known : (octets : List ℕ) → header_fault octets ≡ None → is_none (type_of (type_field octets)) ≡ false
type_is_known octets none =
    fourth (ltb (length octets) 19) (not (is_marked octets)) (not (has_length octets)) (is_none (type_of (type_field octets)))
    (not (suits_type (type_of (type_field octets)) (length octets)))
    BadLength NotSynchronized BadLength BadType BadLength none

err_of-typed : (header : Option HeaderFault) (kind : Option MessageType) (body : List ℕ) → (header ≡ None → is_none kind ≡ false)
    → err_of (elim (elim header as (λ x. Result MessageType HeaderFault) [ None ↦ ok_or kind BadType | Some fault ↦ Err fault ]) as
    (λ x. Result MessageContent MessageFault) [ Ok typed ↦ typed_message typed body | Err fault ↦ Err (of_header fault) ])
    ≡ or_else (option_map of_header header) (option_map of_update (contents_fault kind body))
err_of-typed header kind body known = grind (arith, err_of-update body)

-- the fault of a message is that of the first test that finds one
pub err_of-message : (octets : List ℕ) → err_of (message_of octets) ≡ message_fault octets
unfolding message_of
err_of-message octets = err_of-typed (header_fault octets) (type_of (type_field octets)) (drop 19 octets) (type_is_known octets)

pub err_of-iff : {A E : Type 0} (read : Result A E) (fault : E) → (read ≡ Err fault) ↔ (err_of read ≡ Some fault)
err_of-iff (Ok x) fault = (λ e. absurd cc, λ e. absurd cc)
err_of-iff (Err first) fault = (λ e. cc, λ e. cc)

pub ok_iff : {A E : Type 0} (read : Result A E) → IsOk read ↔ (err_of read ≡ None)
ok_iff (Ok x) = (λ e. refl, λ e. refl)
ok_iff (Err first) = (λ e. absurd (true≢false (sym e)), λ e. absurd cc)

-- ---- attributes and announced prefixes

pub listed_is : (octets : List ℕ) (prefixes : List IpPrefix) → listed_prefixes octets ≡ Ok prefixes → prefixes_of octets ≡ Some prefixes
listed_is octets prefixes e = grind arith

announced_is : (section : List ℕ) (octet : ℕ) (nlri : List ℕ) (attributes : Option PathAttributes)
    → announced_attributes section (octet ∷ nlri) ≡ Ok attributes → is_some attributes ≡ true
announced_is section octet nlri attributes e = grind arith

both_there : (section nlri : List ℕ) (attributes : Option PathAttributes) (prefixes : List IpPrefix)
    → announced_attributes section nlri ≡ Ok attributes → prefixes_of nlri ≡ Some prefixes → IsSome attributes ↔ (0 < length prefixes)
both_there section [] attributes prefixes announced listed =
    let none : None ≡ attributes = cc in
    let empty : [] ≡ prefixes = cc (no_prefix) in
    (λ some. absurd (true≢false (sym some ∙ ap is_some (sym none))), λ some. absurd (omega (arith, ap (length {A = IpPrefix}) empty)))
both_there section (octet ∷ nlri) attributes prefixes announced listed =
    (λ some. some_prefix octet nlri prefixes listed, λ some. announced_is section octet nlri attributes announced)

-- attributes are there exactly where prefixes are announced
pub attributes_for_routes : (body : List ℕ) (content : UpdateContent) → update_of body ≡ Ok content → IsSome content.attributes
    ↔ (0 < length content.nlri)
unfolding update_of
attributes_for_routes body content e =
    let announced : announced_attributes (section_field body) (nlri_field body) ≡ Ok content.attributes = grind arith in
    let listed : listed_prefixes (nlri_field body) ≡ Ok content.nlri = grind arith in
    both_there (section_field body) (nlri_field body) content.attributes content.nlri announced
    (listed_is (nlri_field body) content.nlri listed)

-- where routes are announced, a section that gives them no attributes is at fault
pub announced-missing : (section nlri : List ℕ) → 0 < length nlri
    → not (is_some (attributes_of (items_of section))) ≡ is_err (announced_attributes section nlri)
announced-missing section nlri some = grind arith
