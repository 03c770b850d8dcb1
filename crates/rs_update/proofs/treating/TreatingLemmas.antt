-- A message by either standard of handling faults: for message.rt, `concerns_prefix` of concerns.rt,
-- `by_rfc_4271_a_message_says_what_it_says` of laws.rt, AgreeLemmas, ConcernLemmas and RoomLemmas.
use Rattle.std.proofs.Common.{◌≡◌, ℕ, ◌<◌, List, [], ◌∷◌, length, drop, Option, Some, None, Result, Ok, Err, refl, sym, ap, ◌∙◌, arith}
use Rattle.std.specs.Prelude.{◌↔◌, IfOk, IsSome}
use Rattle.std.specs.Option.{is_some}
use Rattle.std.proofs.lemmas.Bool.{true≢false}
use Rattle.rs_update.specs.declared.errors.Errors.{Errors}
use Rattle.rs_update.specs.declared.errors.Errors.TheVariants.{Rfc4271, Rfc7606}
use Rattle.rs_update.specs.declared.fault.HeaderFault.{HeaderFault}
use Rattle.rs_update.specs.declared.fault.MessageFault.{MessageFault}
use Rattle.rs_types.specs.declared.fault.UpdateFault.{UpdateFault}
use Rattle.rs_types.specs.declared.handling.Handling.{Handling}
use Rattle.rs_update.specs.declared.header.MessageType.{MessageType}
use Rattle.rs_update.specs.declared.message.Message.{Message}
use Rattle.rs_update.specs.declared.message.Message.TheVariants as kinds
use Rattle.rs_types.specs.FirstFault.{first_fault}
use Rattle.rs_update.specs.Fault.{of_header}
use Rattle.rs_update.specs.Handling.{strongest_in}
use Rattle.rs_update.specs.Header.{header_of}
use Rattle.rs_types.specs.IpPrefix.{IpPrefix}
use Rattle.rs_update.specs.Message.{MessageContent, UpdateContent, TreatedContent, IsUpdate, IsTreated, ◌>>=◌, passes, length_tests}
use Rattle.rs_update.specs.Message.{listed_prefixes, withdrawn_field, section_field, nlri_field, update_content_of, update_message}
use Rattle.rs_update.specs.Message.{update_of, typed_message, message_of, Answers, HasAttributesForRoutes, IsUntreated}
use Rattle.rs_types.specs.PathAttributes.{PathAttributes}
use Rattle.rs_types.specs.Prefix.{prefixes_of}
use Rattle.rs_update.specs.Treating.{reset_of, kept_attributes, standing_attributes, content_with, treating_update_of, treating_message}
use Rattle.rs_update.specs.Treating.{update_by, typed_message_by, message_by}
use Rattle.rs_update.proofs.message.MessageLemmas.{attributes_for_routes, listed_is}
use Rattle.rs_update.proofs.fields.PrefixLemmas.{no_prefix, some_prefix}

-- behind a header without fault, a message is what its type says
pub message_by-typed : (errors : Errors) (octets : List ℕ) (kind : MessageType) → header_of octets ≡ Ok kind
    → message_by errors octets ≡ typed_message_by errors kind (drop 19 octets)
unfolding message_by
message_by-typed errors octets kind e = rw (e, message_by) refl

-- ---- RFC 4271 is what it was

pub by_rfc_4271 : (octets : List ℕ) → message_by Rfc4271 octets ≡ message_of octets
unfolding message_by message_of
by_rfc_4271 octets = grind arith

-- ---- by it nothing is treated as withdrawn

typed_untreated : (header : Result MessageType HeaderFault) (body : List ℕ) (treated : TreatedContent)
    → ◌≡◌ {A = Result MessageContent MessageFault} (elim header as (λ x. Result MessageContent MessageFault)
    [ Ok kind ↦ typed_message kind body | Err fault ↦ Err (of_header fault) ]) (Ok (IsTreated treated)) → ⊥
typed_untreated header body treated e = grind arith

pub untreated_answered : (octets : List ℕ) (result : Result Message MessageFault) → Answers result (message_of octets)
    → IfOk result IsUntreated
unfolding message_of
untreated_answered octets (Ok (kinds.Treated withdrawn nlri)) answers = typed_untreated (header_of octets) (drop 19 octets) _ answers
untreated_answered octets result answers = tt

-- ---- attributes and announced prefixes

-- the steps of an UPDATE by RFC 7606, over what each of them finds
abbrev pub treating_steps : Option UpdateFault → Option UpdateFault → Result (List IpPrefix) UpdateFault
    → Result (List IpPrefix) UpdateFault → Option (Option PathAttributes) → Result MessageContent UpdateFault
treating_steps lengths section withdrawn nlri standing = do
  _lengths ← passes lengths
  _section ← passes section
  first ← withdrawn
  second ← nlri
  Ok (content_with standing first second)

steps-content : (lengths section : Option UpdateFault) (withdrawn nlri : Result (List IpPrefix) UpdateFault)
    (standing : Option (Option PathAttributes)) (content : UpdateContent)
    → treating_steps lengths section withdrawn nlri standing ≡ Ok (IsUpdate content) → (nlri ≡ Ok content.nlri)
    × (standing ≡ Some content.attributes)
steps-content lengths section withdrawn nlri standing content e = (grind arith, grind arith)

standing_kept : (handling : Handling) (section nlri : List ℕ) (attributes : Option PathAttributes)
    → standing_attributes handling section nlri ≡ Some attributes → kept_attributes section nlri ≡ Some attributes
standing_kept handling section nlri attributes e = grind arith

both_there : (section nlri : List ℕ) (attributes : Option PathAttributes) (prefixes : List IpPrefix)
    → kept_attributes section nlri ≡ Some attributes → prefixes_of nlri ≡ Some prefixes
    → IsSome attributes ↔ (0 < length prefixes)
both_there section [] attributes prefixes kept listed =
    let none : None ≡ attributes = cc in
    let empty : [] ≡ prefixes = cc (no_prefix) in
    (λ some. absurd (true≢false (sym some ∙ ap is_some (sym none))), λ some. absurd (omega (arith, ap (length {A = IpPrefix}) empty)))
both_there section (octet ∷ nlri) attributes prefixes kept listed =
    (λ some. some_prefix octet nlri prefixes listed, λ some. grind arith)

treating_routes : (body : List ℕ) (content : UpdateContent) → treating_update_of body ≡ Ok (IsUpdate content) → IsSome content.attributes
    ↔ (0 < length content.nlri)
unfolding treating_update_of
treating_routes body content e =
    let section = section_field body in
    let standing = standing_attributes (strongest_in section) section (nlri_field body) in
    let given = steps-content (first_fault (length_tests body)) (reset_of (strongest_in section)) (listed_prefixes (withdrawn_field body))
    (listed_prefixes (nlri_field body)) standing content e in
    both_there section (nlri_field body) content.attributes content.nlri
    (standing_kept (strongest_in section) section (nlri_field body) content.attributes given.1)
    (listed_is (nlri_field body) content.nlri given.0)

message-is_update : (read : Result UpdateContent UpdateFault) (content : UpdateContent) → update_message read ≡ Ok (IsUpdate content)
    → read ≡ Ok content
message-is_update read content e = grind arith

message-is_treating : (read : Result MessageContent UpdateFault) (content : MessageContent) → treating_message read ≡ Ok content
    → read ≡ Ok content
message-is_treating read content e = grind arith

update_routes : (errors : Errors) (body : List ℕ) (content : UpdateContent) → update_by errors body ≡ Ok (IsUpdate content)
    → IsSome content.attributes ↔ (0 < length content.nlri)
update_routes Rfc4271 body content e = attributes_for_routes body content (message-is_update (update_of body) content e)
update_routes Rfc7606 body content e = treating_routes body content (message-is_treating (treating_update_of body) (IsUpdate content) e)

pub routes_answered : (errors : Errors) (body : List ℕ) (result : Result Message MessageFault) → Answers result (update_by errors body)
    → IfOk result HasAttributesForRoutes
routes_answered errors body (Ok (kinds.Update update)) answers = update_routes errors body (update_content_of update) answers
routes_answered errors body result answers = tt
