-- A message and its first fault (RFC 4271, sections 4.1, 4.3, 6.1 and 6.3).
use Rattle.std.specs.Prelude.{◌≡◌, ◌↔◌, ℕ, ◌+◌, ◌<◌, Bool, not, ◌&&◌, ◌==◌, nat_lt, List, [], ◌∷◌, length, take, drop}
use Rattle.std.specs.Prelude.{Option, Some, None, IsSome, Result, Ok, Err}
use Rattle.std.specs.Option.{is_none, option_map}
use Rattle.byteorder.specs.Endian.{big_number}
use Rattle.rs_types.specs.declared.fault.UpdateFault.{UpdateFault}
use Rattle.rs_types.specs.declared.fault.UpdateFault.TheVariants.{MalformedAttributeList, MissingWellKnown}
use Rattle.rs_types.specs.declared.fault.UpdateFault.TheVariants.{InvalidNetworkField}
use Rattle.rs_update.specs.declared.fault.MessageFault.{MessageFault}
use Rattle.rs_update.specs.declared.fault.MessageFault.TheVariants as faults
use Rattle.rs_update.specs.declared.header.MessageType.{MessageType}
use Rattle.rs_update.specs.declared.header.MessageType.TheVariants as types
use Rattle.rs_update.specs.declared.message.Message.{Message}
use Rattle.rs_update.specs.declared.message.Message.TheVariants as kinds
use Rattle.rs_update.specs.declared.message.Update.{Update}
use Rattle.rs_types.specs.FirstFault.{first_fault, or_else}
use Rattle.rs_update.specs.Fault.{of_header, of_update}
use Rattle.rs_update.specs.Header.{header_fault, header_of, type_of, type_field}
use Rattle.rs_types.specs.IpPrefix.{IpPrefix}
use Rattle.rs_types.specs.PathAttributes.{PathAttributes}
use Rattle.rs_types.specs.Prefix.{prefixes_of}
use Rattle.rs_types.specs.Section.{items_of, section_fault}
use Rattle.rs_types.specs.Gathered.{attributes_of}

-- what an UPDATE says: the prefixes withdrawn, and the prefixes announced with their attributes
pub record UpdateContent : Type 0 where
  pub withdrawn : List IpPrefix
  pub attributes : Option PathAttributes
  pub nlri : List IpPrefix

-- an UPDATE whose routes are all treated as withdrawn (RFC 7606, section 2): the prefixes withdrawn, and the
-- prefixes announced
pub record TreatedContent : Type 0 where
  pub withdrawn : List IpPrefix
  pub nlri : List IpPrefix

-- a message by its type; contents are kept of an UPDATE alone
pub data MessageContent : Type 0 where
  IsOpen : MessageContent
  IsUpdate : UpdateContent → MessageContent
  IsTreated : TreatedContent → MessageContent
  IsNotification : MessageContent
  IsKeepAlive : MessageContent
  IsRefresh : MessageContent

abbrev pub update_content_of : Update → UpdateContent
update_content_of update =
    record { withdrawn = update.withdrawn.items; attributes = update.attributes; nlri = update.nlri.items }

abbrev pub content_of : Message → MessageContent
content_of kinds.Open = IsOpen
content_of (kinds.Update update) = IsUpdate (update_content_of update)
content_of (kinds.Treated withdrawn nlri) = IsTreated (record { withdrawn = withdrawn.items; nlri = nlri.items })
content_of kinds.Notification = IsNotification
content_of kinds.KeepAlive = IsKeepAlive
content_of kinds.Refresh = IsRefresh

-- ---- an UPDATE behind its header (section 4.3): Withdrawn Routes Length, Withdrawn Routes, Total Path
-- Attribute Length, Path Attributes, NLRI

-- Withdrawn Routes Length: the first two octets
abbrev pub withdrawn_length : List ℕ → ℕ
withdrawn_length body = big_number 2 body

-- the Withdrawn Routes
abbrev pub withdrawn_field : List ℕ → List ℕ
withdrawn_field body = take (withdrawn_length body) (drop 2 body)

-- the octets behind the Withdrawn Routes
abbrev pub behind_withdrawn : List ℕ → List ℕ
behind_withdrawn body = drop (2 + withdrawn_length body) body

-- Total Path Attribute Length
abbrev pub section_length : List ℕ → ℕ
section_length body = big_number 2 (behind_withdrawn body)

-- the Path Attributes
abbrev pub section_field : List ℕ → List ℕ
section_field body = take (section_length body) (drop 2 (behind_withdrawn body))

-- the NLRI: all octets behind the Path Attributes
abbrev pub nlri_field : List ℕ → List ℕ
nlri_field body = drop (2 + section_length body) (behind_withdrawn body)

-- the tests that both length fields stay inside the message
abbrev pub length_tests : List ℕ → List (Bool × UpdateFault)
length_tests body =
    (nat_lt (length body) (withdrawn_length body + 4), MalformedAttributeList)
    ∷ (nat_lt (length body) (withdrawn_length body + section_length body + 4), MalformedAttributeList) ∷ []

-- the attributes of the routes announced: None if no route is announced; otherwise ORIGIN, AS_PATH and NEXT_HOP must
-- be there (section 6.3)
abbrev pub announced_attributes : List ℕ → List ℕ → Result (Option PathAttributes) UpdateFault
announced_attributes section [] = Ok None
announced_attributes section (octet ∷ nlri) =
    elim (attributes_of (items_of section)) [ None ↦ Err MissingWellKnown | Some attributes ↦ Ok (Some attributes) ]

-- the prefixes that a field lists, or the fault that it lists none
abbrev pub listed_prefixes : List ℕ → Result (List IpPrefix) UpdateFault
listed_prefixes octets = elim (prefixes_of octets) [ None ↦ Err InvalidNetworkField | Some prefixes ↦ Ok prefixes ]

-- a test that passes if there is no fault
abbrev pub passes : Option UpdateFault → Result (Unit {0}) UpdateFault
passes None = Ok tt
passes (Some fault) = Err fault

infixl 10 ◌>>=◌
abbrev pub ◌>>=◌ : {A B : Type 0} → Result A UpdateFault → (A → Result B UpdateFault) → Result B UpdateFault
(Ok x) >>= f = f x
(Err fault) >>= f = Err fault

-- What the body of an UPDATE says, or its first fault. The tests come in this order (our choice): lengths,
-- attributes, mandatory attributes, withdrawn routes, NLRI.
unfoldable pub update_of : List ℕ → Result UpdateContent UpdateFault
update_of body = do
  _lengths ← passes (first_fault (length_tests body))
  _section ← passes (section_fault (section_field body))
  attributes ← announced_attributes (section_field body) (nlri_field body)
  withdrawn ← listed_prefixes (withdrawn_field body)
  nlri ← listed_prefixes (nlri_field body)
  Ok (record { withdrawn = withdrawn; attributes = attributes; nlri = nlri })

abbrev pub update_message : Result UpdateContent UpdateFault → Result MessageContent MessageFault
update_message (Ok update) = Ok (IsUpdate update)
update_message (Err fault) = Err (of_update fault)

-- a message of this type and body; the bodies of messages other than UPDATE are not read
abbrev pub typed_message : MessageType → List ℕ → Result MessageContent MessageFault
typed_message types.Open body = Ok IsOpen
typed_message types.Update body = update_message (update_of body)
typed_message types.Notification body = Ok IsNotification
typed_message types.KeepAlive body = Ok IsKeepAlive
typed_message types.Refresh body = Ok IsRefresh

-- the message that the octets are, or its first fault; the header takes 19 octets
unfoldable pub message_of : List ℕ → Result MessageContent MessageFault
message_of octets =
    elim (header_of octets) [ Ok kind ↦ typed_message kind (drop 19 octets) | Err fault ↦ Err (of_header fault) ]

-- ---- the first fault, as a list of tests

-- whether routes are announced while ORIGIN, AS_PATH or NEXT_HOP is missing
abbrev pub lacks_mandatory : List ℕ → Bool
lacks_mandatory body = not (length (nlri_field body) == 0) && is_none (attributes_of (items_of (section_field body)))

-- the tests of an UPDATE that come after the tests of its path attributes
abbrev pub field_tests : List ℕ → List (Bool × UpdateFault)
field_tests body =
    (lacks_mandatory body, MissingWellKnown)
    ∷ (is_none (prefixes_of (withdrawn_field body)), InvalidNetworkField)
    ∷ (is_none (prefixes_of (nlri_field body)), InvalidNetworkField) ∷ []

-- the first fault of an UPDATE; the order is lengths, path attributes, mandatory attributes, withdrawn routes, NLRI
abbrev pub update_fault : List ℕ → Option UpdateFault
update_fault body =
    or_else (first_fault (length_tests body))
    (or_else (section_fault (section_field body)) (first_fault (field_tests body)))

-- contents can be at fault in an UPDATE alone
abbrev pub contents_fault : Option MessageType → List ℕ → Option UpdateFault
contents_fault None body = None
contents_fault (Some types.Open) body = None
contents_fault (Some types.Update) body = update_fault body
contents_fault (Some types.Notification) body = None
contents_fault (Some types.KeepAlive) body = None
contents_fault (Some types.Refresh) body = None

-- the first fault of a message: that of its header, or else that of its contents
abbrev pub message_fault : List ℕ → Option MessageFault
message_fault octets =
    or_else (option_map of_header (header_fault octets))
    (option_map of_update (contents_fault (type_of (type_field octets)) (drop 19 octets)))

-- ---- the answers of a reader of messages

-- an UPDATE without fault that lists some prefix: only for its prefixes a reader allocates memory
abbrev pub ListsPrefix : Result MessageContent MessageFault → Type 0
ListsPrefix (Ok (IsUpdate update)) = 0 < length update.withdrawn + length update.nlri
ListsPrefix (Ok (IsTreated treated)) = 0 < length treated.withdrawn + length treated.nlri
ListsPrefix (Ok IsOpen) = ⊥
ListsPrefix (Ok IsNotification) = ⊥
ListsPrefix (Ok IsKeepAlive) = ⊥
ListsPrefix (Ok IsRefresh) = ⊥
ListsPrefix (Err fault) = ⊥

-- A reader of an UPDATE answers what its octets say. It may answer that memory was refused only if the UPDATE lists
-- a prefix.
abbrev pub AnswersUpdate : Result Update MessageFault → Result UpdateContent UpdateFault → Type 0
AnswersUpdate (Ok update) says = says ≡ Ok (update_content_of update)
AnswersUpdate (Err faults.Memory) says = ListsPrefix (update_message says)
AnswersUpdate (Err (faults.Bgp code subcode)) says = update_message says ≡ Err (faults.Bgp code subcode)

-- A reader of a message answers what its octets say. It may answer that memory was refused only if the message is an
-- UPDATE that lists a prefix.
abbrev pub Answers : Result Message MessageFault → Result MessageContent MessageFault → Type 0
Answers (Ok message) says = says ≡ Ok (content_of message)
Answers (Err faults.Memory) says = ListsPrefix says
Answers (Err (faults.Bgp code subcode)) says = says ≡ Err (faults.Bgp code subcode)

-- an UPDATE has attributes exactly if it announces prefixes
abbrev pub HasAttributesForRoutes : Message → Type 0
HasAttributesForRoutes kinds.Open = Unit {0}
HasAttributesForRoutes (kinds.Update update) = IsSome update.attributes ↔ (0 < length update.nlri.items)
HasAttributesForRoutes (kinds.Treated withdrawn nlri) = Unit {0}
HasAttributesForRoutes kinds.Notification = Unit {0}
HasAttributesForRoutes kinds.KeepAlive = Unit {0}
HasAttributesForRoutes kinds.Refresh = Unit {0}

-- the message is not an UPDATE whose routes are treated as withdrawn
abbrev pub IsUntreated : Message → Type 0
IsUntreated kinds.Open = Unit {0}
IsUntreated (kinds.Update update) = Unit {0}
IsUntreated (kinds.Treated withdrawn nlri) = ⊥
IsUntreated kinds.Notification = Unit {0}
IsUntreated kinds.KeepAlive = Unit {0}
IsUntreated kinds.Refresh = Unit {0}
