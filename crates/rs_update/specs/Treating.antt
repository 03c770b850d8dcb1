-- A message under either standard of handling faults: RFC 4271, or RFC 7606 (sections 2 to 4 and 7).
use Rattle.std.specs.Prelude.{ℕ, List, [], ◌∷◌, drop, Option, Some, None, Result, Ok, Err}
use Rattle.std.specs.Option.{option_map}
use Rattle.rs_update.specs.declared.errors.Errors.{Errors}
use Rattle.rs_update.specs.declared.errors.Errors.TheVariants.{Rfc4271, Rfc7606}
use Rattle.rs_types.specs.declared.fault.UpdateFault.{UpdateFault}
use Rattle.rs_update.specs.declared.fault.MessageFault.{MessageFault}
use Rattle.rs_types.specs.declared.handling.Handling.{Handling}
use Rattle.rs_types.specs.declared.handling.Handling.TheVariants.{TreatAsWithdraw, SessionReset}
use Rattle.rs_update.specs.declared.header.MessageType.{MessageType}
use Rattle.rs_update.specs.declared.header.MessageType.TheVariants as types
use Rattle.rs_update.specs.declared.update.Treatment.{Treatment}
use Rattle.rs_update.specs.declared.update.Treatment.TheVariants.{Withdrawn, Stands}
use Rattle.rs_types.specs.FirstFault.{first_fault}
use Rattle.rs_update.specs.Fault.{of_header, of_update}
use Rattle.rs_types.specs.Gathered.{attributes_of}
use Rattle.rs_update.specs.Handling.{kept_of, strongest_in}
use Rattle.rs_update.specs.Header.{header_of}
use Rattle.rs_types.specs.IpPrefix.{IpPrefix}
use Rattle.rs_update.specs.Message.{MessageContent, IsOpen, IsUpdate, IsTreated, IsNotification, IsKeepAlive}
use Rattle.rs_update.specs.Message.{IsRefresh, ◌>>=◌, passes, length_tests, listed_prefixes, withdrawn_field}
use Rattle.rs_update.specs.Message.{section_field, nlri_field, update_message, update_of}
use Rattle.rs_types.specs.PathAttributes.{PathAttributes}
use Rattle.rs_types.specs.Section.{items_of}

-- the fault that resets the session, if this handling is a reset
abbrev pub reset_of : Handling → Option UpdateFault
reset_of (SessionReset fault) = Some fault
reset_of handling = None

-- The attributes of the routes announced, out of those that are not discarded. If no route is announced, there are
-- none. The outer None says that a mandatory attribute is missing.
abbrev pub kept_attributes : List ℕ → List ℕ → Option (Option PathAttributes)
kept_attributes section [] = Some None
kept_attributes section (octet ∷ nlri) = option_map Some (attributes_of (kept_of (items_of section)))

-- the attributes of the routes announced; None if a fault asks for treat-as-withdraw, or if a mandatory attribute is
-- missing
abbrev pub standing_attributes : Handling → List ℕ → List ℕ → Option (Option PathAttributes)
standing_attributes TreatAsWithdraw section nlri = None
standing_attributes handling section nlri = kept_attributes section nlri

abbrev pub attributes_in : Treatment → Option (Option PathAttributes)
attributes_in Withdrawn = None
attributes_in (Stands attributes) = Some attributes

-- an UPDATE that counts with its attributes, or one whose routes are all treated as withdrawn
abbrev pub content_with : Option (Option PathAttributes) → List IpPrefix → List IpPrefix → MessageContent
content_with None withdrawn nlri = IsTreated (record { withdrawn = withdrawn; nlri = nlri })
content_with (Some attributes) withdrawn nlri =
    IsUpdate (record { withdrawn = withdrawn; attributes = attributes; nlri = nlri })

-- What the body of an UPDATE says under RFC 7606. A fault that resets the session counts before all others. Such
-- faults are looked for in this order (our choice): lengths, the section from front to back and its rest, withdrawn
-- routes, NLRI.
unfoldable pub treating_update_of : List ℕ → Result MessageContent UpdateFault
treating_update_of body = do
  _lengths ← passes (first_fault (length_tests body))
  _section ← passes (reset_of (strongest_in (section_field body)))
  withdrawn ← listed_prefixes (withdrawn_field body)
  nlri ← listed_prefixes (nlri_field body)
  Ok (content_with
      (standing_attributes (strongest_in (section_field body)) (section_field body) (nlri_field body)) withdrawn nlri)

abbrev pub treating_message : Result MessageContent UpdateFault → Result MessageContent MessageFault
treating_message (Ok content) = Ok content
treating_message (Err fault) = Err (of_update fault)

-- what the body of an UPDATE says, or its first fault, under a standard of handling faults
abbrev pub update_by : Errors → List ℕ → Result MessageContent MessageFault
update_by Rfc4271 body = update_message (update_of body)
update_by Rfc7606 body = treating_message (treating_update_of body)

-- a message of this type and body; the bodies of messages other than UPDATE are not read
abbrev pub typed_message_by : Errors → MessageType → List ℕ → Result MessageContent MessageFault
typed_message_by errors types.Open body = Ok IsOpen
typed_message_by errors types.Update body = update_by errors body
typed_message_by errors types.Notification body = Ok IsNotification
typed_message_by errors types.KeepAlive body = Ok IsKeepAlive
typed_message_by errors types.Refresh body = Ok IsRefresh

-- the message that the octets are, or its first fault, under a standard of handling faults
unfoldable pub message_by : Errors → List ℕ → Result MessageContent MessageFault
message_by errors octets =
    elim (header_of octets) [
      | Ok kind ↦ typed_message_by errors kind (drop 19 octets)
      | Err fault ↦ Err
          (of_header fault)
    ]
