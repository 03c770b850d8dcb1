-- The messages that may concern a prefix (RFC 4271, sections 4.3 and 9.1.4).
use Rattle.std.specs.Prelude.{◌≡◌, ℕ, ◌<◌, Bool, true, false, ◌||◌, ◌&&◌, List, slice_index_or}
use Rattle.std.specs.Prelude.{is_some, Result, Ok, Err, is_err}
use Rattle.std.specs.Option.{option_map_or}
use Rattle.rs_update.specs.declared.errors.Errors.{Errors}
use Rattle.rs_update.specs.declared.errors.Errors.TheVariants.{Rfc4271, Rfc7606}
use Rattle.rs_update.specs.declared.fault.MessageFault.{MessageFault}
use Rattle.rs_types.specs.Covering.{lists_cover}
use Rattle.rs_update.specs.Handling.{strongest_in}
use Rattle.rs_types.specs.IpPrefix.{IpPrefix}
use Rattle.rs_update.specs.Message.{MessageContent, IsOpen, IsUpdate, IsTreated, IsNotification, IsKeepAlive}
use Rattle.rs_update.specs.Message.{IsRefresh, announced_attributes}
use Rattle.rs_types.specs.Prefix.{prefixes_of}
use Rattle.rs_types.specs.Section.{Item, has_type, section_fault}
use Rattle.rs_update.specs.Treating.{reset_of}

-- An UPDATE may concern a prefix if its withdrawn routes or its NLRI list a prefix that covers it. It does not
-- matter whether its routes are treated as withdrawn. Every other message may concern the prefix, and so may every
-- fault.
abbrev pub message_concerns : IpPrefix → Result MessageContent MessageFault → Bool
message_concerns prefix (Ok (IsUpdate update)) = lists_cover prefix update.withdrawn || lists_cover prefix update.nlri
message_concerns prefix (Ok (IsTreated treated)) =
    lists_cover prefix treated.withdrawn || lists_cover prefix treated.nlri
message_concerns prefix (Ok IsOpen) = true
message_concerns prefix (Ok IsNotification) = true
message_concerns prefix (Ok IsKeepAlive) = true
message_concerns prefix (Ok IsRefresh) = true
message_concerns prefix (Err fault) = true

-- ---- what the code tests

-- a field may concern a prefix if it is no list of prefixes, or if it lists one that covers the prefix
abbrev pub field_concerns : IpPrefix → List ℕ → Bool
field_concerns prefix field = option_map_or (lists_cover prefix) (prefixes_of field) true

-- the path attributes of an UPDATE close the session, if this field has its NLRI
abbrev pub section_closes : Errors → List ℕ → List ℕ → Bool
section_closes Rfc4271 section nlri = is_some (section_fault section) || is_err (announced_attributes section nlri)
section_closes Rfc7606 section nlri = is_some (reset_of (strongest_in section))

-- the table says for each type whether some attribute has it
abbrev pub AreTypesOf : List Bool → List Item → Type 0
AreTypesOf seen items = (kind : ℕ) → kind < 256 → slice_index_or seen kind false ≡ has_type kind items

-- the table has ORIGIN, AS_PATH and NEXT_HOP
abbrev pub has_mandatory : List Bool → Bool
has_mandatory seen = slice_index_or seen 1 false && slice_index_or seen 2 false && slice_index_or seen 3 false
