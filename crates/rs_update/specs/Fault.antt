-- The faults of a message, by error code and subcode (RFC 4271, section 4.5).
use Rattle.std.specs.Prelude.{ℕ}
use Rattle.rs_update.specs.declared.fault.HeaderFault.{HeaderFault}
use Rattle.rs_update.specs.declared.fault.HeaderFault.TheVariants.{NotSynchronized, BadLength, BadType}
use Rattle.rs_types.specs.declared.fault.UpdateFault.{UpdateFault}
use Rattle.rs_types.specs.declared.fault.UpdateFault.TheVariants.{MalformedAttributeList, UnrecognizedWellKnown}
use Rattle.rs_types.specs.declared.fault.UpdateFault.TheVariants.{MissingWellKnown, AttributeFlags, AttributeLength}
use Rattle.rs_types.specs.declared.fault.UpdateFault.TheVariants.{InvalidOrigin, InvalidNextHop, InvalidNetworkField}
use Rattle.rs_types.specs.declared.fault.UpdateFault.TheVariants.{MalformedAsPath}
use Rattle.rs_update.specs.declared.fault.MessageFault.{MessageFault}
use Rattle.rs_update.specs.declared.fault.MessageFault.TheVariants.{Bgp}
pub use Rattle.rs_types.specs.FirstFault.{first_fault, or_else}

-- Message Header Error, code 1 (section 6.1)
abbrev pub header_subcode : HeaderFault → ℕ
header_subcode NotSynchronized = 1
header_subcode BadLength = 2
header_subcode BadType = 3

-- UPDATE Message Error, code 3 (section 6.3)
abbrev pub update_subcode : UpdateFault → ℕ
update_subcode MalformedAttributeList = 1
update_subcode UnrecognizedWellKnown = 2
update_subcode MissingWellKnown = 3
update_subcode AttributeFlags = 4
update_subcode AttributeLength = 5
update_subcode InvalidOrigin = 6
update_subcode InvalidNextHop = 8
update_subcode InvalidNetworkField = 10
update_subcode MalformedAsPath = 11

abbrev pub of_header : HeaderFault → MessageFault
of_header fault = Bgp 1 (header_subcode fault)

abbrev pub of_update : UpdateFault → MessageFault
of_update fault = Bgp 3 (update_subcode fault)
