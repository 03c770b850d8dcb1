-- The fault because of which an UPDATE is treated as a withdrawal of its routes (RFC 7606, sections 2 and 5; RFC
-- 4271, section 6.3).
use Rattle.std.specs.Prelude.{◌≡◌, ℕ, Bool, true, false, List, Option, None, Some, IsSome, Result, Ok, Err}
use Rattle.std.specs.Prelude.{if◌then◌else◌}
use Rattle.rs_mrt.specs.Entry.{Meaning, Message, State, Other, entry_of}
use Rattle.rs_mrt.specs.Record.{MrtRecord}
use Rattle.rs_mrt.specs.declared.fault.MrtFault.{MrtFault}
use Rattle.rs_session.specs.UpdateChanges.{is_listed}
use Rattle.rs_update.specs.IpPrefix.{IpPrefix}
use Rattle.rs_update.specs.Message.{MessageContent, IsTreated}
use Rattle.rs_update.specs.Treating.{message_by}
use Rattle.rs_update.specs.declared.errors.Errors.{Errors}
use Rattle.rs_update.specs.declared.errors.Errors.TheVariants.{Rfc4271}
use Rattle.rs_update.specs.declared.fault.MessageFault.{MessageFault}
use Rattle.rs_update.specs.declared.fault.MessageFault.TheVariants as faults
use Rattle.rs_glass.specs.declared.treated.Treated.{Treated}

-- A message is an UPDATE that is treated as a withdrawal of its routes (RFC 7606, section 2), and its NLRI lists the
-- prefix. A prefix in its Withdrawn Routes alone is withdrawn without any fault (section 5).
abbrev pub is_treated : IpPrefix → Result MessageContent MessageFault → Bool
is_treated prefix (Ok (IsTreated treated)) = is_listed treated.nlri prefix
is_treated prefix says = false

-- the fault of a message: the error code and subcode of the NOTIFICATION that answers it (RFC 4271, section 6.3)
abbrev pub fault_told : Result MessageContent MessageFault → Option Treated
fault_told (Ok content) = None
fault_told (Err (faults.Bgp code subcode)) = Some (record { code = code; subcode = subcode })
fault_told (Err faults.Memory) = None

-- faults are handled by one of the standards; the fault in the answer is the first that RFC 4271 finds (our choice)
abbrev pub treated_in : Errors → IpPrefix → List ℕ → Option Treated
treated_in errors prefix octets =
    if is_treated prefix (message_by errors octets) then fault_told (message_by Rfc4271 octets) else None

-- the fault because of which the message of a record is treated as a withdrawal; None for another record, or one at
-- fault
abbrev pub treated_told : Errors → IpPrefix → Result Meaning MrtFault → Option Treated
treated_told errors prefix (Ok (Message peer_as peer octets)) = treated_in errors prefix octets
treated_told errors prefix (Ok (State peer_as peer old new)) = None
treated_told errors prefix (Ok Other) = None
treated_told errors prefix (Err fault) = None

abbrev pub treated_by : Errors → IpPrefix → MrtRecord → Option Treated
treated_by errors prefix recorded = treated_told errors prefix (entry_of recorded)

-- an UPDATE that is treated as a withdrawal is at fault under RFC 4271 too, so that there is a fault to name
abbrev pub TreatedIsAtFault : Type 0
TreatedIsAtFault =
    (errors : Errors) (prefix : IpPrefix) (octets : List ℕ) → is_treated prefix (message_by errors octets) ≡ true
    → IsSome (treated_in errors prefix octets)
