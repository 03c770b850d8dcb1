-- How a session was lost: the record that shows it (RFC 4271, sections 4.5 and 8.2.2; RFC 6396, section 4.4).
use Rattle.std.specs.Prelude.{ℕ, List, [], ◌∷◌, drop, Option, None, Some, Result, Ok, Err}
use Rattle.rs_mrt.specs.Entry.{Meaning, Message, State, Other, entry_of}
use Rattle.rs_mrt.specs.Record.{MrtRecord}
use Rattle.rs_mrt.specs.declared.fault.MrtFault.{MrtFault}
use Rattle.rs_glass.specs.declared.loss.Loss.{Loss}
use Rattle.rs_glass.specs.declared.loss.Loss.TheVariants as losses

-- the Error code and Error subcode stand first behind the header of a NOTIFICATION (RFC 4271, section 4.5)
abbrev pub code_place : ℕ
code_place = 19

abbrev pub notified : List ℕ → Option Loss
notified [] = None
notified (code ∷ []) = None
notified (code ∷ subcode ∷ rest) = Some (losses.Notification code subcode)

-- A session is lost by a change of state to the new state, or by a NOTIFICATION. A message that is too short,
-- another record or a record at fault shows no loss. Whether the record was put in stands beside it.
abbrev pub loss_told : Result Meaning MrtFault → Option Loss
loss_told (Ok (Message peer_as peer message)) = notified (drop code_place message)
loss_told (Ok (State peer_as peer old new)) = Some (losses.State new)
loss_told (Ok Other) = None
loss_told (Err fault) = None

abbrev pub loss_by : MrtRecord → Option Loss
loss_by recorded = loss_told (entry_of recorded)
