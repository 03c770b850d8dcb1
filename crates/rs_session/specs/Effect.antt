-- What a record means for the session of one peer (RFC 6396, sections 4.4.3 and 4.4.4; RFC 4271, sections 4.2 to 4.5
-- and 6).
use Rattle.std.specs.Prelude.{◌≡◌, ℕ, true, not, ◌&&◌, ◌==◌, List, [], ◌∷◌, Result, Ok, Err, if◌then◌else◌}
use Rattle.rs_mrt.specs.Entry.{Meaning, Message, State, Other, entry_of, established}
use Rattle.rs_mrt.specs.Fault.{number_of}
use Rattle.rs_mrt.specs.Record.{MrtRecord}
use Rattle.rs_mrt.specs.declared.fault.MrtFault.{MrtFault}
use Rattle.rs_update.specs.Message.{MessageContent, IsOpen, IsUpdate, IsTreated, IsNotification, IsKeepAlive, IsRefresh}
use Rattle.rs_update.specs.Message.{ListsPrefix}
use Rattle.rs_update.specs.Treating.{message_by}
use Rattle.rs_update.specs.declared.errors.Errors.{Errors}
use Rattle.rs_update.specs.declared.fault.MessageFault.{MessageFault}
use Rattle.rs_update.specs.declared.fault.MessageFault.TheVariants as message_fault
use Rattle.rs_change.specs.Change.{Change, Lost}
use Rattle.rs_types.specs.Peer.{is_of}
use Rattle.rs_session.specs.UpdateChanges.{changes_of_update, changes_of_treated}
use Rattle.rs_types.specs.declared.peer_id.PeerId.{PeerId}
use Rattle.rs_change.specs.declared.word.Reason.{Reason}
use Rattle.rs_change.specs.declared.word.Reason.TheVariants as reasons

-- The effect of a record on the session of one peer. It is passed over as a record of another peer, it gives
-- changes, or it ends the session. The list of changes may be empty.
pub data RecordEffect : Type 0 where
  PassesOver : RecordEffect
  Gives : List Change → RecordEffect
  Ends : Reason → RecordEffect

-- the session is lost and may come up again; later records are read as before (our choice)
abbrev pub loss : ℕ → RecordEffect
loss time = Gives (record { time = time; body = Lost } ∷ [])

-- The session is lost if its state leaves Established. Other changes of state have no effect (our choice).
abbrev pub effect_of_state : ℕ → ℕ → ℕ → RecordEffect
effect_of_state time old new = if (old == established) && not (new == established) then loss time else Gives []

-- why a message at fault ends the session
abbrev pub reason_of : MessageFault → Reason
reason_of (message_fault.Bgp code subcode) = reasons.Bgp code subcode
reason_of message_fault.Memory = reasons.Memory

-- The effect of a message. An UPDATE gives its changes; OPEN, KEEPALIVE and ROUTE-REFRESH give none. A NOTIFICATION
-- is the loss of the session (RFC 4271, section 6.4). A fault ends the session.
abbrev pub effect_of_message : ℕ → Result MessageContent MessageFault → RecordEffect
effect_of_message time (Ok IsOpen) = Gives []
effect_of_message time (Ok (IsUpdate update)) = Gives (changes_of_update time update)
effect_of_message time (Ok (IsTreated treated)) = Gives (changes_of_treated time treated)
effect_of_message time (Ok IsNotification) = loss time
effect_of_message time (Ok IsKeepAlive) = Gives []
effect_of_message time (Ok IsRefresh) = Gives []
effect_of_message time (Err fault) = Ends (reason_of fault)

-- The effect of an entry. Messages and changes of state of this peer count. Entries of other peers and of other
-- kinds are passed over (our choice). A record at fault ends the session.
abbrev pub effect_of_entry : Errors → PeerId → ℕ → Result Meaning MrtFault → RecordEffect
effect_of_entry errors peer time (Ok (Message asn address octets)) =
    if is_of peer asn address then effect_of_message time (message_by errors octets) else PassesOver
effect_of_entry errors peer time (Ok (State asn address old new)) =
    if is_of peer asn address then effect_of_state time old new else PassesOver
effect_of_entry errors peer time (Ok Other) = PassesOver
effect_of_entry errors peer time (Err fault) = Ends (reasons.Mrt (number_of fault))

-- the effect of a record on the session of a peer
unfoldable pub effect_of : Errors → PeerId → MrtRecord → RecordEffect
effect_of errors peer r = effect_of_entry errors peer r.time (entry_of r)

-- an entry that takes memory: an UPDATE of the peer without a fault that lists a prefix
abbrev pub EntryLists : Errors → PeerId → Result Meaning MrtFault → Type 0
EntryLists errors peer (Ok (Message asn address octets)) =
    (is_of peer asn address ≡ true) × ListsPrefix (message_by errors octets)
EntryLists errors peer (Ok (State asn address old new)) = ⊥
EntryLists errors peer (Ok Other) = ⊥
EntryLists errors peer (Err fault) = ⊥

-- a record that takes memory, by its entry
abbrev pub ListsPrefixOf : Errors → PeerId → MrtRecord → Type 0
ListsPrefixOf errors peer r = EntryLists errors peer (entry_of r)
