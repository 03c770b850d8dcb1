-- Losses of a session that its recording does not have, but that other records show. The reason: a session that is
-- Established again was Idle before (RFC 4271, section 8.2.2). Our choice: which records show a loss.
use Rattle.std.specs.Prelude.{ℕ, Bool, false, not, ◌&&◌, ◌||◌, ◌==◌, if◌then◌else◌, List, [], ◌∷◌, ◌++◌, Option, Some}
use Rattle.std.specs.Prelude.{None, filter_map, length, nat_le, take}
use Rattle.std.specs.Option.{option_map}
use Rattle.byteorder.specs.Endian.{big_bytes}
use Rattle.rs_mrt.specs.Entry.{established, family_ipv4, microseconds_len, subtype_state_change_as4, type_bgp4mp}
use Rattle.rs_mrt.specs.Entry.{type_bgp4mp_et}
use Rattle.rs_mrt.specs.Record.{MrtRecord}
use Rattle.rs_inventory.specs.Course.{Timed, begins, is_loss, is_up, shows_up}
use Rattle.rs_inventory.specs.Finding.{is_peer, recorder_in}
use Rattle.rs_inventory.specs.Kind.{fields_of}
use Rattle.rs_inventory.specs.Outline.{outline_note}
use Rattle.rs_inventory.specs.declared.finding.News.{News}
use Rattle.rs_inventory.specs.declared.finding.Note.{Note}
use Rattle.rs_types.specs.declared.peer_id.PeerId.{PeerId}
use Rattle.rs_losses.specs.declared.following.Followed.{Followed}
use Rattle.rs_losses.specs.declared.losses.Sought.{Sought}

-- ---- what records mean for the peer

-- the meaning of a note for a peer
abbrev pub news_of : PeerId → Option Note → Option News
news_of peer None = None
news_of peer (Some note) = if is_peer note.peer peer then Some note.news else None

-- the meaning of a record for the peer, with its Timestamp
abbrev pub told_by : PeerId → MrtRecord → Option Timed
told_by peer r = option_map (λ news. (r.time, news)) (news_of peer (outline_note r))

-- The session is up after these records, which are in reverse order. An UPDATE or a change to Established since its
-- last loss shows it (RFC 4271, section 8.2.2).
abbrev pub is_session_up : PeerId → List MrtRecord → Bool
is_session_up peer given = is_up (filter_map (told_by peer) given)

-- ---- which records show a loss

-- a session begins with an OPEN or a change to Established (RFC 4271, section 8.2.2)
abbrev pub is_begun : Option News → Bool
is_begun None = false
is_begun (Some news) = begins news

-- the recorder of a session has this address: it is the Local IP Address (RFC 6396, sections 4.4.3 and 4.4.4)
abbrev pub is_recorder : Option PeerId → ℕ → Bool
is_recorder None address = false
is_recorder (Some recorder) address = recorder.address == address

-- A loss is recorded with the AS number of the peer, but with another address. The address is 0.0.0.0, and no other
-- peer has that AS number. Or the two addresses are swapped, so that the peer's stands as the recorder's.
abbrev pub is_misplaced : Sought → Option Note → Option PeerId → Bool
is_misplaced who None recorder = false
is_misplaced who (Some note) recorder =
    is_loss note.news && ((note.peer.asn == who.peer.asn) && (not (note.peer.address == who.peer.address)
    && (((note.peer.address == 0) && who.alone) || is_recorder recorder who.peer.address)))

-- A record shows that a session which is up was lost before it: a new session begins, or the loss is recorded with
-- another address.
abbrev pub tells_of_loss : Sought → MrtRecord → Bool
tells_of_loss who r =
    is_begun (news_of who.peer (outline_note r)) || is_misplaced who (outline_note r) (recorder_in (fields_of r))

-- a record shows a loss, if these records, in reverse order, were given before it
abbrev pub shows_loss : Sought → List MrtRecord → MrtRecord → Bool
shows_loss who given r = is_session_up who.peer given && tells_of_loss who r

-- ---- the session that is followed, record by record

-- it is followed from the first record on
abbrev pub from_the_first : Sought → Followed
from_the_first who = record { who = who; up = false }

-- whether it is up after a record with this meaning for the peer
abbrev pub up_with : Bool → Option News → Bool
up_with up None = up
up_with up (Some news) = if is_loss news then false else shows_up news || up

-- the session after a record
abbrev pub behind_record : Followed → MrtRecord → Followed
behind_record f r = record f { up = up_with f.up (news_of f.who.peer (outline_note r)) }

-- the session after its loss
abbrev pub lost : Followed → Followed
lost f = record f { up = false }

-- a loss comes before this record
abbrev pub is_lost_before : Followed → MrtRecord → Bool
is_lost_before f r = f.up && tells_of_loss f.who r

-- the session before a record, or behind the loss before it
abbrev pub before_record : Followed → MrtRecord → Followed
before_record f r = record f { up = not (is_lost_before f r) && f.up }

-- ---- the records with the losses inserted

-- the number 0, which is not a state (RFC 6396, section 4.4.1)
abbrev pub no_state : ℕ
no_state = 0

-- a record of Type BGP4MP_ET begins its body with four octets of microseconds (RFC 6396, section 3)
abbrev pub has_microseconds : MrtRecord → Bool
has_microseconds r = (r.kind == type_bgp4mp_et) && nat_le microseconds_len (length r.body)

-- the octets of a record's microseconds, if it has any
abbrev pub microseconds_in : MrtRecord → List ℕ
microseconds_in r = if has_microseconds r then take microseconds_len r.body else []

-- The fields of a BGP4MP_STATE_CHANGE_AS4 of the peer from Established (RFC 6396, section 4.4.4). Local AS, Interface
-- Index, Local IP Address and the new state are 0 (our choice).
abbrev pub loss_fields : Sought → List ℕ
loss_fields who =
    big_bytes 4 who.peer.asn ++ big_bytes 4 0 ++ big_bytes 2 0 ++ big_bytes 2 family_ipv4 ++ big_bytes 4 who.peer.address
    ++ big_bytes 4 0 ++ big_bytes 2 established ++ big_bytes 2 no_state

-- The loss that a record tells of has the record's time, and the record's microseconds if there are any.
abbrev pub loss_record : Sought → MrtRecord → MrtRecord
loss_record who r = record {
  time = r.time;
  kind = if has_microseconds r then type_bgp4mp_et else type_bgp4mp;
  subtype = subtype_state_change_as4;
  body = microseconds_in r ++ loss_fields who;
}

-- the octets of its body, behind four zeros if the record has no microseconds
abbrev pub loss_octets : Sought → MrtRecord → List ℕ
loss_octets who r = (if has_microseconds r then take microseconds_len r.body else big_bytes 4 0) ++ loss_fields who

-- The records, with a loss inserted before each record that shows one, at the moment of that record. The records given
-- before, in reverse order, are those of the first list. A loss that was inserted counts among them.
abbrev pub with_losses_behind : Sought → List MrtRecord → List MrtRecord → List MrtRecord
with_losses_behind who given [] = []
with_losses_behind who given (r ∷ later) =
    if shows_loss who given r
    then loss_record who r ∷ r ∷ with_losses_behind who (r ∷ loss_record who r ∷ given) later
    else r ∷ with_losses_behind who (r ∷ given) later

-- the records of a recording with the losses inserted
abbrev pub with_losses : Sought → List MrtRecord → List MrtRecord
with_losses who records = with_losses_behind who [] records
