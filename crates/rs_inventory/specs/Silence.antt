-- A time without any record while a session is up. A session that is up sends KEEPALIVEs within its Hold Time (RFC 4271,
-- sections 4.2 and 4.4). Our choices: which session counts, and that up to five minutes always pass.
use Rattle.std.specs.Prelude.{◌≡◌, ◌<◌, ◌≤◌, ℕ, ◌+◌, ◌-◌, max, nat_lt, ◌&&◌, Bool, true, false, if◌then◌else◌}
use Rattle.std.specs.Prelude.{List, [], ◌∷◌, ◌++◌, length, map, reverse, Option, Some, None}
use Rattle.std.specs.Option.{option_map, option_or}
use Rattle.rs_inventory.specs.Course.{course_of}
use Rattle.rs_inventory.specs.Kind.{is_kind}
use Rattle.rs_inventory.specs.Peer.{counted}
use Rattle.rs_inventory.specs.Times.{IsLatest, known_sum}
use Rattle.rs_inventory.specs.Told.{told_of}
use Rattle.rs_inventory.specs.declared.finding.Finding.{Finding}
use Rattle.rs_inventory.specs.declared.finding.Note.{Note}
use Rattle.rs_inventory.specs.declared.kind.Kind.TheVariants as kinds
use Rattle.rs_inventory.specs.declared.silence.Silence.{Silence}
use Rattle.rs_inventory.specs.declared.silence.Watch.{Watch}
use Rattle.rs_types.specs.declared.peer_id.PeerId.{PeerId}

-- ---- how long there may be no record

-- so many seconds may always pass
abbrev pub least_wait : ℕ
least_wait = 300

-- so many seconds may pass behind these records: the largest Hold Time of their OPENs, or more
abbrev pub wait_of : List Finding → ℕ
wait_of [] = least_wait
wait_of (one ∷ later) = max one.hold (wait_of later)

-- ---- who keeps a session up

-- the session of a peer is up behind these records
abbrev pub is_up_behind : List Finding → PeerId → Bool
is_up_behind findings peer = (course_of (told_of peer findings)).up

-- the session of the peer of a note is up behind these records
abbrev pub is_noted_up : List Finding → Option Note → Bool
is_noted_up findings None = false
is_noted_up findings (Some note) = is_up_behind findings note.peer

-- the peer of a note
abbrev pub peer_in : Option Note → Option PeerId
peer_in None = None
peer_in (Some note) = Some note.peer

-- the sender of a KEEPALIVE, if its session is up
abbrev pub keeper_by : Bool → Finding → Option PeerId
keeper_by up one = if is_kind kinds.KeepAlive one.kind && up then peer_in one.note else None

-- the sender of the last KEEPALIVE behind which its session is up; these records are in reverse order
abbrev pub last_keeper : List Finding → Option PeerId
last_keeper [] = None
last_keeper (one ∷ earlier) =
    option_or (keeper_by (is_noted_up (reverse (one ∷ earlier)) one.note) one) (last_keeper earlier)

abbrev pub keeper_of : List Finding → Option PeerId
keeper_of findings = last_keeper (reverse findings)

-- the session of a peer is up behind these records, if there is a peer
abbrev pub is_some_up : List Finding → Option PeerId → Bool
is_some_up findings None = false
is_some_up findings (Some peer) = is_up_behind findings peer

-- the session is still up whose peer has kept it up last
abbrev pub is_kept_up : List Finding → Bool
is_kept_up findings = is_some_up findings (keeper_of findings)

-- ---- all records

-- No record comes for too long before one of them, while a session is kept up. So many records are before it, and so
-- many octets.
pub record IsSilent (findings : List Finding) (silence : Silence) : Type 0 where
  pub before : List Finding
  pub one : Finding
  pub later : List Finding
  pub splits : findings ≡ before ++ one ∷ later
  pub kept : is_kept_up before ≡ true
  pub last : IsLatest (map (λ f. f.time) before) (Some silence.from)
  pub long : silence.from + wait_of before < one.time
  pub seconds : silence.from + silence.seconds ≡ one.time
  pub records : silence.records ≡ counted (length before)
  pub octet : silence.octet ≡ option_map counted (known_sum (map (λ f. f.octets) before))

-- this is before no record
abbrev pub IsNeverSilent : List Finding → Type 0
IsNeverSilent findings =
    (before : List Finding) → (one : Finding) → (later : List Finding) → (latest : ℕ) → findings ≡ before ++ one ∷ later
    → is_kept_up before ≡ true → IsLatest (map (λ f. f.time) before) (Some latest) → one.time ≤ latest + wait_of before

-- the answer is such a time; None says that there is none
abbrev pub TellsSilence : List Finding → Option Silence → Type 0
TellsSilence findings None = IsNeverSilent findings
TellsSilence findings (Some silence) = IsSilent findings silence

-- what these records tell of times without any
pub record Watches (findings : List Finding) (watch : Watch) : Type 0 where
  pub wait : watch.wait ≡ wait_of findings
  pub keeper : watch.keeper ≡ keeper_of findings
  pub first : TellsSilence findings watch.first

-- ---- one more record

-- the time without any record before one more, if it is too long
abbrev pub silence_behind : Option ℕ → ℕ → ℕ → ℕ → Option ℕ → Option Silence
silence_behind None time wait records octet = None
silence_behind (Some last) time wait records octet =
    if nat_lt (last + wait) time then
    Some (record { from = last; seconds = time - last; records = records; octet = octet })
    else None

-- it counts while a session is kept up
abbrev pub silence_while : Bool → Option Silence → Option Silence
silence_while up None = None
silence_while up (Some silence) = if up then Some silence else None

-- times without any record, after one more; `up` says whether the session of its peer is up behind it
abbrev pub watch_with : Finding → Bool → Option Silence → Watch → Watch
watch_with one up silence watch = record {
  wait = max watch.wait one.hold;
  keeper = option_or (keeper_by up one) watch.keeper;
  first = option_or watch.first silence;
}
