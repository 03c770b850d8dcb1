-- The content of a file: what all its records are.
use Rattle.std.specs.Prelude.{◌≡◌, ℕ, ◌+◌, Bool, false, if◌then◌else◌, List, [], ◌∷◌, ◌++◌, length, map}
use Rattle.std.specs.Prelude.{min, max, slice_index, Option, Some, None, count_by}
use Rattle.std.specs.BTreeMap.{is_at}
use Rattle.std.specs.List.{cons_option}
use Rattle.std.specs.Map.{lookup}
use Rattle.std.specs.Option.{option_map}
use Rattle.rs_mrt.specs.declared.fault.MrtFault.{MrtFault}
use Rattle.rs_inventory.specs.Back.{TellsBack, back_behind, first_back}
use Rattle.rs_inventory.specs.Kind.{is_kind, place_of}
use Rattle.rs_inventory.specs.Opening.{first_found}
use Rattle.rs_inventory.specs.Peer.{PeerContent, Told, counted, peer_content}
use Rattle.rs_inventory.specs.Silence.{Watches, silence_behind, silence_while, watch_with}
use Rattle.rs_inventory.specs.Times.{IsEarliest, IsLatest, known_sum}
use Rattle.rs_inventory.specs.Told.{peer_cmp, told_in, told_of}
use Rattle.rs_inventory.specs.Unnamed.{unnamed_by, unnamed_of}
use Rattle.rs_inventory.specs.declared.back.Back.{Back}
use Rattle.rs_inventory.specs.declared.compression.Compression.{Compression}
use Rattle.rs_inventory.specs.declared.finding.Finding.{Finding}
use Rattle.rs_inventory.specs.declared.finding.Note.{Note}
use Rattle.rs_inventory.specs.declared.kind.Kind.{Kind}
use Rattle.rs_inventory.specs.declared.silence.Silence.{Silence}
use Rattle.rs_inventory.specs.declared.silence.Watch.{Watch}
use Rattle.rs_inventory.specs.declared.unnamed.UnnamedLoss.{UnnamedLoss}
use Rattle.rs_types.specs.declared.peer_id.PeerId.{PeerId}

-- the content of a file: `kinds` has a count at the place of each kind, and `peers` are in ascending order
pub record Content : Type 0 where
  pub compression : Option Compression
  pub end : Option MrtFault
  pub records : ℕ
  pub kinds : List ℕ
  pub first : Option ℕ
  pub last : Option ℕ
  pub octets : Option ℕ
  pub back : Option Back
  pub watch : Watch
  pub unnamed : List UnnamedLoss
  pub recorder : Option PeerId
  pub peers : List (PeerId × PeerContent)

-- ---- peers

-- a peer is known if some record has a meaning for it
abbrev pub known_of : List Told → Option PeerContent
known_of [] = None
known_of (one ∷ later) = Some (peer_content (one ∷ later))

-- the content for a peer
abbrev pub peer_at : List (PeerId × PeerContent) → PeerId → Option PeerContent
peer_at peers peer = lookup (is_at (peer_cmp peer)) peers

-- whether the session of a peer is up, by its content
abbrev pub is_content_up : Option PeerContent → Bool
is_content_up None = false
is_content_up (Some content) = content.course.up

-- whether the session of the peer of a note is up
abbrev pub is_note_up : List (PeerId × PeerContent) → Option Note → Bool
is_note_up peers None = false
is_note_up peers (Some note) = is_content_up (peer_at peers note.peer)

-- whether the session of a peer is up, if there is a peer
abbrev pub is_one_up : List (PeerId × PeerContent) → Option PeerId → Bool
is_one_up peers None = false
is_one_up peers (Some peer) = is_content_up (peer_at peers peer)

-- ---- all records

-- The content of these records: how many they are, how many of each kind, their earliest and latest times, and their
-- octets. It also has where times go back, times without any record, and losses without an address. It has the first
-- recorder that is named, and for each peer the content of its records.
pub record Holds (findings : List Finding) (content : Content) : Type 0 where
  pub records : content.records ≡ counted (length findings)
  pub kinds : (kind : Kind)
      → slice_index content.kinds (place_of kind) ≡ counted (count_by (λ f. is_kind kind f.kind) findings)
  pub first : IsEarliest (map (λ f. f.time) findings) content.first
  pub last : IsLatest (map (λ f. f.time) findings) content.last
  pub octets : content.octets ≡ option_map counted (known_sum (map (λ f. f.octets) findings))
  pub back : TellsBack findings content.back
  pub watch : Watches findings content.watch
  pub unnamed : content.unnamed ≡ unnamed_of findings
  pub recorder : content.recorder ≡ first_found (λ f. f.recorder) findings
  pub peers : (peer : PeerId) → peer_at content.peers peer ≡ known_of (told_of peer findings)

-- the content of no records: no kind, time, octet, recorder or peer, and no end within a record
abbrev pub HoldsNothing : Content → Type 0
HoldsNothing content = Holds [] content × (content.end ≡ None)

-- one more record turns the old content into the new one, whatever the records before are
abbrev pub TakesFinding : Content → Finding → Content → Type 0
TakesFinding old one new = (findings : List Finding) → Holds findings old → Holds (findings ++ one ∷ []) new

-- ---- one more record

-- one more record turns the old content for each peer into the new one
abbrev pub TakesNote : List (PeerId × PeerContent) → ℕ → Option Note → List (PeerId × PeerContent) → Type 0
TakesNote old time note new = (peer : PeerId) → (told : List Told) → peer_at old peer ≡ known_of told
    → peer_at new peer ≡ known_of (told ++ cons_option (told_in peer time note) [])

-- the earliest time, after one more record
abbrev pub earlier_of : Option ℕ → ℕ → ℕ
earlier_of None time = time
earlier_of (Some first) time = min first time

-- the latest time, after one more record
abbrev pub later_of : Option ℕ → ℕ → ℕ
later_of None time = time
later_of (Some last) time = max last time

-- the number of octets after one more record; None if one of the two numbers is not known
abbrev pub sum_of : Option ℕ → Option ℕ → Option ℕ
sum_of None other = None
sum_of (Some n) other = option_map (λ m. counted (n + m)) other

-- the first of two answers, if there is one
abbrev pub first_of : {X : Type 0} → Option X → Option X → Option X
first_of None other = other
first_of (Some x) other = Some x

-- where times go back, after one more record
abbrev pub with_back : Finding → Content → Content
with_back one old = record old { back = first_back old.back (back_behind old.last one.time old.records old.octets) }

-- the time without any record before one more, if it counts
abbrev pub silence_before : ℕ → Content → Option Silence
silence_before time old =
    silence_while (is_one_up old.peers old.watch.keeper)
    (silence_behind old.last time old.watch.wait old.records old.octets)

-- times without any record, after one more record
abbrev pub with_watch : Finding → Bool → Option Silence → Content → Content
with_watch one up silence old = record old { watch = watch_with one up silence old.watch }

-- losses without an address, after one more record
abbrev pub with_unnamed : Finding → Content → Content
with_unnamed one old = record old { unnamed = old.unnamed ++ cons_option (unnamed_by one.time one.note) [] }

-- the counts and times after one more record
pub record WithCounts (one : Finding) (old new : Content) : Type 0 where
  pub compression : new.compression ≡ old.compression
  pub end : new.end ≡ old.end
  pub records : new.records ≡ counted (old.records + 1)
  pub kinds : (kind : Kind) → slice_index new.kinds (place_of kind)
      ≡ (if is_kind kind one.kind then counted (slice_index old.kinds (place_of kind) + 1)
      else slice_index old.kinds (place_of kind))
  pub first : new.first ≡ Some (earlier_of old.first one.time)
  pub last : new.last ≡ Some (later_of old.last one.time)
  pub octets : new.octets ≡ sum_of old.octets one.octets
  pub back : new.back ≡ old.back
  pub watch : new.watch ≡ old.watch
  pub unnamed : new.unnamed ≡ old.unnamed
  pub recorder : new.recorder ≡ first_of old.recorder one.recorder
  pub peers : new.peers ≡ old.peers
