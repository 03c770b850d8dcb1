-- What happens on a prefix in the recorded files of all peers, in the order of time. Our choice: a change counts no
-- earlier than those before it in its file. A close at the end of a file has no time of its own, and so counts at the
-- latest moment of the file.
use Rattle.std.specs.Prelude.{◌≡◌, ℕ, ◌+◌, Bool, true, false, if◌then◌else◌, List, [], ◌∷◌, ◌++◌, Option}
use Rattle.std.specs.Prelude.{Some, length, map, slice_get}
use Rattle.std.specs.List.Sorted.{IsPermutation, IsSortedByKey, IsStableByKey}
use Rattle.std.specs.Ordering.{nat_cmp}
use Rattle.rs_update.specs.IpPrefix.{IpPrefix}
use Rattle.rs_update.specs.PrefixOrder.{same_prefix}
use Rattle.rs_mrt.specs.Record.{MrtRecord}
use Rattle.rs_mrt.specs.declared.fault.SourceFault.{SourceFault}
use Rattle.rs_types.specs.declared.peer_id.PeerId.{PeerId}
use Rattle.rs_session.specs.Change.{Change, ChangeBody, Announced, Withdrawn, Lost, Closed, change_of}
use Rattle.rs_session.specs.Stage.{Comes}
use Rattle.rs_choice.specs.Plan.{Peer, Plan, id_of}
use Rattle.rs_glass.specs.Behind.{each_behind}
use Rattle.rs_glass.specs.FileSaid.{SaidChange, cause_in, counts_at, said_in}
use Rattle.rs_glass.specs.Moments.{in_microseconds}
use Rattle.rs_glass.specs.Recorded.{AreChangesOf, close_in, is_failed_read}
use Rattle.rs_glass.specs.declared.cause.Cause.{Cause}
use Rattle.rs_glass.specs.declared.happened.Happening.{Happening}
use Rattle.rs_glass.specs.declared.moment.Moment.{Moment}
use Rattle.rs_glass.specs.declared.question.Question.{Question}

-- a change happens on a prefix if it announces or withdraws exactly this prefix, or is a loss or a close of the
-- session
abbrev pub body_happens : IpPrefix → ChangeBody → Bool
body_happens prefix (Announced changed attributes) = same_prefix prefix changed
body_happens prefix (Withdrawn changed) = same_prefix prefix changed
body_happens prefix Lost = true
body_happens prefix (Closed reason) = true

abbrev pub happens_on : IpPrefix → Change → Bool
happens_on prefix change = body_happens prefix change.body

-- something that happened: the peer, the moment at which it counts, the change, and its cause
pub record HappeningContent : Type 0 where
  pub peer : ℕ
  pub moment : Moment
  pub change : Change
  pub cause : Option Cause

abbrev pub happened_at : Happening → Moment
happened_at one = record { seconds = one.time; microseconds = one.microseconds }

abbrev pub happening_content : Happening → HappeningContent
happening_content one =
    record { peer = one.peer; moment = happened_at one; change = change_of one.word; cause = one.cause }

abbrev pub contents_of : List Happening → List HappeningContent
contents_of = map happening_content

-- a change in the file of a peer, if it happens on the prefix that is asked for
abbrev pub happens_at : Question → ℕ → Moment → SaidChange → List HappeningContent
happens_at question peer moment one =
    if happens_on question.prefix one.change
    then record { peer = peer; moment = moment; change = one.change; cause = cause_in question.errors one } ∷ [] else []

abbrev pub happens_behind : Question → ℕ → List SaidChange → SaidChange → List HappeningContent
happens_behind question peer before one = happens_at question peer (counts_at before one) one

abbrev pub happened_in : Question → ℕ → List SaidChange → List HappeningContent
happened_in question peer said = each_behind (happens_behind question peer) [] said

-- what happens in the files of all peers, from a number on, file after file
abbrev pub happened_among : Question → ℕ → List (List SaidChange) → List HappeningContent
happened_among question number [] = []
happened_among question number (said ∷ later) =
    happened_in question number said ++ happened_among question (number + 1) later

-- the moment by which things that happened are ordered, in microseconds since 1970
abbrev pub ordered_by : Happening → ℕ
ordered_by one = in_microseconds (happened_at one)

module _ {S : Type 0} (comes : Comes S) (shows : S → Option MrtRecord) (question : Question) where
  -- All changes of a peer's recorded session, each with its record. No read failed: these records may come.
  pub record IsSaidWhole (peer : PeerId) (source : S) (said : List SaidChange) : Type 0 where
    pub records : List MrtRecord
    pub end : Option SourceFault
    pub come : comes source records end
    pub said_is : said ≡ said_in question.errors peer records end
    pub says : AreChangesOf comes shows question peer source (map (λ one. one.change) said)
    pub unfailed : is_failed_read (close_in (map (λ one. one.change) said)) ≡ false

  -- all changes of the peer that has this number, each with its record
  pub record AreWhole (plan : Plan) (sources : List S) (number : ℕ) (said : List SaidChange) : Type 0 where
    pub peer : Peer
    pub peer_is : slice_get plan.peers number ≡ Some peer
    pub source : S
    pub source_is : slice_get sources number ≡ Some source
    pub whole : IsSaidWhole (id_of peer) source said

  -- what happens in the recorded session of a peer, if no read failed
  abbrev pub AreHappeningsOf : PeerId → S → ℕ → List Happening → Type 0
  AreHappeningsOf peer source number all =
      (said : List SaidChange) × IsSaidWhole peer source said × (contents_of all ≡ happened_in question number said)

  -- What happened on the prefix in the recorded sessions of all peers, in the order of time. Things of one moment stay
  -- in the order of the peers, and those of one peer in the order of its records.
  pub record AreHappenings (plan : Plan) (sources : List S) (all : List Happening) : Type 0 where
    pub files : List (List SaidChange)
    pub as_many : length files ≡ length sources
    pub each : (number : ℕ) (said : List SaidChange) → slice_get files number ≡ Some said
        → AreWhole plan sources number said
    pub unsorted : List Happening
    pub says : contents_of unsorted ≡ happened_among question 0 files
    pub permutation : IsPermutation unsorted all
    pub sorted : IsSortedByKey (λ one. ordered_by one) nat_cmp all
    pub stable : IsStableByKey (λ one. ordered_by one) nat_cmp unsorted all
