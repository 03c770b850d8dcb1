-- Readers of files that are at hand: for `serve` of serving.rt.
use Rattle.std.proofs.Common.{◌≡◌, ◌∙◌, sym, ap, subst, ℕ, ◌<◌, ◌^◌, ◌⊎◌, arith, inl, inr, Bor, List, [], ◌++◌, All, length, map}
use Rattle.std.proofs.Common.{length-append, Some, Result, Ok, Err}
use Rattle.std.specs.Prelude.{slice_get}
use Rattle.std.proofs.lemmas.List.{length-map}
use Rattle.std.proofs.lemmas.Option.{slice_get_within}
use Rattle.rs_choice.specs.Plan.{Peer, Plan, id_of}
use Rattle.rs_mrt.specs.MemoryReading.{MemoryReading, Comes}
use Rattle.rs_mrt.specs.Reader.{ReadEnd, FileEnds, ReadFails}
use Rattle.rs_mrt.specs.RecordReading.{read_limit}
use Rattle.rs_session.specs.FileChanges.{changes_in_by}
use Rattle.rs_session.specs.Given.{MayFail}
use Rattle.rs_types.specs.declared.peer_id.PeerId.{PeerId}
use Rattle.rs_update.specs.declared.errors.Errors.{Errors}
use Rattle.rs_serve.specs.Served.{tables_of}
use Rattle.rs_floor.specs.ServeFiles.{ServeFilesAnswer}
use Rattle.rs_serve.specs.AtHand.{whole_of}
use Rattle.rs_serve.specs.ServeAnswer.{ServeAnswer}
use Rattle.rs_serve.specs.Served.{ServedContent, IsEndOf, IsServed, IsServedBy, changes_by_peer}
use Rattle.rs_serve.specs.declared.ended.PeerEnd.{PeerEnd}
use Rattle.rs_serve.specs.declared.fault.FloorRefused.{FloorRefused}
use Rattle.rs_serve.specs.declared.fault.FloorRefused.TheVariants.{Memory, Unsettled, Capacity, Read, Shards}
use Rattle.rs_patience.proofs.PlaceLemmas.{all-at, get-map, map-get, some-at}
use Rattle.rs_serve.proofs.AtHandLemmas.{GivesJust, SaysSame, given-whole, same-zipped}

-- a reader gives just the octets that it has at hand, and no read fails
pub record IsAtHand {R : Type 0} (gives : R → List ℕ → ReadEnd → Type 0) (f : R → List ℕ) (reader : R) : Type 0 where
  pub only : GivesJust gives reader (f reader)
  pub fits : length (f reader) < read_limit

-- no read of it fails
none-fails : {R : Type 0} (gives : R → List ℕ → ReadEnd → Type 0) (f : R → List ℕ) (errors : Errors) (peer : PeerId) (reader : R)
    → IsAtHand gives f reader → MayFail gives errors peer reader → ⊥
none-fails gives f errors peer reader hand (came, fails) = by fails.fails
  where
    given : (came ++ fails.later ≡ f reader) × (fails.end ≡ FileEnds)
    given = hand.only (came ++ fails.later) fails.end fails.given

    by : ((fails.later ≡ []) × (fails.end ≡ ReadFails)) ⊎ (length came ≡ read_limit) → ⊥
    by (inl read) = let both : ReadFails ≡ FileEnds = sym read.1 ∙ given.1 in cc
    by (inr full) = omega (arith, full, hand.fits, ap length given.0, length-append came fails.later)

module _ {R : Type 0} (gives : R → List ℕ → ReadEnd → Type 0) (f : R → List ℕ) (errors : Errors) (plan : Plan) (readers : List R)
    (hand : (place : ℕ) (reader : R) → slice_get readers place ≡ Some reader → IsAtHand gives f reader)
    (served : ServedContent) (as_many : length readers ≡ length plan.peers) (s : IsServedBy gives errors plan readers served) where
  files-counted : length s.0 ≡ length plan.peers
  files-counted = s.1.as_many ∙ as_many

  same : (place : ℕ) (peer : Peer) (reader : R) (file : List ℕ) → slice_get plan.peers place ≡ Some peer
      → slice_get readers place ≡ Some reader → slice_get s.0 place ≡ Some file → SaysSame errors (id_of peer) file (f reader)
  same place peer reader file ep er ef =
      given-whole gives errors (id_of peer) reader file (f reader) (hand place reader er).only
      (s.1.each place (id_of peer) reader file (get-map id_of plan.peers place peer ep) er ef)

  same-changes : changes_by_peer errors plan s.0 ≡ changes_by_peer errors plan (map f readers)
  same-changes =
      same-zipped (λ (peer : Peer) (file : List ℕ). changes_in_by errors (id_of peer) file) f plan.peers readers s.0 s.1.as_many
      (λ place peer reader file ep er ef. (same place peer reader file ep er ef).changes)

  ends : (place : ℕ) (peer : Peer) (whole : List ℕ) (end : PeerEnd) → slice_get plan.peers place ≡ Some peer
      → slice_get (map f readers) place ≡ Some whole → slice_get served.ends place ≡ Some end → IsEndOf errors (id_of peer) whole end
  ends place peer whole end ep ew ee =
      let within : place < length (map f readers) = slice_get_within (map f readers) place whole ew in
      let reader = some-at readers place (omega (arith, within, length-map readers f)) in
      let file = some-at s.0 place (omega (arith, within, length-map readers f, as_many, files-counted)) in
      let one = same place peer reader.0 file.0 ep reader.1 file.1 in
      let was = s.2.ends_are place peer file.0 end ep file.1 ee in
      let both : Some (f reader.0) ≡ Some whole = sym (get-map f readers place reader.0 reader.1) ∙ ew in
      let same_file : f reader.0 ≡ whole = cc in
      let is : IsEndOf errors (id_of peer) (f reader.0) end = record {
        before = was.before;
        time = was.time;
        changes_are = was.changes_are ∙ ap length one.changes;
        passed_are = was.passed_are ∙ one.passed;
        closes = sym one.changes ∙ was.closes;
      } in
      subst (λ (w : List ℕ). IsEndOf errors (id_of peer) w end) same_file is

  -- what is served of files at hand is what the files say
  pub served-at-hand : IsServed errors plan (map f readers) served
  served-at-hand = record { tables_are = s.2.tables_are ∙ ap (tables_of plan) same-changes; counted = s.2.counted; ends_are = ends }

-- what a run answers over readers of files at hand is what it answers over the files
pub answer-at-hand : {R : Type 0} (gives : R → List ℕ → ReadEnd → Type 0) (f : R → List ℕ) (errors : Errors) (plan : Plan)
    (readers : List R) (files : List (List ℕ)) (capacity : ℕ)
    → ((place : ℕ) (reader : R) → slice_get readers place ≡ Some reader → IsAtHand gives f reader) → length readers ≡ length plan.peers
    → map f readers ≡ files
    → (result : Result ServedContent FloorRefused) → ServeAnswer gives errors plan readers capacity 1 result
    → ServeFilesAnswer errors plan files capacity result
answer-at-hand gives f errors plan readers files capacity hand as_many same (Ok served) answer = (
  answer.0.0,
  subst (λ (all : List (List ℕ)). IsServed errors plan all served) same
      (served-at-hand gives f errors plan readers hand served as_many answer.1),
)
answer-at-hand gives f errors plan readers files capacity hand as_many same (Err Capacity) answer = answer
answer-at-hand gives f errors plan readers files capacity hand as_many same (Err Shards) answer = absurd cc
answer-at-hand gives f errors plan readers files capacity hand as_many same (Err Memory) answer = answer.0
answer-at-hand gives f errors plan readers files capacity hand as_many same (Err (Read peer)) answer =
    let failed = answer.1.1 in
    none-fails gives f errors failed.peer failed.reader (hand peer failed.reader failed.reader_is) failed.fails
answer-at-hand gives f errors plan readers files capacity hand as_many same (Err (Unsettled peer)) answer = (answer.0.0, answer.1)

-- ---- a whole file

whole-is : (file : List ℕ) → length file < read_limit → IsAtHand Comes (λ (r : MemoryReading). r.left) (whole_of file)
whole-is file fits = record { only = λ octets end given. given; fits = fits }

-- the readers of whole files have these at hand
pub wholes-at-hand : (files : List (Bor (List ℕ))) (readers : List MemoryReading) → All (λ file. length file.now < 2 ^ 50) files
    → readers ≡ map (λ file. whole_of file.now) files
    → (place : ℕ) (reader : MemoryReading) → slice_get readers place ≡ Some reader → IsAtHand Comes (λ (r : MemoryReading). r.left) reader
wholes-at-hand files readers fit are place reader at =
    let made = map-get (λ (file : Bor (List ℕ)). whole_of file.now) files place reader
    (sym (ap (λ (all : List MemoryReading). slice_get all place) are) ∙ at) in
    let fits : length made.0.now < 2 ^ 50 = all-at (λ (file : Bor (List ℕ)). length file.now < 2 ^ 50) files fit place made.0 made.1.0 in
    subst (IsAtHand Comes (λ (r : MemoryReading). r.left)) made.1.1 (whole-is made.0.now fits)
