-- What is served over readers is that of files that they may give: for `serve_by` of serving.rt.
use Rattle.std.proofs.Common.{◌≡◌, ◌∙◌, sym, ap, subst, ℕ, ◌<◌, arith, List, All, length, map, take, Result, Ok, Err, Some}
use Rattle.std.specs.Prelude.{slice_get}
use Rattle.std.specs.List.{zip}
use Rattle.std.proofs.lemmas.List.{length-map, length-take, take-map}
use Rattle.std.proofs.lemmas.Option.{slice_get_within}
use Rattle.rs_choice.specs.Plan.{Peer, Plan, id_of}
use Rattle.rs_mrt.specs.Reader.{ReadEnd}
use Rattle.rs_mrt.specs.RecordReading.{RecordReading, MayCome, unread}
use Rattle.rs_session.specs.Change.{Change}
use Rattle.rs_session.specs.FileChanges.{changes_in_by, passed_in_by}
use Rattle.rs_session.specs.Given.{IsGiven, AreEach, AreGiven, MayFailAt}
use Rattle.rs_session.specs.Laws.{ClosesOnce, GivesFileOrFails, FailedReadCloses}
use Rattle.rs_session.specs.Told.{MayFailToTell, MayFailToTellAt, Tells, Told}
use Rattle.rs_types.specs.declared.peer_id.PeerId.{PeerId}
use Rattle.rs_table.specs.Content.{TablesContent}
use Rattle.rs_update.specs.declared.errors.Errors.{Errors}
use Rattle.rs_serve.specs.ServeAnswer.{ServeAnswer, ServeSourcesAnswer}
use Rattle.rs_serve.specs.Served.{ServedContent, IsEndOf, IsServedAs, IsServedBy, IsServedOver, changes_by_peer, tables_of}
use Rattle.rs_serve.specs.declared.ended.PeerEnd.{PeerEnd}
use Rattle.rs_serve.specs.declared.fault.FloorRefused.{FloorRefused}
use Rattle.rs_serve.specs.declared.fault.FloorRefused.TheVariants.{Memory, Capacity, Read, Shards, Unsettled}
use Rattle.rs_patience.proofs.PlaceLemmas.{get-map, map-get, some-at}
use Rattle.rs_serve.proofs.ListLemmas.{same-places, zip-at, zip-counted}
use Rattle.rs_serve.proofs.serving.AllServedLemmas.{IsOneAt, are-each}
use Rattle.rs_serve.proofs.serving.ServedLemmas.{choose, may-fail, told-file}

-- the file at a place, which its reader may give: it says what the session there tells
pub record IsFileAt {R : Type 0} (gives : R → List ℕ → ReadEnd → Type 0) (errors : Errors) (peers : List PeerId) (readers : List R)
    (all : List Told) (place : ℕ) (file : List ℕ) : Type 0 where
  pub peer : PeerId
  pub reader : R
  pub told : Told
  pub peer_at : slice_get peers place ≡ Some peer
  pub reader_at : slice_get readers place ≡ Some reader
  pub told_at : slice_get all place ≡ Some told
  pub given : IsGiven gives errors peer reader file
  pub says : told.changes ≡ changes_in_by errors peer file
  pub counts : told.passed ≡ passed_in_by errors peer file

module _ {R : Type 0} (gives : R → List ℕ → ReadEnd → Type 0) (errors : Errors) (law : (reader : R) → GivesFileOrFails gives reader)
    (closes : FailedReadCloses) where
  abbrev TellsOf : PeerId → RecordReading R → Told → Type 0
  TellsOf = Tells (MayCome gives) (λ reading. reading.shown) errors

  -- there is a file for each session that tells its changes
  file-at : (peers : List PeerId) (readers : List R) (all : List Told) → length readers ≡ length peers
      → AreEach TellsOf peers (map unread readers) all → (place : ℕ) → place < length readers
      → (file : List ℕ) × IsFileAt gives errors peers readers all place file
  file-at peers readers all as_many are place below =
      let reader = some-at readers place below in
      let peer = some-at peers place (omega (arith, as_many, below)) in
      let told = some-at all place (omega (arith, are.as_many, length-map readers unread, below)) in
      let said = told-file gives errors peer.0 reader.0 (law reader.0) told.0 closes
      (are.each place peer.0 (unread reader.0) told.0 peer.1 (get-map unread readers place reader.0 reader.1) told.1) in (
        said.file,
        record {
          peer = peer.0;
          reader = reader.0;
          told = told.0;
          peer_at = peer.1;
          reader_at = reader.1;
          told_at = told.1;
          given = said.given;
          says = said.says;
          counts = said.counts;
        },
      )

  files-of : (peers : List PeerId) (readers : List R) (all : List Told) → length readers ≡ length peers
      → AreEach TellsOf peers (map unread readers) all → (files : List (List ℕ)) × (length files ≡ length readers)
      × ((place : ℕ) (file : List ℕ) → slice_get files place ≡ Some file → IsFileAt gives errors peers readers all place file)
  files-of peers readers all as_many are =
      choose (length readers) (λ place file. IsFileAt gives errors peers readers all place file) (file-at peers readers all as_many are)

  files-given : (peers : List PeerId) (readers : List R) (all : List Told) (files : List (List ℕ)) → length files ≡ length readers
      → ((place : ℕ) (file : List ℕ) → slice_get files place ≡ Some file → IsFileAt gives errors peers readers all place file)
      → AreGiven gives errors peers readers files
  files-given peers readers all files counted at =
      are-each (IsGiven gives errors) peers readers files counted (λ place file file_at. let found = at place file file_at in
      record {
        peer = found.peer;
        reader = found.reader;
        peer_at = found.peer_at;
        reader_at = found.reader_at;
        is = found.given;
      })

  module _ (plan : Plan) (readers : List R) (as_many : length readers ≡ length plan.peers) where
    -- what the session at a place tells is what the file there says
    record SaysAt (all : List Told) (peer : Peer) (place : ℕ) (file : List ℕ) : Type 0 where
      told : Told
      told_at : slice_get all place ≡ Some told
      says : told.changes ≡ changes_in_by errors (id_of peer) file
      counts : told.passed ≡ passed_in_by errors (id_of peer) file

    says-at : (all : List Told) (files : List (List ℕ))
        → ((place : ℕ) (file : List ℕ) → slice_get files place ≡ Some file
        → IsFileAt gives errors (map id_of plan.peers) readers all place file)
        → (place : ℕ) (peer : Peer) (file : List ℕ) → slice_get plan.peers place ≡ Some peer → slice_get files place ≡ Some file
        → SaysAt all peer place file
    says-at all files at place peer file peer_at file_at =
        let found = at place file file_at in
        let two : Some found.peer ≡ Some (id_of peer) = sym found.peer_at ∙ get-map id_of plan.peers place peer peer_at in
        let same : found.peer ≡ id_of peer = cc in
        record {
          told = found.told;
          told_at = found.told_at;
          says = found.says ∙ ap (λ (p : PeerId). changes_in_by errors p file) same;
          counts = found.counts ∙ ap (λ (p : PeerId). passed_in_by errors p file) same;
        }

    pub over-files : (served : ServedContent) → IsServedOver (MayCome gives) (λ reading. reading.shown) errors plan (map unread readers) served
        → IsServedBy gives errors plan readers served
    over-files served by =
        let all = by.0 in
        let peers : length readers ≡ length (map id_of plan.peers) = as_many ∙ sym (length-map plan.peers id_of) in
        let chosen = files-of (map id_of plan.peers) readers all peers by.1 in
        let files = chosen.0 in
        let of_peers : length files ≡ length plan.peers = chosen.1 ∙ as_many in
        let of_told : length all ≡ length plan.peers = by.1.as_many ∙ length-map readers unread ∙ as_many in (
          files,
          files-given (map id_of plan.peers) readers all files chosen.1 chosen.2,
          record {
            tables_are = by.2.tables_are ∙ ap (tables_of plan)
                (changes-same all files of_peers of_told (says-at all files chosen.2));
            counted = by.2.counted;
            ends_are = λ place peer file end peer_at file_at end_at.
                let said = says-at all files chosen.2 place peer file peer_at file_at in
                let ended = by.2.ends_are place said.told end said.told_at end_at in
                record {
                  before = ended.closes.before;
                  time = ended.closes.time;
                  changes_are = ended.changes_are ∙ ap length said.says;
                  passed_are = ended.passed_are ∙ said.counts;
                  closes = sym said.says ∙ ended.closes.splits;
                };
          },
        )
      where
        changes-same : (all : List Told) (files : List (List ℕ)) → length files ≡ length plan.peers → length all ≡ length plan.peers
            → ((place : ℕ) (peer : Peer) (file : List ℕ) → slice_get plan.peers place ≡ Some peer → slice_get files place ≡ Some file
            → SaysAt all peer place file)
            → map (λ told. told.changes) all ≡ changes_by_peer errors plan files
        changes-same all files of_peers of_told at = same-places (changes_by_peer errors plan files)
            (map (λ (told : Told). told.changes) all) lengths places
          where
            zipped : length (changes_by_peer errors plan files) ≡ length plan.peers
            zipped = length-map (zip plan.peers files) (λ (peer, file). changes_in_by errors (id_of peer) file)
                ∙ zip-counted plan.peers files of_peers

            lengths : length (changes_by_peer errors plan files) ≡ length (map (λ (told : Told). told.changes) all)
            lengths = zipped ∙ sym (length-map all (λ (told : Told). told.changes) ∙ of_told)

            places : (place : ℕ) (changes : List Change) → slice_get (changes_by_peer errors plan files) place ≡ Some changes
                → slice_get (map (λ (told : Told). told.changes) all) place ≡ Some changes
            places place changes e =
                let within : place < length (changes_by_peer errors plan files) =
                slice_get_within (changes_by_peer errors plan files) place changes e in
                let peer = some-at plan.peers place (omega (arith, within, zipped)) in
                let file = some-at files place (omega (arith, within, zipped, of_peers)) in
                let said = at place peer.0 file.0 peer.1 file.1 in
                let made : slice_get (changes_by_peer errors plan files) place ≡ Some (changes_in_by errors (id_of peer.0) file.0) =
                get-map (λ (peer, file). changes_in_by errors (id_of peer) file) (zip plan.peers files) place (peer.0, file.0)
                (zip-at plan.peers files place peer.0 file.0 peer.1 file.1) in
                get-map (λ (told : Told). told.changes) all place said.told said.told_at ∙ ap Some said.says ∙ sym made ∙ e

    -- a session that may fail to tell its changes is over a reader that may fail
    pub fails-over-files : ClosesOnce → (peer : ℕ)
        → MayFailToTellAt (MayCome gives) (λ reading. reading.shown) errors (map id_of plan.peers) (map unread readers) peer
        → MayFailAt gives errors (map id_of plan.peers) readers peer
    fails-over-files once peer fails =
        let reader = map-get unread readers peer fails.reader fails.reader_is in
        let before = subst (λ (rs : List (RecordReading R)). AreEach TellsOf (take peer (map id_of plan.peers)) rs fails.before_it)
        (take-map unread peer readers) fails.before in
        let counted : length (take peer readers) ≡ length (take peer (map id_of plan.peers)) =
        omega (arith, length-take peer readers, length-take peer (map id_of plan.peers), length-map plan.peers id_of, as_many) in
        let chosen = files-of (take peer (map id_of plan.peers)) (take peer readers) fails.before_it counted before in
        record {
          peer = fails.peer;
          reader = reader.0;
          before_it = chosen.0;
          peer_is = fails.peer_is;
          reader_is = reader.1.0;
          fails = may-fail gives errors fails.peer reader.0 (law reader.0) once
              (subst (λ (r : RecordReading R). MayFailToTell (MayCome gives) (λ reading. reading.shown) errors fails.peer r)
              (sym reader.1.1) fails.fails);
          before = files-given (take peer (map id_of plan.peers)) (take peer readers) fails.before_it chosen.0 chosen.1 chosen.2;
        }

    pub answers-over-files : ClosesOnce → (capacity shards : ℕ) (result : Result ServedContent FloorRefused)
        → ServeSourcesAnswer (MayCome gives) (λ reading. reading.shown) errors plan (map unread readers) capacity shards result
        → ServeAnswer gives errors plan readers capacity shards result
    answers-over-files once capacity shards (Ok served) answer = (answer.0, over-files served answer.1)
    answers-over-files once capacity shards (Err Memory) answer = answer
    answers-over-files once capacity shards (Err Capacity) answer = answer
    answers-over-files once capacity shards (Err Shards) answer = answer
    answers-over-files once capacity shards (Err (Read peer)) answer =
        (answer.0, (answer.1.0, fails-over-files once peer answer.1.1))
    answers-over-files once capacity shards (Err (Unsettled peer)) answer = answer
