-- What the session of each peer tells whose worker settled well, and what its file says: for `serve_by` and `serve_sources` of
-- serving.rt, by AllServedLemmas and FilesServedLemmas.
use Rattle.std.proofs.Common.{◌≡◌, ◌∙◌, sym, ap, subst, refl, ℕ, ◌<◌, suc, zero, arith, inl, inr, true, false, List, [], ◌∷◌, ◌++◌, length}
use Rattle.std.proofs.Common.{map, Option, Some, None}
use Rattle.std.specs.Prelude.{slice_get}
use Rattle.std.proofs.lemmas.List.{length-map, map-append}
use Rattle.rs_mrt.specs.Reader.{ReadEnd}
use Rattle.rs_mrt.specs.Record.{MrtRecord, records_of, end_of}
use Rattle.rs_mrt.specs.RecordReading.{MayCome, unread}
use Rattle.rs_mrt.specs.Source.{source_end}
use Rattle.rs_mrt.specs.declared.fault.MrtFault.{MrtFault}
use Rattle.rs_mrt.specs.declared.fault.SourceFault.TheVariants as faults
use Rattle.rs_session.specs.Change.{change_of, closing_word, is_read}
use Rattle.rs_session.specs.FileChanges.{changes_of, close_at}
use Rattle.rs_session.specs.Given.{MayFail, SaysGiven, SaysFailed}
use Rattle.rs_session.specs.Laws.{ClosesOnce, GivesFileOrFails, FailedReadCloses, ClosesByRead, may_close}
use Rattle.rs_session.specs.Stage.{Comes, May, fresh}
use Rattle.rs_session.specs.Told.{ClosesFor, MayFailToTell, Tells, Told}
use Rattle.rs_types.specs.declared.peer_id.PeerId.{PeerId}
use Rattle.rs_change.specs.declared.word.Reason.{Reason}
use Rattle.rs_change.specs.declared.word.Reason.TheVariants as reasons
use Rattle.rs_change.specs.declared.word.Word.{Word}
use Rattle.rs_update.specs.declared.errors.Errors.{Errors}
use Rattle.rs_worker.specs.Crew.{HasJoined}
use Rattle.rs_worker.specs.Worked.{is_memory}
use Rattle.rs_worker.specs.declared.crew.Joined.{Joined}
use Rattle.rs_worker.proofs.TakeLemmas.{same_reason}
use Rattle.rs_serve.specs.Run as run
use Rattle.rs_serve.specs.Served.{IsEndOfTold}

-- ---- workers

module _ {S : Type 0} (comes : Comes S) (shows : S → Option MrtRecord) (errors : Errors) (peer : PeerId) (source : S)
    (received : List Word) (end : Joined) where
  -- what is known of a worker over this source
  abbrev pub JoinedOver : Type 0
  JoinedOver = HasJoined (May comes shows (fresh source peer errors)) received end

  -- what it told
  abbrev pub told_by : JoinedOver → Told
  told_by joined = record { changes = map change_of joined.sent; passed = end.passed }

  -- the last change that it sent is its close
  closes-so : (joined : JoinedOver) → ClosesFor (map change_of joined.sent) end.reason
  closes-so joined = record {
    before = map change_of joined.sends.before;
    time = joined.sends.time;
    splits = ap (map change_of) joined.sends.splits
        ∙ map-append change_of joined.sends.before (closing_word joined.sends.time end.reason ∷ []);
  }

  -- a worker that ended well told what the session may tell
  pub tells-all : (joined : JoinedOver) → is_memory end.reason ≡ false → is_read end.reason ≡ false
      → Tells comes shows errors peer source (told_by joined)
  tells-all joined remembers reads = record {
    may = joined.sends.whole remembers;
    reason = end.reason;
    closes = closes-so joined;
    read = reads;
  }

  -- and ended as it told
  pub end-of-told : (joined : JoinedOver) → IsEndOfTold (told_by joined) (run.end_of end)
  end-of-told joined = record {
    changes_are = joined.counted ∙ sym (length-map joined.sent change_of);
    passed_are = refl;
    closes = closes-so joined;
  }

  -- the session of a worker that ended since a read failed may fail
  pub fails-to-tell : JoinedOver → is_read end.reason ≡ true → MayFailToTell comes shows errors peer source
  fails-to-tell joined reads =
      let read : end.reason ≡ reasons.Read = read-is end.reason reads in
      record {
        told = told_by joined;
        may = joined.sends.whole (ap is_memory read);
        closes = subst (ClosesFor (map change_of joined.sent)) read (closes-so joined);
      }
    where
      read-is : (reason : Reason) → is_read reason ≡ true → reason ≡ reasons.Read
      read-is reasons.Read is = refl
      read-is reason is = absurd cc

-- ---- files

-- no file says that a read failed
unread_by-file : (end : Option MrtFault) (reason : Reason) → may_close (source_end end) reason ≡ true → reason ≡ reasons.Read → ⊥
unread_by-file None reason may is = absurd (let bad : may_close None reasons.Read ≡ true = rw is at may in cc)
unread_by-file (Some fault) reason may is = absurd (let bad : may_close (source_end (Some fault)) reasons.Read ≡ true = rw is at may in cc)

module _ {R : Type 0} (gives : R → List ℕ → ReadEnd → Type 0) (errors : Errors) (peer : PeerId) (reader : R)
    (file_or_fails : GivesFileOrFails gives reader) where
  -- what a session over a reader tells is what a file says that the reader may give
  pub told-file : (told : Told) → FailedReadCloses → Tells (MayCome gives) (λ reading. reading.shown) errors peer (unread reader) told
      → SaysGiven gives errors peer reader told.changes told.passed
  told-file told closes tells =
      elim (file_or_fails errors peer told.changes told.passed tells.may)
      [ inl given ↦ given | inr failed ↦ absurd (no_read failed) ]
    where
      no_read : SaysFailed gives errors peer reader told.changes told.passed → ⊥
      no_read failed =
          let close : ClosesByRead (changes_of errors peer (records_of failed.came) (Some faults.Read)) =
          closes errors peer failed.came failed.fails.no_end in
          let same : tells.closes.before ++ close_at tells.closes.time tells.reason ∷ [] ≡ close.before ++ close_at 0 reasons.Read ∷ [] =
          sym tells.closes.splits ∙ failed.says ∙ close.splits in
          let reason : tells.reason ≡ reasons.Read =
          same_reason tells.closes.before close.before tells.closes.time 0 tells.reason reasons.Read same in
          let reads : is_read tells.reason ≡ false = tells.read in
          let read : is_read tells.reason ≡ true = ap is_read reason in
          cc

  -- a reader of which a read failed may fail
  pub may-fail : ClosesOnce → MayFailToTell (MayCome gives) (λ reading. reading.shown) errors peer (unread reader)
      → MayFail gives errors peer reader
  may-fail once fails =
      elim (file_or_fails errors peer fails.told.changes fails.told.passed fails.may)
      [ inl given ↦ absurd (no_file given) | inr failed ↦ (failed.came, failed.fails) ]
    where
      no_file : SaysGiven gives errors peer reader fails.told.changes fails.told.passed → ⊥
      no_file given =
          let close = once errors peer (records_of given.file) (source_end (end_of given.file)) in
          let same : fails.closes.before ++ close_at fails.closes.time reasons.Read ∷ [] ≡ close.before
          ++ close_at close.time close.reason ∷ [] = sym fails.closes.splits ∙ given.says ∙ close.splits in
          let reason : reasons.Read ≡ close.reason =
          same_reason fails.closes.before close.before fails.closes.time close.time reasons.Read close.reason same in
          unread_by-file (end_of given.file) close.reason close.recorded (sym reason)

-- ---- lists by places

-- a list of what there is at each place
pub choose : {X : Type 0} (n : ℕ) (P : ℕ → X → Type 0) → ((k : ℕ) → k < n → (x : X) × P k x) → (xs : List X) × (length xs ≡ n)
    × ((k : ℕ) (x : X) → slice_get xs k ≡ Some x → P k x)
choose zero P all = ([], refl, λ k x e. absurd cc)
choose (suc n) P all =
    let first = all zero (omega arith) in
    let rest = choose n (λ k x. P (suc k) x) (λ k h. all (suc k) (omega arith)) in
    (first.0 ∷ rest.0, ap suc rest.1, at first.0 first.1 rest.0 rest.2)
  where
    at : (x : _) → P zero x → (xs : List _) → ((k : ℕ) (y : _) → slice_get xs k ≡ Some y → P (suc k) y) → (k : ℕ) (y : _)
        → slice_get (x ∷ xs) k ≡ Some y → P k y
    at x here xs later zero y e = let same : x ≡ y = cc in subst (λ z. P zero z) same here
    at x here xs later (suc k) y e = later k y e
