-- What a step leaves to come.
use Rattle.std.proofs.Common.{◌≡◌, ℕ, ◌+◌, ◌≤◌, Bool, true, false, List, [], ◌∷◌, ◌++◌, Option, Some, None, Result, Ok, Err, IfOk, OnErr}
use Rattle.std.proofs.Common.{refl, sym, ◌∙◌, ap, arith, add-zero, length, length-append}
use Rattle.std.specs.Option.{option_to_list}
use Rattle.std.specs.declared.alloc.AllocError.{AllocError}
use Rattle.rs_mrt.specs.Record.{MrtRecord, reading_of, records_of, end_of, octets_of}
use Rattle.rs_mrt.specs.Source.{Advances, IsLeft, SomethingComes, source_end}
use Rattle.rs_mrt.specs.declared.fault.SourceFault.{SourceFault}
use Rattle.rs_change.specs.Change.{Change, change_of}
use Rattle.rs_session.specs.Concerning.{StepsBehind}
use Rattle.rs_session.specs.Effect.{RecordEffect, PassesOver, Gives, Ends, effect_of}
use Rattle.rs_session.specs.FileChanges.{changes_in_by, passed_in_by, changes_of, close_at}
use Rattle.rs_session.specs.Stage.{Comes, Stage, MayRead, May, Keeps, KeepsBehind, IsOver, SaysJust, fresh, to_read, changes_left}
use Rattle.rs_session.specs.Stage.{passed_in_the_end, held_octets, most_changes, Fewer}
use Rattle.rs_session.specs.Laws.{SomethingMayCome}
use Rattle.rs_update.specs.declared.errors.Errors.{Errors}
use Rattle.rs_types.specs.declared.peer_id.PeerId.{PeerId}
use Rattle.rs_session.specs.Steps.{closed_by, GivesWaiting, Fetches, Applies, ReadsShown}
use Rattle.rs_change.specs.declared.word.Reason.{Reason}
use Rattle.rs_change.specs.declared.word.Word.{Word}
use Rattle.rs_session.proofs.EffectLemmas.{IsFine, fine-effect}
use Rattle.rs_session.proofs.LawLemmas.{changes_of-some}
use Rattle.rs_session.proofs.FileChangesLemmas.{changes_of-nil, passed_of-nil, changes_of-passes, passed_of-passes, changes_of-gives}
use Rattle.rs_session.proofs.FileChangesLemmas.{passed_of-gives, changes_of-ends, passed_of-ends}

module _ {S : Type 0} (comes : Comes S) (shows : S → Option MrtRecord) where
  -- ---- fetching

  more_come : (old new : S) (shown : Option MrtRecord) (later : List MrtRecord) (end : Option SourceFault)
      → Advances comes old new shown (Ok true) → comes new later end → comes old (option_to_list shown ++ later) end
  more_come old new (Some r) later end h come = h later end come
  more_come old new None later end h come = absurd h

  -- after a record was fetched the same records may be read as before
  pub may_read-fetched : (old new : Stage S) → old.held ≡ false → new.held ≡ true
      → Advances comes old.source new.source (shows new.source) (Ok true) → (records : List MrtRecord) (end : Option SourceFault)
      → MayRead comes shows new records end → MayRead comes shows old records end
  may_read-fetched old new empty full h records end m = record {
    later = option_to_list (shows new.source) ++ m.later;
    come = more_come old.source new.source (shows new.source) m.later end h m.come;
    read = rw empty (rw full at m.read);
  }

  -- if no record is at hand and none comes, none may be read
  pub may_read-none : (old : Stage S) (end : Option SourceFault) → old.held ≡ false → comes old.source [] end
      → MayRead comes shows old [] end
  may_read-none old end empty come = record { later = []; come = come; read = rw empty refl }

  -- a stage that differs in the source and the record at hand alone keeps what may come, if it keeps what may be
  -- read
  pub keeps_by_reading : (old new : Stage S) → new ≡ record old { source = new.source; held = true } → Fetches comes shows old new None
      → Keeps comes shows old new
  keeps_by_reading old new same h changes passed m = record {
    records = m.records;
    end = m.end;
    may_read = h m.records m.end m.may_read;
    left = m.left ∙ ap (λ (stage : Stage S). changes_left stage m.records m.end) same;
    counted = m.counted ∙ ap (λ (stage : Stage S). passed_in_the_end stage m.records) same;
  }

  -- ---- closing

  -- a closed session gives no change
  pub over-closed : (stage : Stage S) → stage.closed ≡ true → IsOver comes shows stage
  over-closed stage closed changes passed m = (rw closed at m.left, rw closed at m.counted)

  -- if no record may be read, the close for that reason comes
  pub closes_at_end : (old fetched new : Stage S) (reason : Reason) → old.closed ≡ false → old.waiting ≡ []
      → fetched ≡ record old { source = fetched.source; held = false } → Fetches comes shows old fetched (Some reason)
      → new ≡ closed_by fetched → KeepsBehind comes shows (close_at 0 reason) old new
  closes_at_end old fetched new reason unclosed idle same end closed changes passed m =
      record {
        records = [];
        end = end.0;
        may_read = end.1;
        left = rw (unclosed, idle, changes_of-nil old.errors old.peer end.0, ← end.2)
            (ap (λ (cs : List Change). close_at 0 reason ∷ cs) (rw closed at m.left));
        counted = rw (unclosed, passed_of-nil old.errors old.peer, add-zero) (rw (closed, same) at m.counted);
      }

  -- ---- reading

  -- the record at hand is one of those that may be read
  pub may_read-held : (old new : Stage S) (r : MrtRecord) (records : List MrtRecord) (end : Option SourceFault) → old.held ≡ true
      → new.held ≡ false → new.source ≡ old.source → shows old.source ≡ Some r → MayRead comes shows new records end
      → MayRead comes shows old (r ∷ records) end
  may_read-held old new r records end full empty same shown m = record {
    later = m.later;
    come = rw same at m.come;
    read = rw (full, shown) (ap (λ (rs : List MrtRecord). r ∷ rs) (rw empty at m.read));
  }

  pub steps-applied : (old new : Stage S) (r : MrtRecord) (effect : RecordEffect) (given : Option Word) → old.held ≡ true
      → old.closed ≡ false → old.waiting ≡ [] → shows old.source ≡ Some r → effect_of old.errors old.peer r ≡ effect
      → Applies r.time effect old given new → StepsBehind comes shows [] old new (Ok given)
  steps-applied old new r PassesOver None full unclosed idle shown says h = (
    (λ changes passed m. record {
      records = r ∷ m.records;
      end = m.end;
      may_read = may_read-held old new r m.records m.end full (rw h refl) (rw h refl) shown m.may_read;
      left = rw (unclosed, idle, changes_of-passes old.errors old.peer r m.records m.end says) (rw (h, unclosed, idle) at m.left);
      counted = rw (unclosed, passed_of-passes old.errors old.peer r m.records says)
          (let e = rw (h, unclosed) at m.counted in omega (arith, e));
    }),
    rw h unclosed,
    rw h refl,
  )
  steps-applied old new r (Gives changes) None full unclosed idle shown says h = (
    (λ left passed m. record {
      records = r ∷ m.records;
      end = m.end;
      may_read = may_read-held old new r m.records m.end full (rw h refl) (rw h refl) shown m.may_read;
      left = rw (unclosed, idle, changes_of-gives old.errors old.peer r changes m.records m.end says) (rw (h, unclosed) at m.left);
      counted = rw (unclosed, passed_of-gives old.errors old.peer r changes m.records says) (rw (h, unclosed) at m.counted);
    }),
    rw h unclosed,
    rw h refl,
  )
  steps-applied old new r (Ends reason) (Some word) full unclosed idle shown says h = (
    (λ changes passed m. record {
      records = r ∷ m.records;
      end = m.end;
      may_read = may_read-held old new r m.records m.end full (rw h.2 refl) (rw h.2 refl) shown m.may_read;
      left = rw (unclosed, idle, changes_of-ends old.errors old.peer r reason m.records m.end says, h.0)
          (ap (λ (cs : List Change). close_at r.time reason ∷ cs) (rw h.2 at m.left));
      counted = rw (unclosed, passed_of-ends old.errors old.peer r reason m.records says, add-zero) (rw h.2 at m.counted);
    }),
    rw h.0 refl,
    rw h.2 refl,
  )
  steps-applied old new r effect given full unclosed idle shown says h = absurd h

  -- ---- a whole step

  steps-shown : (old new : Stage S) (shown : Option MrtRecord) (given : Option Word) → old.held ≡ true → old.closed ≡ false
      → old.waiting ≡ [] → shows old.source ≡ shown → ReadsShown shown old given new → StepsBehind comes shows [] old new (Ok given)
  steps-shown old new (Some r) given full unclosed idle shown says =
      steps-applied old new r (effect_of old.errors old.peer r) given full unclosed idle shown refl says
  steps-shown old new None (Some word) full unclosed idle shown says = cc
  steps-shown old new None None full unclosed idle shown says = (
    (λ changes passed m. record {
      records = m.records;
      end = m.end;
      may_read = record {
        later = m.may_read.later;
        come = rw says.1 at m.may_read.come;
        read =
            rw (full, shown) (rw says.1 at m.may_read.read);
      };
      left = rw says.1 at m.left;
      counted = rw says.1 at m.counted;
    }),
    rw says.1 unclosed,
    rw says.1 refl,
  )

  steps-after : (old between new : Stage S) (result : Result (Option Word) AllocError) → Keeps comes shows old between
      → between.passed ≡ old.passed → StepsBehind comes shows [] between new result → StepsBehind comes shows [] old new result
  steps-after old between new (Ok None) keeps same h = ((λ changes passed m. keeps changes passed (h.0 changes passed m)), h.1, h.2 ∙ same)
  steps-after old between new (Ok (Some word)) keeps same h =
      ((λ changes passed m. keeps (change_of word ∷ changes) passed (h.0 changes passed m)), h.1, h.2)
  steps-after old between new (Err refused) keeps same h =
      ((λ changes passed m. keeps changes passed (h.0 changes passed m)), h.1, h.2 ∙ same)

  steps-result : (old new : Stage S) (result : Result (Option Word) AllocError) → old.held ≡ true → old.closed ≡ false → old.waiting ≡ []
      → IfOk result (λ given. ReadsShown (shows old.source) old given new) → OnErr result (new ≡ old)
      → StepsBehind comes shows [] old new result
  steps-result old new (Ok given) full unclosed idle says refused =
      steps-shown old new (shows old.source) given full unclosed idle refl says
  steps-result old new (Err e) full unclosed idle says refused =
      ((λ changes passed m. rw refused at m), rw refused unclosed, ap (λ (stage : Stage S). stage.passed) refused)

  -- the record that was fetched is read
  pub steps-read : (old fetched new : Stage S) (result : Result (Option Word) AllocError) → old.closed ≡ false → old.waiting ≡ []
      → fetched ≡ record old { source = fetched.source; held = true } → Fetches comes shows old fetched None
      → IfOk result (λ given. ReadsShown (shows fetched.source) fetched given new) → OnErr result (new ≡ fetched)
      → StepsBehind comes shows [] old new result
  steps-read old fetched new result unclosed idle same h says refused =
      steps-after old fetched new result
      (keeps_by_reading old fetched same h)
      (ap (λ (stage : Stage S). stage.passed) same)
      (steps-result fetched new result
      (ap (λ (stage : Stage S). stage.held) same)
      (ap (λ (stage : Stage S). stage.closed) same ∙ unclosed)
      (ap (λ (stage : Stage S). stage.waiting) same ∙ idle)
      says
      refused)

  -- a session that may give no change is closed, and counts no more
  pub passed-over : (stage : Stage S) (passed : ℕ) → May comes shows stage [] passed → stage.passed ≡ passed
  passed-over stage passed m = over-open stage.closed refl
    where
      over-open : (closed : Bool) → stage.closed ≡ closed → stage.passed ≡ passed
      over-open true is = sym (rw is at m.counted)
      over-open false is =
          absurd (let some = changes_of-some stage.errors stage.peer m.records m.end in
          omega (
            arith,
            some,
            ap length (rw is at m.left),
            length-append stage.waiting (changes_of stage.errors stage.peer m.records m.end),
          ))

  -- where something may come from the source, something may come
  pub something_comes : (stage : Stage S) → SomethingComes (comes stage.source) → SomethingMayCome comes shows stage
  something_comes stage some =
      let records = to_read stage.held (shows stage.source) some.0 in (
        changes_left stage records some.1,
        passed_in_the_end stage records,
        record {
          records = records;
          end = some.1;
          may_read = record { later = some.0; come = some.2; read = refl };
          left = refl;
          counted =
              refl;
        },
      )

-- ---- how many changes may come

-- the record at hand has no more octets than its spelling
pub held_le : (held : Bool) (shown : Option MrtRecord) → held_octets held shown ≤ octets_of shown
held_le true (Some r) = omega arith
held_le held shown = omega arith

module _ {S : Type 0} (room : S → ℕ) (shows : S → Option MrtRecord) where
  fewer-applied : (old new : Stage S) (r : MrtRecord) (effect : RecordEffect) (given : Option Word) → old.waiting ≡ [] → old.held ≡ true
      → shows old.source ≡ Some r → IsFine (length r.body) effect → Applies r.time effect old given new
      → most_changes room shows new ≤ most_changes room shows old
  fewer-applied old new r PassesOver None idle full shown fine h = rw h (omega arith)
  fewer-applied old new r (Gives changes) None idle full shown fine h =
      let few = fine.1 in
      let body : held_octets old.held (shows old.source) ≡ length r.body = rw (full, shown) refl in
      rw h (omega arith)
  fewer-applied old new r (Ends reason) (Some word) idle full shown fine h = rw h.2 (omega arith)
  fewer-applied old new r effect given idle full shown fine h = absurd h

  fewer-shown : (old new : Stage S) (shown : Option MrtRecord) (given : Option Word) → old.waiting ≡ [] → old.held ≡ true
      → shows old.source ≡ shown → ReadsShown shown old given new → most_changes room shows new ≤ most_changes room shows old
  fewer-shown old new (Some r) given idle full shown h =
      fewer-applied old new r (effect_of old.errors old.peer r) given idle full shown (fine-effect old.errors old.peer r) h
  fewer-shown old new None given idle full shown h = rw h.1 (omega arith)

  -- a record that is read has no more changes than its body has octets
  pub fewer-read : (old fetched new : Stage S) (result : Result (Option Word) AllocError) → old.waiting ≡ []
      → fetched ≡ record old { source = fetched.source; held = true } → most_changes room shows fetched ≤ most_changes room shows old
      → IfOk result (λ given. ReadsShown (shows fetched.source) fetched given new) → OnErr result (new ≡ fetched)
      → most_changes room shows new ≤ most_changes room shows old
  fewer-read old fetched new (Ok given) idle same less says refused =
      let read = fewer-shown fetched new (shows fetched.source) given (ap (λ (stage : Stage S). stage.waiting) same ∙ idle)
      (ap (λ (stage : Stage S). stage.held) same) refl says in
      omega (arith, read, less)
  fewer-read old fetched new (Err e) idle same less says refused = rw refused less

  -- closing gives none up
  pub fewer-closed : (old fetched new : Stage S) → most_changes room shows fetched ≤ most_changes room shows old → new ≡ closed_by fetched
      → most_changes room shows new ≤ most_changes room shows old
  fewer-closed old fetched new less closed = rw closed (omega (arith, less))

  -- a change that waits is given
  pub fewer-gives : (first old new : Stage S) (word : Word) → most_changes room shows old ≤ most_changes room shows first
      → GivesWaiting old (Some word) new → Fewer (most_changes room shows first) (most_changes room shows new) (Ok (Some word))
  fewer-gives first old new word less given =
      let one : length old.waiting ≡ length new.waiting + 1 = ap length given.0 ∙ omega arith in
      let held : held_octets new.held (shows new.source) ≡ held_octets old.held (shows old.source) =
      ap (λ (stage : Stage S). held_octets stage.held (shows stage.source)) given.2 in
      let left : room new.source ≡ room old.source = ap (λ (stage : Stage S). room stage.source) given.2 in
      rw given.1 (omega (arith, less))

-- just what a file says may come from its records
pub says_just-file : (errors : Errors) (peer : PeerId) (file : List ℕ)
    → SaysJust (λ s later end. IsLeft s later end) (λ s. s.shown) (fresh (reading_of None file) peer errors)
    (changes_in_by errors peer file) (passed_in_by errors peer file)
says_just-file errors peer file changes passed = (
  (λ m.
      let same = m.may_read.read ∙ m.may_read.come.0 in
      (m.left ∙ rw (same, m.may_read.come.1) refl, m.counted ∙ rw same (omega arith))),
  λ h. record {
    records = records_of file;
    end = source_end (end_of file);
    may_read = record { later = records_of file; come = (refl, refl); read = refl };
    left = h.0;
    counted = h.1 ∙ omega arith;
  },
)
