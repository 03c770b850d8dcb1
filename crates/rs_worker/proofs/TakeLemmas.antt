-- What the next answer of a session is, as a change to send.
use Rattle.std.proofs.Common.{◌≡◌, ◌∙◌, sym, ap, refl, ℕ, ◌≤◌, arith, true, false, List, [], ◌∷◌, ◌++◌, length, Option, Some, None, Ok, Err}
use Rattle.std.proofs.Common.{append_assoc, length-append}
use Rattle.std.specs.declared.alloc.AllocError.{AllocError}
use Rattle.std.proofs.lemmas.List.{same_from_push}
use Rattle.rs_mrt.specs.Record.{MrtRecord}
use Rattle.rs_mrt.specs.declared.fault.SourceFault.{SourceFault}
use Rattle.rs_mrt.specs.declared.fault.SourceFault.TheVariants as faults
use Rattle.rs_session.specs.Change.{Change, Closed, change_of, closing_word}
use Rattle.rs_session.specs.FileChanges.{changes_of, close_at}
use Rattle.rs_session.specs.Laws.{ClosesOnce, SomethingMayCome, may_close}
use Rattle.rs_session.specs.Stage.{Comes, Stage, May, Says, Closes, Fewer, most_changes}
use Rattle.rs_change.specs.declared.word.Body.{Body}
use Rattle.rs_change.specs.declared.word.Body.TheVariants.{Close}
use Rattle.rs_change.specs.declared.word.Reason.{Reason}
use Rattle.rs_change.specs.declared.word.Reason.TheVariants as reasons
use Rattle.rs_change.specs.declared.word.Word.{Word}
use Rattle.rs_worker.specs.Steps.{reason_of, Ends, Takes}
use Rattle.rs_worker.specs.Worked.{is_memory}

-- changes that end in a close are those that end in another one only where both tell one reason
pub same_reason : (before others : List Change) (time at : ℕ) (reason other : Reason)
    → before ++ close_at time reason ∷ [] ≡ others ++ close_at at other ∷ [] → reason ≡ other
same_reason before others time at reason other e =
    let bodies : Closed reason ≡ Closed other =
    ap (λ (change : Change). change.body) (same_from_push before others (close_at time reason) (close_at at other) e).1 in
    cc

-- no records close a session for want of memory
never_memory : (end : Option SourceFault) (reason : Reason) → may_close end reason ≡ true → is_memory reason ≡ false
never_memory None reasons.Memory h = absurd cc
never_memory (Some (faults.Mrt fault)) reasons.Memory h = absurd cc
never_memory (Some faults.Read) reasons.Memory h = absurd cc
never_memory end reason h = refl

module _ {S : Type 0} (comes : Comes S) (shows : S → Option MrtRecord) (law : ClosesOnce) where
  -- what may still come of an open session ends in a close that isn't for want of memory
  ends_well : (stage : Stage S) (front : List Change) (time passed : ℕ) (reason : Reason) → stage.closed ≡ false
      → May comes shows stage (front ++ close_at time reason ∷ []) passed → is_memory reason ≡ false
  ends_well stage front time passed reason unclosed m =
      let closes = law stage.errors stage.peer m.records m.end in
      let whole : front ++ close_at time reason ∷ [] ≡ (stage.waiting ++ closes.before) ++ close_at closes.time closes.reason ∷ [] =
      rw unclosed at m.left ∙ ap (λ cs. stage.waiting ++ cs) closes.splits
      ∙ sym (append_assoc stage.waiting closes.before (close_at closes.time closes.reason ∷ [])) in
      let same = same_reason front (stage.waiting ++ closes.before) time closes.time reason closes.reason whole in
      ap is_memory same ∙ never_memory m.end closes.reason closes.recorded

  -- something is to come of an open session
  some_rest : (stage : Stage S) (changes : List Change) (passed : ℕ) → stage.closed ≡ false → May comes shows stage changes passed
      → 1 ≤ length changes
  some_rest stage changes passed unclosed m =
      let closes = law stage.errors stage.peer m.records m.end in
      omega (
        arith,
        ap length (rw unclosed at m.left),
        length-append stage.waiting (changes_of stage.errors stage.peer m.records m.end),
        ap length closes.splits,
        length-append closes.before (close_at closes.time closes.reason ∷ []),
      )

  -- a change of the session
  module _ (room : S → ℕ) (old new : Stage S) (unclosed : old.closed ≡ false) where
    takes-body : (word : Word) (body : Body) → word.body ≡ body → Says comes shows old new (Ok (Some word))
        → Closes old.closed new.closed (Ok (Some word)) → Fewer (most_changes room shows old) (most_changes room shows new) (Ok (Some word))
        → SomethingMayCome comes shows new → Takes comes shows room old new word (reason_of body)
    takes-body word (Close reason) is says closes fewer more =
        let over = says.1 (rw is refl) more.0 more.1 more.2 in
        let last : May comes shows old (change_of word ∷ []) new.passed = rw over.1 at (rw over.0 at (says.0 more.0 more.1 more.2)) in
        let well = ends_well old [] word.time new.passed reason unclosed (rw is at last) in
        record { last = λ _. last; refused = λ memory. absurd (cc) }
    takes-body word body is says closes fewer more = record { keeps = says.0; unclosed = closes.1 ∙ rw is refl; fewer = rw is at fewer }

    pub takes-given : (word : Word) → Says comes shows old new (Ok (Some word)) → Closes old.closed new.closed (Ok (Some word))
        → Fewer (most_changes room shows old) (most_changes room shows new) (Ok (Some word)) → SomethingMayCome comes shows new
        → Takes comes shows room old new word (reason_of word.body)
    takes-given word says closes fewer more = takes-body word word.body refl says closes fewer more

    -- refused memory, it tells so
    pub takes-refused : (refused : AllocError) → Says comes shows old new (Err refused) → Closes old.closed new.closed (Err refused)
        → SomethingMayCome comes shows new → Ends comes shows old new (closing_word 0 reasons.Memory) reasons.Memory
    takes-refused refused says closes more = record {
      last = λ other. absurd cc;
      refused = λ _. (
        refl,
        record {
          rest = more.0;
          total = more.1;
          may_come = says.0 more.0 more.1 more.2;
          some_rest = some_rest new more.0 more.1 closes.1 more.2;
          passed_within = omega (arith, rw closes.1 at more.2.counted);
        },
      );
    }
