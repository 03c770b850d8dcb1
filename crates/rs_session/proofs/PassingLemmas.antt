-- What a step leaves to come behind the changes that are passed over.
use Rattle.std.proofs.Common.{◌≡◌, true, false, List, [], ◌∷◌, ◌++◌, Option, Some, None, Result, Ok, Err, refl, sym, subst, ◌∙◌, ap}
use Rattle.std.proofs.Common.{arith, append_assoc}
use Rattle.std.specs.declared.alloc.AllocError.{AllocError}
use Rattle.rs_mrt.specs.Record.{MrtRecord}
use Rattle.rs_change.specs.Change.{Change, change_of}
use Rattle.rs_session.specs.Concerning.{IsBeside, KeepsBehindAll, MayPass, PassesShown, SaysBehind, SaysOf, StepsBehind, StepsOf}
use Rattle.rs_session.specs.Effect.{RecordEffect, Gives, effect_of}
use Rattle.rs_session.specs.Stage.{Comes, Stage, May, KeepsBehind, Says}
use Rattle.rs_session.specs.Steps.{Fetches, GivesWaiting}
use Rattle.rs_session.specs.declared.beside.Only.{Only}
use Rattle.rs_change.specs.declared.word.Word.{Word}
use Rattle.rs_session.proofs.BesideLemmas.{over-more}
use Rattle.rs_session.proofs.FileChangesLemmas.{changes_of-gives, passed_of-gives}
use Rattle.rs_session.proofs.StageLemmas.{keeps_by_reading, may_read-held, over-closed}

-- a change that waits was to come before the others
keeps-given : {S : Type 0} (comes : Comes S) (shows : S → Option MrtRecord) (old new : Stage S) (word : Word) → old.closed ≡ false
    → GivesWaiting old (Some word) new → KeepsBehind comes shows (change_of word) old new
keeps-given comes shows old new word unclosed given changes passed m = record {
  records = m.records;
  end = m.end;
  may_read = record { later = m.may_read.later; come = rw given.2 at m.may_read.come; read = rw given.2 at m.may_read.read };
  left = rw (unclosed, given.0) (ap (λ (later : List Change). change_of word ∷ later) (rw (given.2, unclosed) at m.left));
  counted = rw unclosed (let e = rw (given.2, unclosed) at m.counted in omega (arith, e));
}

may-none : (only : Option Only) → MayPass only []
may-none None = refl
may-none (Some one) = record { beside = refl; in_time = refl }

may-more : (only : Option Only) (xs ys : List Change) → MayPass only xs → MayPass only ys → MayPass only (xs ++ ys)
may-more None xs ys first second = rw (first, second) refl
may-more (Some one) xs ys first second = over-more one xs ys first second

-- behind what was passed over, an answer says what is promised where this is asked for
says-of : {S : Type 0} (comes : Comes S) (shows : S → Option MrtRecord) (only : Option Only) (over : List Change)
    (old new : Stage S) (result : Result (Option Word) AllocError) → MayPass only over → SaysBehind comes shows over old new result
    → SaysOf comes shows only old new result
says-of comes shows None over old new result none says = all result (rw none at says)
  where
    all : (result : Result (Option Word) AllocError) → SaysBehind comes shows [] old new result → Says comes shows old new result
    all (Ok None) says = says
    all (Ok (Some word)) says = says
    all (Err refused) says = says
says-of comes shows (Some one) over old new result may says = record { over = over; are_over = may; says = says }

module _ {S : Type 0} (comes : Comes S) (shows : S → Option MrtRecord) (only : Option Only) where
  -- some changes were passed over, and behind them whatever may come after may come before
  pub record IsBehind (old new : Stage S) : Type 0 where
    pub over : List Change
    pub may_pass : MayPass only over
    pub keeps : KeepsBehindAll comes shows over old new

  keeps-more : (first second : List Change) (old between new : Stage S) → KeepsBehindAll comes shows first old between
      → KeepsBehindAll comes shows second between new → KeepsBehindAll comes shows (first ++ second) old new
  keeps-more first second old between new keeps more changes passed m =
      subst (λ (all : List Change). May comes shows old all passed) (sym (append_assoc first second changes))
      (keeps (second ++ changes) passed (more changes passed m))

  -- a record that is passed over gives what comes before the rest
  keeps-beside : (old new : Stage S) (r : MrtRecord) (changes : List Change) → old.held ≡ true → old.closed ≡ false → old.waiting ≡ []
      → shows old.source ≡ Some r → effect_of old.errors old.peer r ≡ Gives changes → new ≡ record old { held = false }
      → KeepsBehindAll comes shows changes old new
  keeps-beside old new r changes full unclosed idle shown says same left passed m = record {
    records = r ∷ m.records;
    end = m.end;
    may_read = may_read-held comes shows old new r m.records m.end full (rw same refl) (rw same refl) shown m.may_read;
    left = rw (unclosed, idle, changes_of-gives old.errors old.peer r changes m.records m.end says)
        (ap (λ (later : List Change). changes ++ later) (rw (same, unclosed, idle) at m.left));
    counted = rw (unclosed, passed_of-gives old.errors old.peer r changes m.records says) (rw (same, unclosed) at m.counted);
  }

  passed-effect : (old new : Stage S) (r : MrtRecord) (effect : RecordEffect) → old.held ≡ true → old.closed ≡ false → old.waiting ≡ []
      → shows old.source ≡ Some r → effect_of old.errors old.peer r ≡ effect → IsBeside only effect
      → new ≡ record old { held = false } → IsBehind old new
  passed-effect old new r (Gives changes) full unclosed idle shown says beside same =
      record { over = changes; may_pass = beside; keeps = keeps-beside old new r changes full unclosed idle shown says same }
  passed-effect old new r effect full unclosed idle shown says beside same = absurd beside

  passed-shown : (old new : Stage S) (shown : Option MrtRecord) → old.held ≡ true → old.closed ≡ false → old.waiting ≡ []
      → shows old.source ≡ shown → PassesShown shown only old true new → IsBehind old new
  passed-shown old new (Some r) full unclosed idle shown h =
      passed-effect old new r (effect_of old.errors old.peer r) full unclosed idle shown refl h.0 h.1
  passed-shown old new None full unclosed idle shown h = absurd h

  -- the record that was fetched is passed over
  pub steps-passed : (old fetched new : Stage S) → old.closed ≡ false → old.waiting ≡ []
      → fetched ≡ record old { source = fetched.source; held = true } → Fetches comes shows old fetched None
      → PassesShown (shows fetched.source) only fetched true new → StepsOf comes shows only old new (Ok None)
  steps-passed old fetched new unclosed idle same h passes =
      let unclosed_yet : fetched.closed ≡ false = ap (λ (stage : Stage S). stage.closed) same ∙ unclosed in
      let behind = passed-shown fetched new (shows fetched.source) (ap (λ (stage : Stage S). stage.held) same) unclosed_yet
      (ap (λ (stage : Stage S). stage.waiting) same ∙ idle) refl passes in
      let kept = kept_fields (shows fetched.source) passes in
      record {
        over = behind.over;
        may_pass = behind.may_pass;
        steps = (
          (λ changes passed m. keeps_by_reading comes shows old fetched same h (behind.over ++ changes) passed
              (behind.keeps changes passed m)),
          kept.0 ∙ unclosed_yet,
          kept.1 ∙ ap (λ (stage : Stage S). stage.passed) same,
        );
      }
    where
      kept_fields : (shown : Option MrtRecord) → PassesShown shown only fetched true new → (new.closed ≡ fetched.closed)
          × (new.passed ≡ fetched.passed)
      kept_fields (Some r) h = (ap (λ (stage : Stage S). stage.closed) h.1, ap (λ (stage : Stage S). stage.passed) h.1)
      kept_fields None h = absurd h

  -- a step that passes nothing over
  pub steps-plain : (old new : Stage S) (result : Result (Option Word) AllocError) → StepsBehind comes shows [] old new result
      → StepsOf comes shows only old new result
  steps-plain old new result steps = record { over = []; may_pass = may-none only; steps = steps }

  -- at first nothing was passed over
  pub behind-nothing : (stage : Stage S) → IsBehind stage stage
  behind-nothing stage = record { over = []; may_pass = may-none only; keeps = λ changes passed m. m }

  -- more is passed over behind what was
  pub behind-more : (old between new : Stage S) (over : List Change) → IsBehind old between → MayPass only over
      → KeepsBehindAll comes shows over between new → IsBehind old new
  behind-more old between new over is may more = record {
    over = is.over ++ over;
    may_pass = may-more only is.over over is.may_pass may;
    keeps = keeps-more is.over over old between new is.keeps more;
  }

  -- ---- answers

  -- a change that waits is given behind what was passed over
  pub says-given : (old between new : Stage S) (word : Word) → IsBehind old between → between.closed ≡ false
      → GivesWaiting between (Some word) new → SaysOf comes shows only old new (Ok (Some word))
  says-given old between new word is unclosed given =
      says-of comes shows only is.over old new (Ok (Some word)) is.may_pass (
        keeps-more is.over (change_of word ∷ []) old between new is.keeps (keeps-given comes shows between new word unclosed given),
        λ closes. absurd (let no : false ≡ true = sym given.1 ∙ closes in cc),
      )

  -- so is the close
  pub says-closed : (old between new : Stage S) (word : Word) → IsBehind old between
      → StepsOf comes shows only between new (Ok (Some word)) → SaysOf comes shows only old new (Ok (Some word))
  says-closed old between new word is step =
      says-of comes shows only (is.over ++ step.over) old new (Ok (Some word))
      (may-more only is.over step.over is.may_pass step.may_pass) (
        (λ changes passed m. subst (λ (all : List Change). May comes shows old (all ++ changes) passed)
            (sym (append_assoc is.over step.over (change_of word ∷ [])))
            (keeps-more is.over (step.over ++ change_of word ∷ []) old between new is.keeps step.steps.0 changes passed m)),
        λ closes. over-closed comes shows new step.steps.2,
      )

  -- refused memory, what was passed over stays passed over
  pub says-refused : (old new : Stage S) (refused : AllocError) → IsBehind old new → new.passed ≡ old.passed
      → SaysOf comes shows only old new (Err refused)
  says-refused old new refused is same = says-of comes shows only is.over old new (Err refused) is.may_pass (is.keeps, same)

  -- none comes where the session was closed
  pub says-none : (old new : Stage S) → new ≡ old → new.closed ≡ true → SaysOf comes shows only old new (Ok None)
  says-none old new same closed =
      says-of comes shows only [] old new (Ok None) (may-none only)
      (over-closed comes shows old (ap (λ (stage : Stage S). stage.closed) (sym same) ∙ closed), same)
