-- What was sent when the close is.
use Rattle.std.proofs.Common.{◌≡◌, ◌∙◌, ap, refl, arith, ℕ, ◌+◌, ◌≤◌, Bool, false, ◌||◌, List, [], ◌∷◌, ◌++◌, length, map}
use Rattle.std.proofs.Common.{Option, None, Some, append_assoc, length-append}
use Rattle.std.proofs.lemmas.List.{map-append}
use Rattle.std.proofs.lemmas.List.Folds.{list_any-append}
use Rattle.rs_mrt.specs.Record.{MrtRecord}
use Rattle.rs_session.specs.Change.{Change, change_of, closing_word, is_close}
use Rattle.rs_session.specs.Stage.{Comes, Stage, May}
use Rattle.rs_change.specs.declared.word.Body.{Body}
use Rattle.rs_change.specs.declared.word.Body.TheVariants.{Close}
use Rattle.rs_change.specs.declared.word.Reason.{Reason}
use Rattle.rs_change.specs.declared.word.Word.{Word}
use Rattle.rs_worker.specs.Steps.{reason_of, Ends, GoesOn}
use Rattle.rs_worker.specs.Worked.{HasSent, closes_any}

body_closes : (body : Body) (reason : Reason) → reason_of body ≡ Some reason → body ≡ Close reason
body_closes (Close other) reason e = cc
body_closes body reason e = absurd cc

word_closes : (word : Word) (reason : Reason) → reason_of word.body ≡ Some reason → word ≡ closing_word word.time reason
word_closes word reason e = ap (λ (body : Body). record { time = word.time; body = body }) (body_closes word.body reason e)

stays_open : (time : ℕ) (body : Body) → reason_of body ≡ None → is_close (change_of (record { time = time; body = body })) ≡ false
stays_open time (Close reason) e = absurd cc
stays_open time body e = refl

-- a change that doesn't close leaves the list open
pub none-closes : (before : List Word) (word : Word) → closes_any before ≡ false → reason_of word.body ≡ None
    → closes_any (before ++ word ∷ []) ≡ false
none-closes before word open_yet none =
    list_any-append (λ (one : Word). is_close (change_of one)) before (word ∷ [])
    ∙ ap (λ (b : Bool). b || (is_close (change_of word) || false)) open_yet
    ∙ ap (λ (b : Bool). b || false) (stays_open word.time word.body none)

-- one change more was sent, and there is still room for those that may come
pub room-for-more : (before : List Word) (word : Word) (old new most : ℕ) → length before + old ≤ most → new + 1 ≤ old
    → length (before ++ word ∷ []) + new ≤ most
room-for-more before word old new most fits fewer = omega (arith, length-append before (word ∷ []))

module _ {S : Type 0} (comes : Comes S) (shows : S → Option MrtRecord) where
  -- the last change follows what was sent before
  pub sent-closes : (first old new : Stage S) (before : List Word) (word : Word) (reason : Reason)
      → ((changes : List Change) (passed : ℕ) → May comes shows old changes passed
      → May comes shows first (map change_of before ++ changes) passed) → closes_any before ≡ false → reason_of word.body ≡ Some reason
      → Ends comes shows old new word reason → HasSent (May comes shows first) (before ++ word ∷ []) reason new.passed
  sent-closes first old new before word reason begun open_yet closing ends = record {
    before = before;
    time = word.time;
    splits = ap (λ (last : Word). before ++ last ∷ []) (word_closes word reason closing);
    unclosed = open_yet;
    whole = λ other. rw (map-append change_of before (word ∷ [])) (begun (change_of word ∷ []) new.passed (ends.last other));
    cut_short = λ memory.
        let refused = ends.refused memory in record {
          given = map change_of before;
          rest = refused.1.rest;
          total = refused.1.total;
          may_come = begun refused.1.rest refused.1.total refused.1.may_come;
          unfinished = refused.1.some_rest;
          splits = map-append change_of before (word ∷ []) ∙ ap (λ (last : Word). map change_of before ++ change_of last ∷ []) refused.0;
          passed_within = refused.1.passed_within;
        };
  }

  -- what was sent before and the change more stand in front of what may still come
  pub sent-more : (room : S → ℕ) (first old new : Stage S) (before : List Word) (word : Word)
      → ((changes : List Change) (passed : ℕ) → May comes shows old changes passed
      → May comes shows first (map change_of before ++ changes) passed) → GoesOn comes shows room old new word
      → (changes : List Change) (passed : ℕ) → May comes shows new changes passed
      → May comes shows first (map change_of (before ++ word ∷ []) ++ changes) passed
  sent-more room first old new before word begun on changes passed may =
      rw (map-append change_of before (word ∷ []), append_assoc (map change_of before) (change_of word ∷ []) changes)
      (begun (change_of word ∷ changes) passed (on.keeps changes passed may))
