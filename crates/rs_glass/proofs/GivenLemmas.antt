-- The changes that a session gives: what was given and what may still come, change by change.
use Rattle.std.proofs.Common.{◌≡◌, subst, ℕ, ◌+◌, ◌≤◌, ◌<◌, Bool, true, false, List, [], ◌++◌, Option, None, Ok, arith}
use Rattle.std.specs.Prelude.{if◌then◌else◌}
use Rattle.std.specs.List.{list_any}
use Rattle.std.proofs.lemmas.List.{append-nil}
use Rattle.rs_mrt.specs.Record.{MrtRecord}
use Rattle.rs_session.specs.Change.{Change, is_close}
use Rattle.rs_session.specs.Laws.{SomethingMayCome}
use Rattle.rs_session.specs.Stage.{Comes, Stage, May, Says}

-- each change that is given leaves fewer to come
pub few-smaller : (before after : ℕ) (old new closes : Bool) → old ≡ false → new ≡ closes → after + (if closes then 0 else 1) ≤ before
    → after + (if new then 0 else 1) < before + (if old then 0 else 1)
few-smaller before after old new true unclosed is fewer = rw (unclosed, is) (omega (arith, fewer))
few-smaller before after old new false unclosed is fewer = rw (unclosed, is) (omega (arith, fewer))

-- ---- change by change

module _ {S : Type 0} (comes : Comes S) (shows : S → Option MrtRecord) (start : Stage S) where
  -- these changes were given, before whatever may come
  pub record IsGiven (given : List Change) (stage : Stage S) : Type 0 where
    pub before : (changes : List Change) (passed : ℕ) → May comes shows stage changes passed
        → May comes shows start (given ++ changes) passed
    pub closed : stage.closed ≡ list_any is_close given

  -- none was
  pub given-none : start.closed ≡ false → IsGiven [] start
  given-none unclosed = record {
    before = λ changes passed m. m;
    closed = unclosed;
  }

  -- where no more may come, those are all
  pub given-all : (given : List Change) (old new : Stage S) → IsGiven given old → Says comes shows old new (Ok None)
      → SomethingMayCome comes shows new → (passed : ℕ) × May comes shows start given passed
  given-all given old new is says may_come =
      let some : SomethingMayCome comes shows old = subst (SomethingMayCome comes shows) says.1 may_come in
      let none : May comes shows old [] some.1 =
      subst (λ (all : List Change). May comes shows old all some.1) (says.0 some.0 some.1 some.2).0 some.2 in
      (some.1, subst (λ (all : List Change). May comes shows start all some.1) (append-nil given) (is.before [] some.1 none))
