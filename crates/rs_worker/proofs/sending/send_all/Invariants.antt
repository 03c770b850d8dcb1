-- What was sent stands in front of whatever may still come, and closes nothing.
use Rattle.std.proofs.Common.{◌≡◌, ℕ, ◌+◌, ◌≤◌, ◌^◌, false, List, ◌++◌, length, map}
use Rattle.rs_session.specs.Change.{Change, change_of}
use Rattle.rs_session.specs.Stage.{May, most_changes}
use Rattle.rs_worker.specs.Worked.{closes_any}
use Rattle.rs_worker.proofs.sending.send_all.Given as goal

abbrev pub invariant-loop : goal.invariant-loop
invariant-loop g l = record {
  begun : (changes : List Change) (passed : ℕ) → May g.S.Source.comes g.S.Source.shows l.session changes passed
      → May g.S.Source.comes g.S.Source.shows l.initial.session (map change_of l.out.sent ++ changes) passed;
  unclosed : l.session.closed ≡ false;
  none_closes : closes_any l.out.sent ≡ false;
  fits : length l.out.sent + most_changes g.S.Source.room g.S.Source.shows l.session ≤ 2 ^ 50;
  ring : l.out.ring ≡ l.initial.out.ring;
}
