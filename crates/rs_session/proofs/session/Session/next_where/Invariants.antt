-- Behind what was passed over, whatever may come now might come at the beginning, and no read has failed since.
use Rattle.std.proofs.Common.{◌≡◌, ◌+◌, ◌≤◌, true, Bool, Some, Result}
use Rattle.rs_mrt.specs.declared.fault.SourceFault.{SourceFault}
use Rattle.rs_session.specs.Counts.{held_count}
use Rattle.rs_session.specs.Stage.{most_changes}
use Rattle.rs_session.proofs.PassingLemmas.{IsBehind}
use Rattle.rs_session.proofs.session.Session.next_where.Given as goal

abbrev pub invariant-loop-self : goal.invariant-loop-self
invariant-loop-self g l = record {
  behind : IsBehind g.S.Source.comes g.S.Source.shows l.only l.initial.self l.self;
  passed : l.self.passed ≡ l.initial.self.passed;
  failures : g.S.Source.failures l.self.source ≡ g.S.Source.failures l.initial.self.source;
  goes_on : (last : Result Bool SourceFault) → g.S.Source.stopped l.self.source ≡ Some last
      → g.S.Source.stopped l.initial.self.source ≡ Some last;
  unread : l.self.closed ≡ true → l.self ≡ l.initial.self;
  closed : l.self.closed ≡ l.initial.self.closed;
  fewer : most_changes g.S.Source.room g.S.Source.shows l.self ≤ most_changes g.S.Source.room g.S.Source.shows l.initial.self;
}

abbrev pub decreases-loop-self : goal.decreases-loop-self
decreases-loop-self g l = g.S.Source.room l.self.source + held_count l.self.held
