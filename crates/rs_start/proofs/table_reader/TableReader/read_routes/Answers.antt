use Rattle.std.proofs.Common.{sym, subst}
use Rattle.rs_start.specs.Sessions.{Adds, AddsNext}
use Rattle.rs_start.proofs.FileLemmas.{adds_nothing, adds_then}
use Rattle.rs_start.proofs.table_reader.TableReader.read_routes.Goals as goal

pub loop-record-init : goal.loop-record-init
loop-record-init g c = adds_nothing g.R.Read.gives g.W.Write.taken c.args.self.now c.args.sessions.now

pub loop-record-preserved : goal.loop-record-preserved
loop-record-preserved g c =
    adds_then g.R.Read.gives g.W.Write.taken c.args.self.now c.loop-record.self c.add_next.new.self c.args.sessions.now
    c.loop-record.sessions c.add_next.new.sessions c.loop-record.invariant
    (subst (λ end. AddsNext g.R.Read.gives g.W.Write.taken c.loop-record.self c.add_next.new.self c.loop-record.sessions
    c.add_next.new.sessions end) c.in_default.is c.in_ok-end.ensures.adds)

pub returns-in-Some-clause-adds : goal.returns-in-Some-clause-adds
returns-in-Some-clause-adds g c =
    let ends = subst (λ end. AddsNext g.R.Read.gives g.W.Write.taken c.loop-record.self c.add_next.new.self c.loop-record.sessions
    c.add_next.new.sessions end) c.in-Some.is c.in_ok-end.ensures.adds in
    record {
      now = c.loop-record.self;
      adds = subst (λ news. Adds g.R.Read.gives g.W.Write.taken c.args.self.now c.loop-record.self c.args.sessions.now news) (sym ends.1)
          c.loop-record.invariant;
      after = ends.0.0;
      ends = ends.0.1;
    }
