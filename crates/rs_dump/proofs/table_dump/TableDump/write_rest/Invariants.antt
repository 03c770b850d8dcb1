use Rattle.std.proofs.Common.{◌≡◌, ◌+◌, IsFalse, if◌then◌else◌}
use Rattle.rs_dump.specs.UnderWay.{IsUnderWay}
use Rattle.rs_dump.proofs.table_dump.TableDump.write_rest.Given as goal

-- what is out and what is left are the dump, and where no turn is left no row is
abbrev pub invariant-loop-some : goal.invariant-loop-some
invariant-loop-some g l =
    let W = g.W.Write in
    record {
      under_way : IsUnderWay (W.taken l.fn.out) (W.taken l.out) l.self.octets l.fn.self.octets;
      failures : W.failures l.out ≡ W.failures l.fn.out;
      label : W.label l.out ≡ W.label l.fn.out;
      rows : l.self.spelled + l.self.rows ≡ l.fn.self.spelled + l.fn.self.rows;
      none : IsFalse l.some → l.self.rows ≡ 0;
    }

-- each turn takes rows, or is the last
abbrev pub decreases-loop-some : goal.decreases-loop-some
decreases-loop-some g l = l.self.rows + (if l.some then 1 else 0)
