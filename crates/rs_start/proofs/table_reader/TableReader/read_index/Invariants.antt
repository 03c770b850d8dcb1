use Rattle.std.proofs.Common.{◌≤◌}
use Rattle.rs_start.proofs.FileLemmas.{PassesOver}
use Rattle.rs_start.proofs.table_reader.TableReader.read_index.Given as goal

-- so many tables were passed over
abbrev pub invariant-loop-record : goal.invariant-loop-record
invariant-loop-record g l =
    (l.earlier ≤ l.place) × PassesOver (g.R.Read.gives l.fn.self.reader) (g.R.Read.gives l.self.reader) l.place l.earlier
