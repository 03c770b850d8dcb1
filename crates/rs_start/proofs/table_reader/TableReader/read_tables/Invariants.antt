use Rattle.rs_start.proofs.FileLemmas.{TellsTables}
use Rattle.rs_start.proofs.table_reader.TableReader.read_tables.Given as goal

-- the records so far begin tables at these times
abbrev pub invariant-loop-record : goal.invariant-loop-record
invariant-loop-record g l = TellsTables (g.R.Read.gives l.fn.self.reader) (g.R.Read.gives l.self.reader) l.times.items
