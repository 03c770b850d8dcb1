use Rattle.rs_start.specs.Sessions.{Adds}
use Rattle.rs_start.proofs.table_reader.TableReader.read_routes.Given as goal

-- the rows of the records so far were added
abbrev pub invariant-loop-record : goal.invariant-loop-record
invariant-loop-record g l = Adds g.R.Read.gives g.W.Write.taken l.fn.self l.self l.fn.sessions l.sessions
