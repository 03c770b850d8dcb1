use Rattle.rs_start.proofs.FileLemmas.{writes_table}
use Rattle.rs_start.proofs.table_reader.TableReader.write_sessions.Goals as goal

pub returns-clause-written : goal.returns-clause-written
returns-clause-written g c =
    writes_table g.R.Read.gives g.W.Write.taken c.args.self.now c.read_routes.new.self c.args.sessions.now
    c.read_routes.new.sessions c.finish_all.new.sessions c.in_ok-end.end c.in_ok-end.ensures.adds c.in_ok-finish_all.ensures.ends
