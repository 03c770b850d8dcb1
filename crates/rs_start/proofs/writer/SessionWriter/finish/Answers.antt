use Rattle.rs_start.proofs.WritingLemmas.{ends}
use Rattle.rs_start.proofs.writer.SessionWriter.finish.Goals as goal

pub returns-clause-whole : goal.returns-clause-whole
returns-clause-whole g c =
    ends g.W.Write.taken c.args.self.now c.close.new.self c.flush.new.self c.a_session_begins_with_the_routes_of_the_table.ensures
    c.start_fits.ensures c.in_ok-close.ensures.goes c.in_ok-close.ensures.start c.in_ok-close.ensures.held c.in_ok-flush.ensures.flushed
