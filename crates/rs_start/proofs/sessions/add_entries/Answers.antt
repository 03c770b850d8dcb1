use Rattle.std.proofs.Common.{sym}
use Rattle.rs_start.specs.TableView.{entry_of}
use Rattle.rs_start.proofs.SessionLemmas.{entries_more, entries_none}
use Rattle.rs_start.proofs.sessions.add_entries.Goals as goal

pub loop-place-init : goal.loop-place-init
loop-place-init g c = entries_none g.W.Write.taken c.args.rib.now.prefix c.args.rib.now.entries.now c.args.sessions.now

pub loop-place-preserved : goal.loop-place-preserved
loop-place-preserved g c =
    entries_more g.W.Write.taken c.args.rib.now.prefix c.loop-place._place c.args.rib.now.entries.now c.loop-place.rest.now
    c.in-Some.behind.now (entry_of c.in-Some.entry) c.args.sessions.now c.loop-place.sessions c.add_entry.new.sessions
    c.loop-place.invariant (sym c.in-Some.ensures.value) c.in_ok-add_entry.ensures.go
