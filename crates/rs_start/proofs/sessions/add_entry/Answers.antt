use Rattle.std.proofs.Common.{arith, sym}
use Rattle.rs_start.specs.TableFile.{TableRow}
use Rattle.rs_start.specs.TableView.{entry_of}
use Rattle.rs_start.proofs.SessionLemmas.{all_one, all_unknown, failed_one}
use Rattle.rs_start.proofs.sessions.add_entry.Goals as goal

pub returns-in-Ok-clause-go : goal.returns-in-Ok-clause-go
returns-in-Ok-clause-go g c =
    let olds = c.args.sessions.now in
    let row : TableRow = record { prefix = c.args.prefix; entry = entry_of c.args.entry } in
    all_one g.W.Write.taken olds c.from-peer.result c.index-sessions-peer.result c.add.new.self row
    (omega (arith, c.if-peer-sessions.false)) (sym c.from-peer.ensures) c.in-Ok.ensures.goes c.in-Ok.ensures.counts

-- a peer that the index doesn't have
pub returns-then-peer-sessions-clause-go : goal.returns-then-peer-sessions-clause-go
returns-then-peer-sessions-clause-go g c =
    let row : TableRow = record { prefix = c.args.prefix; entry = entry_of c.args.entry } in
    all_unknown g.W.Write.taken c.args.sessions.now row (omega (arith, c.if-peer-sessions.true, c.from-peer.ensures))

pub returns-in-Err-Write-clause-failed : goal.returns-in-Err-Write-clause-failed
returns-in-Err-Write-clause-failed g c =
    failed_one g.W.Write.failures c.args.sessions.now c.from-peer.result c.add.new.self (omega (arith, c.if-peer-sessions.false))
    (c.in-Err-Write.ensures.failed c.in-Err-Write.field-0-is)
