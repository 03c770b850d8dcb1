-- A writer is out for the client's file.
use Rattle.std.proofs.Common.{◌≡◌, ◌∙◌, ◌<◌, ap, arith, get_or, inl, length, refl, rules, sym}
use Rattle.rs_dump.specs.TableDump.{ToWrite}
use Rattle.rs_keep.specs.Written.{file_name}
use Rattle.rs_keep.proofs.StartedLemmas.{goes-from}
use Rattle.rs_keep.proofs.WrittenLemmas.{files-count}
use Rattle.rs_keep.proofs.dumps.begin.Goals as goal

pub returns-in-Ok-start-clause-started : goal.returns-in-Ok-start-clause-started
returns-in-Ok-start-clause-started g c =
    let O = g.O.Outlet in
    let files = c.args.dumping.now.files.now in
    let client = c.args.client in
    let file = c.index-dumping-client.result in
    let below : client < length files =
    omega (arith, c.requires.client_known, files-count c.args.dumping.now.tables.now.plan files c.requires.files) in
    let is : file ≡ get_or files client file = search rules in
    goes-from g.O.Out.Write.label files client file c.as_str.result.now (O.started c.args.outlet.now) (O.started c.start.new.self)
    _ below is (c.as_str.ensures.value ∙ ap file_name (sym is))
    c.in-Ok-start.ensures.ok_started c.in-Ok-start.ensures.named

pub returns-in-Ok-start-clause-begun : goal.returns-in-Ok-start-clause-begun
returns-in-Ok-start-clause-begun g c =
    record {
      not_failed = refl;
      octets = ap (λ (dump : ToWrite). dump.octets) c.in-Ok.ensures.begun;
      rows = omega (
        arith,
        ap (λ (dump : ToWrite). dump.spelled) c.in-Ok.ensures.begun,
        ap (λ (dump : ToWrite). dump.rows) c.in-Ok.ensures.begun,
      );
      no_failure = c.in-Ok-start.ensures.fresh;
      nothing_taken = c.in-Ok-start.ensures.nothing_taken;
    }

pub returns-clause-fault : goal.returns-clause-fault
returns-clause-fault g c = (refl, inl (omega (arith, c.in-Err.ensures.err_failures)))
