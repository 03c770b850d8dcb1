-- A writer is out for the client's file.
use Rattle.std.proofs.Common.{◌≡◌, ◌∙◌, ◌<◌, ap, arith, get_or, length, refl, rules, sym}
use Rattle.rs_dump.specs.TableDump.{ToWrite}
use Rattle.rs_keep.specs.Written.{file_name}
use Rattle.rs_keep.proofs.StartedLemmas.{goes-from}
use Rattle.rs_keep.proofs.WrittenLemmas.{files-count}
use Rattle.rs_keep.proofs.dumps.begin_ahead.Goals as goal

pub returns-clause-started : goal.returns-clause-started
returns-clause-started g c =
    let O = g.O.Outlet in
    let files = c.args.dumping.now.files.now in
    let client = c.args.client in
    let file = c.index-dumping-client.result in
    let below : client < length files =
    omega (arith, c.requires.client_known, files-count c.args.dumping.now.tables.now.plan files c.requires.files) in
    let is : file ≡ get_or files client file = search rules in
    goes-from g.O.Out.Write.label files client file c.as_str.result.now (O.started c.args.outlet.now) (O.started c.start_ahead.new.self)
    _ below is (c.as_str.ensures.value ∙ ap file_name (sym is))
    c.in_ok-out.ensures.started c.in_ok-out.ensures.named

pub returns-clause-begun : goal.returns-clause-begun
returns-clause-begun g c =
    record {
      not_failed = refl;
      octets = ap (λ (dump : ToWrite). dump.octets) c.in-Ok.ensures.begun;
      rows = omega (
        arith,
        ap (λ (dump : ToWrite). dump.spelled) c.in-Ok.ensures.begun,
        ap (λ (dump : ToWrite). dump.rows) c.in-Ok.ensures.begun,
      );
      no_failure = c.in_ok-out.ensures.fresh;
      nothing_taken = c.in_ok-out.ensures.nothing_taken;
    }
