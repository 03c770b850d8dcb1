-- The files that were read say what the octets say.
use Rattle.std.proofs.Common.{◌≡◌, ◌∙◌, ap, map}
use Rattle.rs_mrt.specs.Memory as memory
use Rattle.rs_outlet.specs.Outlet as outlet
use Rattle.rs_serve.specs.AtHand.{whole_of}
use Rattle.rs_run.proofs.OctetLemmas.{octets-dumped, octets-reported}
use Rattle.rs_run.proofs.over_octets.run_over_octets.Goals as goal

pub returns-in-Ok : goal.returns-in-Ok
returns-in-Ok g c =
    let errors = c.args.options.now.errors in
    let plan = c.args.setup.now.plan.value in
    let readers = c.in_ok-readers.readers.items in
    let are : readers ≡ map (λ file. whole_of file.now) c.args.files.now = c.in_ok-readers.ensures.files in
    let read = c.in-Ok.ensures.answer.over in
    record {
      dumps = octets-dumped errors plan c.args.files.now readers are read.0 read.1 c.args.options.now.time
          c.new-dumps.result.kept c.run.new.outlet.kept (ap (λ (o : outlet.InMemory). o.kept) c.new-dumps.ensures) read.2.0;
      report = c.into_octets.ensures ∙ octets-reported errors plan c.args.files.now readers are read.0 read.1
          c.new-report.result.taken c.run.new.report.taken (ap (λ (w : memory.InMemory). w.taken) c.new-report.ensures) read.2.1;
    }
