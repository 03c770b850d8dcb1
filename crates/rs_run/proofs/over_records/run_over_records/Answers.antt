-- What the sessions tell is what the records say that are read.
use Rattle.std.proofs.Common.{◌≡◌, ◌∙◌, ap, sym, ℕ, Bor, List, ◌++◌, length, map}
use Rattle.std.proofs.lemmas.List.{length-map}
use Rattle.rs_keep.specs.Kept.{dumps_of}
use Rattle.rs_mrt.specs.Memory as memory
use Rattle.rs_outlet.specs.Outlet as outlet
use Rattle.rs_outlet.specs.Outlet.{KeptDump}
use Rattle.rs_serve.specs.Served.{ServedContent}
use Rattle.rs_run.proofs.RecordsLemmas.{served-of-records}
use Rattle.rs_run.specs.OverRecords.{served_of_records}
use Rattle.rs_run.specs.Report.{report_of}
use Rattle.rs_run.proofs.over_records.run_over_records.Goals as goal

pub returns-in-Ok : goal.returns-in-Ok
returns-in-Ok g c =
    let errors = c.args.options.now.errors in
    let time = c.args.options.now.time in
    let plan = c.args.setup.now.plan.value in
    let octets : Bor (List ℕ) → List ℕ = λ file. file.now in
    let files : List (List ℕ) = map octets c.args.files.now in
    let as_files : length files ≡ length plan.peers = length-map c.args.files.now octets ∙ c.requires.one_for_each in
    let count : length c.in_ok-sources.sources.items ≡ length files =
    c.in_ok-sources.ensures.as_many ∙ sym (length-map c.args.files.now octets) in
    let over = c.in-Ok.ensures.answer.over in
    let is : over.0 ≡ served_of_records errors c.args.reading plan c.args.whose.now files =
    served-of-records errors c.args.reading plan c.args.whose.now files c.in_ok-sources.sources.items over.1.0 count
    c.in_ok-sources.ensures.read_so over.1.1 c.a_session_closes_once.ensures c.requires.whose as_files over.0 over.1.2 in
    record {
      dumps = over.2.0
          ∙ ap (λ (kept : List KeptDump). kept ++ dumps_of over.0.tables time) (ap (λ (o : outlet.InMemory). o.kept) c.new-dumps.ensures)
          ∙ ap (λ (served : ServedContent). dumps_of served.tables time) is;
      report = c.into_octets.ensures ∙ over.2.1
          ∙ ap (λ (taken : List ℕ). taken ++ report_of plan over.0.ends over.0.tables)
          (ap (λ (w : memory.InMemory). w.taken) c.new-report.ensures)
          ∙ ap (λ (served : ServedContent). report_of plan served.ends served.tables) is;
    }
