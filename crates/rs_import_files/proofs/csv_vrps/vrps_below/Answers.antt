use Rattle.std.proofs.Common.{◌++◌, [], ◌∷◌}
use Rattle.csv.specs.Records.{fields_of}
use Rattle.rs_import_files.specs.Csv.{IsVrpRecord, is_counted}
use Rattle.rs_import_files.proofs.CsvLemmas.{no_vrps}
use Rattle.rs_import_files.proofs.ErrLemmas.{err_any, passed_on}
use Rattle.rs_import_files.proofs.LineLemmas.{kept_more, passed_more}
use Rattle.rs_import_files.proofs.csv_vrps.vrps_below.Goals as goal
use Rattle.rs_import_files.proofs.csv_vrps.vrps_below.Goals.{in-Some+in_ok-push, in_default}

pub returns-then-not-branch-clause-found : goal.returns-then-not-branch-clause-found
returns-then-not-branch-clause-found c = λ text titles begins.
    let (rows, read, are) = c.loop-turn.invariant text titles begins in
    (rows, rw c.if-not-branch.true at (c.in_ok-next_row.ensures.found text (titles ∷ rows) read), are)

pub loop-turn-preserved : goal.loop-turn-preserved
loop-turn-preserved c = λ text titles begins.
    let (rows, read, are) = c.loop-turn.invariant text titles begins in
    let fields = fields_of c.next_row.new.row in
    let more = rw c.if-not-branch.false at (c.in_ok-next_row.ensures.found text (titles ∷ rows) read) in
    elim c.match-branch-3.branch [
      | in-Some+in_ok-push w ↦
          let vrp = rw w.in-Some.is at c.in_ok-vrp.ensures.found in (
            rows ++ fields ∷ [],
            more,
            rw (w.vrps-is, w.in_ok-push.ensures.items)
                (kept_more is_counted IsVrpRecord rows fields c.loop-turn.vrps.items w.in-Some.vrp vrp.0 are vrp.1),
          )
      | in_default w ↦ (
        rows ++ fields ∷ [],
        more,
        rw w.vrps-is (passed_more is_counted IsVrpRecord rows fields c.loop-turn.vrps.items (rw w.in_default.is at c.in_ok-vrp.ensures.found) are),
      )
    ]

pub returns-in_err-next_row-clause-refused : goal.returns-in_err-next_row-clause-refused
returns-in_err-next_row-clause-refused c =
    passed_on _ c.in_err-next_row.field-0.0 c.from_residual.result c.from_residual.ensures.1 (λ text titles begins of_file vrps are.
    let (rows, read, counted) = c.loop-turn.invariant text titles begins in
    c.in_err-next_row.ensures.refused text (titles ∷ rows) read of_file (titles ∷ are.0) are.1)

pub returns-in_err-vrp-clause-refused : goal.returns-in_err-vrp-clause-refused
returns-in_err-vrp-clause-refused c =
    err_any c.from_residual-in_err-vrp.result (λ fault text titles begins of_file.
    let (rows, read, counted) = c.loop-turn.invariant text titles begins in
    let more = rw c.if-not-branch.false at (c.in_ok-next_row.ensures.found text (titles ∷ rows) read) in
    no_vrps text titles rows (fields_of c.next_row.new.row) c.next_row.new.reader more c.in_err-vrp.ensures.none.0 c.in_err-vrp.ensures.none.1)
