use Rattle.std.proofs.Common.{[], ◌∷◌, inl, inr}
use Rattle.std.proofs.lemmas.Result.{IfErr-weaker, IfOk-weaker}
use Rattle.csv.specs.Records.{fields_of}
use Rattle.rs_import_files.proofs.CsvLemmas.{untitled}
use Rattle.rs_import_files.proofs.ErrLemmas.{err_any, passed_on}
use Rattle.rs_import_files.proofs.csv_vrps.vrps_of.Goals as goal

pub returns-then-not-branch-clause-found : goal.returns-then-not-branch-clause-found
returns-then-not-branch-clause-found c = λ text begins.
    inl (rw c.if-not-branch.true at (c.in_ok-next_row.ensures.found text [] begins), c.new.ensures.items)

pub returns-clause-found : goal.returns-clause-found
returns-clause-found c =
    IfOk-weaker c.vrps_below.result _ _ (λ vrps below. λ text begins.
    let titles = fields_of c.next_row.new.row in
    inr (
      titles,
      c.in_ok-need_titles.ensures.found,
      below text titles (rw c.if-not-branch.false at (c.in_ok-next_row.ensures.found text [] begins)),
    )) c.vrps_below.ensures.found

pub returns-clause-refused : goal.returns-clause-refused
returns-clause-refused c =
    IfErr-weaker c.vrps_below.result _ _ (λ fault below. λ text begins of_file.
    let titles = fields_of c.next_row.new.row in
    let read = rw c.if-not-branch.false at (c.in_ok-next_row.ensures.found text [] begins) in
    untitled text titles c.next_row.new.reader read (λ vrps named. below text titles read of_file vrps)) c.vrps_below.ensures.refused

pub returns-in_err-next_row-clause-refused : goal.returns-in_err-next_row-clause-refused
returns-in_err-next_row-clause-refused c =
    passed_on _ c.in_err-next_row.field-0.0 c.from_residual.result c.from_residual.ensures.1 (λ text begins of_file vrps is.
    elim is [
      | inl none ↦ c.in_err-next_row.ensures.refused text [] begins of_file [] none.0
      | inr some ↦ c.in_err-next_row.ensures.refused text [] begins of_file (some.0 ∷ some.2.0) some.2.1
    ])

pub returns-in_err-need_titles-clause-refused : goal.returns-in_err-need_titles-clause-refused
returns-in_err-need_titles-clause-refused c =
    err_any c.from_residual-in_err-need_titles.result (λ fault text begins of_file.
    let read = rw c.if-not-branch.false at (c.in_ok-next_row.ensures.found text [] begins) in
    untitled text (fields_of c.next_row.new.row) c.next_row.new.reader read (λ vrps named below. c.in_err-need_titles.ensures.none named))
