use Rattle.std.specs.Option.{option_map}
use Rattle.std.proofs.lemmas.Result.{err_from_is_err_and}
use Rattle.rs_mrt.specs.Record.{record_of}
use Rattle.rs_mrt.proofs.record.RecordLemmas.{taken_some, taken_none, taken_fault}
use Rattle.rs_mrt.proofs.record.Records.next.Goals as goal

pub returns-in_err-record-clause-answer : goal.returns-in_err-record-clause-answer
returns-in_err-record-clause-answer c =
    let p = err_from_is_err_and c.from_residual.result c.from_residual.ensures.1 in
    rw (p.1, p.2, ← c.self.view_is) (taken_fault c.self.inside.left.now (option_map record_of c.self.inside.shown)
    c.in_err-record.field-0.0 c.in_err-record.ensures.value).0

pub returns-in_err-record-clause-left : goal.returns-in_err-record-clause-left
returns-in_err-record-clause-left c =
    rw (← c.self.view_is) (taken_fault c.self.inside.left.now (option_map record_of c.self.inside.shown)
    c.in_err-record.field-0.0 c.in_err-record.ensures.value).1

pub returns-in_default-clause-answer : goal.returns-in_default-clause-answer
returns-in_default-clause-answer c =
    let e = rw c.in_default.is at c.in_ok-record.ensures.value in
    rw (← c.self.view_is) (taken_none c.self.inside.left.now (option_map record_of c.self.inside.shown) e).0

pub returns-in_default-clause-left : goal.returns-in_default-clause-left
returns-in_default-clause-left c =
    let e = rw c.in_default.is at c.in_ok-record.ensures.value in
    rw (← c.self.view_is) (taken_none c.self.inside.left.now (option_map record_of c.self.inside.shown) e).1

pub returns-clause-answer : goal.returns-clause-answer
returns-clause-answer c =
    let e = rw c.in-Some.is at c.in_ok-record.ensures.value in
    rw (← c.self.view_is) (taken_some c.self.inside.left.now (option_map record_of c.self.inside.shown) (record_of c.in-Some.record)
    c.in-Some.left.now e).0

pub returns-clause-left : goal.returns-clause-left
returns-clause-left c =
    let e = rw c.in-Some.is at c.in_ok-record.ensures.value in
    rw (← c.self.view_is) (taken_some c.self.inside.left.now (option_map record_of c.self.inside.shown) (record_of c.in-Some.record)
    c.in-Some.left.now e).1
