-- A record that comes is the first of those that may be read; where none comes, none may.
use Rattle.std.proofs.Common.{Some, None, refl, ap, arith, rules}
use Rattle.rs_session.proofs.StageLemmas.{may_read-fetched, may_read-none, held_le}
use Rattle.rs_mrt.specs.declared.fault.SourceFault.TheVariants as faults
use Rattle.rs_change.specs.declared.word.Reason.TheVariants.{Mrt}
use Rattle.rs_session.proofs.session.Session.fetch.Goals as goal

pub returns-in-Ok-true-clause-says : goal.returns-in-Ok-true-clause-says
returns-in-Ok-true-clause-says g c =
    rw (← c.self.view_is) (may_read-fetched _ _ _ _ c.if-self.false refl
    (rw (c.in-Ok-true.is, c.in-Ok-true.field-0-test) at c.advance.ensures.records))

pub returns-in-Ok-false-clause-says : goal.returns-in-Ok-false-clause-says
returns-in-Ok-false-clause-says g c =
    let says = rw (c.in-Ok-false.is, c.in-Ok-false.field-0-test) at c.advance.ensures.records in
    rw (← c.self.view_is) (None, may_read-none _ _ _ _ c.if-self.false says.1, refl)

pub returns-in-Err-Mrt-clause-says : goal.returns-in-Err-Mrt-clause-says
returns-in-Err-Mrt-clause-says g c =
    let says = rw (c.in-Err-Mrt.is, c.in-Err-Mrt.field-0-is) at c.advance.ensures.records in
    rw (← c.self.view_is) (Some (faults.Mrt c.in-Err-Mrt.fault), may_read-none _ _ _ _ c.if-self.false says.1, ap Mrt c.number.ensures)

pub returns-in-Err-Read-clause-says : goal.returns-in-Err-Read-clause-says
returns-in-Err-Read-clause-says g c =
    let says = rw (c.in-Err-Read.is, c.in-Err-Read.field-0-is) at c.advance.ensures.records in
    rw (← c.self.view_is) (Some faults.Read, may_read-none _ _ _ _ c.if-self.false says.1, refl)

pub returns-in-Ok-true-clause-fewer : goal.returns-in-Ok-true-clause-fewer
returns-in-Ok-true-clause-fewer g c = rw (← c.self.view_is) (omega (arith, c.advance.ensures.room, held_le))

pub invariant_of-self : goal.invariant_of-self
invariant_of-self g c = search rules

pub invariant_of-self-in-Err-Mrt : goal.invariant_of-self-in-Err-Mrt
invariant_of-self-in-Err-Mrt g c = search rules

pub invariant_of-self-in-Err-Read : goal.invariant_of-self-in-Err-Read
invariant_of-self-in-Err-Read g c = search rules

pub invariant_of-self-in-Ok-false : goal.invariant_of-self-in-Ok-false
invariant_of-self-in-Ok-false g c = search rules

pub returns-in-Err-Mrt-clause-failures : goal.returns-in-Err-Mrt-clause-failures
returns-in-Err-Mrt-clause-failures g c = search rules

pub returns-in-Err-Mrt-clause-fewer : goal.returns-in-Err-Mrt-clause-fewer
returns-in-Err-Mrt-clause-fewer g c = search rules

pub returns-in-Err-Mrt-clause-goes_on : goal.returns-in-Err-Mrt-clause-goes_on
returns-in-Err-Mrt-clause-goes_on g c = search rules

pub returns-in-Err-Mrt-clause-room : goal.returns-in-Err-Mrt-clause-room
returns-in-Err-Mrt-clause-room g c = search rules

pub returns-in-Err-Mrt-clause-same : goal.returns-in-Err-Mrt-clause-same
returns-in-Err-Mrt-clause-same g c = search rules

pub returns-in-Err-Read-clause-failures : goal.returns-in-Err-Read-clause-failures
returns-in-Err-Read-clause-failures g c = search rules

pub returns-in-Err-Read-clause-fewer : goal.returns-in-Err-Read-clause-fewer
returns-in-Err-Read-clause-fewer g c = search rules

pub returns-in-Err-Read-clause-goes_on : goal.returns-in-Err-Read-clause-goes_on
returns-in-Err-Read-clause-goes_on g c = search rules

pub returns-in-Err-Read-clause-room : goal.returns-in-Err-Read-clause-room
returns-in-Err-Read-clause-room g c = search rules

pub returns-in-Err-Read-clause-same : goal.returns-in-Err-Read-clause-same
returns-in-Err-Read-clause-same g c = search rules

pub returns-in-Ok-false-clause-failures : goal.returns-in-Ok-false-clause-failures
returns-in-Ok-false-clause-failures g c = search rules

pub returns-in-Ok-false-clause-fewer : goal.returns-in-Ok-false-clause-fewer
returns-in-Ok-false-clause-fewer g c = search rules

pub returns-in-Ok-false-clause-goes_on : goal.returns-in-Ok-false-clause-goes_on
returns-in-Ok-false-clause-goes_on g c = search rules

pub returns-in-Ok-false-clause-room : goal.returns-in-Ok-false-clause-room
returns-in-Ok-false-clause-room g c = search rules

pub returns-in-Ok-false-clause-same : goal.returns-in-Ok-false-clause-same
returns-in-Ok-false-clause-same g c = search rules

pub returns-in-Ok-true-clause-failures : goal.returns-in-Ok-true-clause-failures
returns-in-Ok-true-clause-failures g c = search rules

pub returns-in-Ok-true-clause-goes_on : goal.returns-in-Ok-true-clause-goes_on
returns-in-Ok-true-clause-goes_on g c = search rules

pub returns-in-Ok-true-clause-room : goal.returns-in-Ok-true-clause-room
returns-in-Ok-true-clause-room g c = search rules

pub returns-in-Ok-true-clause-same : goal.returns-in-Ok-true-clause-same
returns-in-Ok-true-clause-same g c = search rules

pub returns-then-self-clause-failures : goal.returns-then-self-clause-failures
returns-then-self-clause-failures g c = search rules

pub returns-then-self-clause-fewer : goal.returns-then-self-clause-fewer
returns-then-self-clause-fewer g c = search rules

pub returns-then-self-clause-goes_on : goal.returns-then-self-clause-goes_on
returns-then-self-clause-goes_on g c = search rules

pub returns-then-self-clause-room : goal.returns-then-self-clause-room
returns-then-self-clause-room g c = search rules

pub returns-then-self-clause-same : goal.returns-then-self-clause-same
returns-then-self-clause-same g c = search rules

pub returns-then-self-clause-says : goal.returns-then-self-clause-says
returns-then-self-clause-says g c = search rules
