use Rattle.std.proofs.Common.{◌∙◌, arith, rules}
use Rattle.std.proofs.lemmas.Grind.{common_steps}
use Rattle.rs_mrt.proofs.stream.StreamLemmas.{Written-more, Written-stopped, Keeps-from_nothing, took_some}
use Rattle.rs_mrt.proofs.stream.write_all.Goals as goal

pub returns-in-Ok-eq0-clause-err : goal.returns-in-Ok-eq0-clause-err
returns-in-Ok-eq0-clause-err g c =
    let W = g.W.Write in
    let taken = rw c.in-Ok-eq0.field-0-test at c.in-Ok-eq0.ensures.taken in
    Written-stopped (W.taken c.args.out.now) (W.taken c.loop-rest.out) (W.taken c.write.new.self)
    c.args.piece.now c.loop-rest.rest.now c.loop-rest.invariant.written
    (Keeps-from_nothing (W.taken c.loop-rest.out) (W.taken c.write.new.self) taken)

pub loop-rest-preserved : goal.loop-rest-preserved
loop-rest-preserved g c =
    let W = g.W.Write in
    let failures = c.in-Ok.ensures.failures in
    let none = took_some c.in-Ok.count c.loop-rest.rest.now c.in-Ok.count-test.1 in
    record {
      written = Written-more (W.taken c.args.out.now) (W.taken c.loop-rest.out) (W.taken c.write.new.self)
          c.args.piece.now c.loop-rest.rest.now c.in-Ok.count c.loop-rest.invariant.written c.in-Ok.ensures.taken;
      failures = omega (arith, failures, none, c.loop-rest.invariant.failures);
      label = c.in-Ok.ensures.label ∙ c.loop-rest.invariant.label;
    }

pub returns-in-Err-clause-err : goal.returns-in-Err-clause-err
returns-in-Err-clause-err g c =
    let W = g.W.Write in
    Written-stopped (W.taken c.args.out.now) (W.taken c.loop-rest.out) (W.taken c.write.new.self)
    c.args.piece.now c.loop-rest.rest.now c.loop-rest.invariant.written c.in-Err.ensures.taken

pub returns-in-Ok-eq0-clause-ok : goal.returns-in-Ok-eq0-clause-ok
returns-in-Ok-eq0-clause-ok g c = search

pub returns-in-Ok-eq0-clause-ok_failures : goal.returns-in-Ok-eq0-clause-ok_failures
returns-in-Ok-eq0-clause-ok_failures g c = search

pub loop-rest-init : goal.loop-rest-init
loop-rest-init g c = search rules

pub loop-rest-smaller : goal.loop-rest-smaller
loop-rest-smaller g c = search rules

pub returns-clause-err : goal.returns-clause-err
returns-clause-err g c = search rules

pub returns-clause-err_failures : goal.returns-clause-err_failures
returns-clause-err_failures g c = search rules

pub returns-clause-ok : goal.returns-clause-ok
returns-clause-ok g c = grind (arith, common_steps)

pub returns-clause-ok_failures : goal.returns-clause-ok_failures
returns-clause-ok_failures g c = search rules

pub returns-in-Err-clause-err_failures : goal.returns-in-Err-clause-err_failures
returns-in-Err-clause-err_failures g c = search rules

pub returns-in-Err-clause-ok : goal.returns-in-Err-clause-ok
returns-in-Err-clause-ok g c = search rules

pub returns-in-Err-clause-ok_failures : goal.returns-in-Err-clause-ok_failures
returns-in-Err-clause-ok_failures g c = search rules

pub returns-in-Ok-eq0-clause-err_failures : goal.returns-in-Ok-eq0-clause-err_failures
returns-in-Ok-eq0-clause-err_failures g c = search rules
