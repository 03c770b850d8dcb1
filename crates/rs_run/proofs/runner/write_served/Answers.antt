-- The dumps of what is served are kept, and its report is written.
use Rattle.std.proofs.Common.{List, ℕ, string_bytes, refl, subst}
use Rattle.rs_mrt.specs.Stream.{AppendsBeginning}
use Rattle.rs_run.proofs.RunLemmas.{done-answers, keep-stop-answers, report-failed-answers}
use Rattle.std.specs.Io.KnownBytes.{Appends}
use Rattle.rs_run.proofs.runner.write_served.Goals as goal

pub returns-in_err-text-clause-answer : goal.returns-in_err-text-clause-answer
returns-in_err-text-clause-answer g c =
    let O = g.O.Outlet in
    let W = g.W.Write in
    keep-stop-answers O.kept O.failures W.taken W.failures c.args.plan.now c.args.time c.args.outlet.now c.keep_and_report.new.outlet
    c.args.report.now c.args.report.now c.args.served c.requires.plan c.in_err-text.field-0.0 c.from_residual.result
    c.from_residual.ensures.1 c.in_err-text.ensures.fault refl

pub returns-in-Ok-clause-answer : goal.returns-in-Ok-clause-answer
returns-in-Ok-clause-answer g c =
    let O = g.O.Outlet in
    let W = g.W.Write in
    let P : List ℕ → Type 0 = λ octets. Appends (W.taken c.args.report.now) (W.taken c.write_all.new.out) octets in
    done-answers O.kept O.failures W.taken W.failures c.args.plan.now c.args.time c.args.outlet.now c.keep_and_report.new.outlet
    c.args.report.now c.write_all.new.out c.args.served c.requires.plan (string_bytes c.in_ok-text.text) c.in_ok-text.ensures.report
    c.in_ok-text.ensures.kept c.in_ok-text.ensures.no_failure (subst P c.as_bytes.ensures.value c.in-Ok.ensures.ok)
    c.in-Ok.ensures.ok_failures

pub returns-clause-answer : goal.returns-clause-answer
returns-clause-answer g c =
    let O = g.O.Outlet in
    let W = g.W.Write in
    let P : List ℕ → Type 0 = λ octets. AppendsBeginning (W.taken c.args.report.now) (W.taken c.write_all.new.out) octets in
    report-failed-answers O.kept O.failures W.taken W.failures c.args.plan.now c.args.time c.args.outlet.now c.keep_and_report.new.outlet
    c.args.report.now c.write_all.new.out c.args.served c.requires.plan (string_bytes c.in_ok-text.text) c.in_ok-text.ensures.report
    c.in_ok-text.ensures.kept c.in_ok-text.ensures.no_failure (subst P c.as_bytes.ensures.value c.in-Err.ensures.err)
    c.in-Err.ensures.err_failures
