-- What was read is of changes that sessions over the sources may tell, and so are the dumps that are kept.
use Rattle.std.proofs.Common.{◌∙◌, ℕ, Err, Ok, Result, ap, length, refl, subst, sym}
use Rattle.rs_choice.specs.Plan.{Plan}
use Rattle.rs_keep.proofs.NamesLemmas.{same-names}
use Rattle.rs_outlet.specs.declared.run_fault.RunFault.{RunFault}
use Rattle.rs_outlet.specs.declared.run_fault.RunFault.TheVariants.{Memory}
use Rattle.rs_serve.specs.Served.{ServedContent}
use Rattle.rs_run.proofs.RefusalLemmas.{read-stop-answers}
use Rattle.rs_run.proofs.RunLemmas.{answers-over, if-answers}
use Rattle.rs_run.specs.Recorded.{OverSourcesServed, SourceFailsAt}
use Rattle.rs_run.specs.RunAnswer.{RunAnswer}
use Rattle.rs_run.specs.declared.runner.Ran.{Ran}
use Rattle.rs_run.proofs.runner.run_if.Goals as goal

pub write_served-requires-clause-one_for_each : goal.write_served-requires-clause-one_for_each
write_served-requires-clause-one_for_each g c =
    λ _ _. c.in_ok-served.ensures.served.2.counted ∙ sym (ap (λ (held : Plan). length held.peers) c.deref.ensures)

pub returns-in_err-served-clause-back : goal.returns-in_err-served-clause-back
returns-in_err-served-clause-back g c = same-names (g.O.Outlet.started c.args.outlet.now)

pub returns-in_err-ends-clause-back : goal.returns-in_err-ends-clause-back
returns-in_err-ends-clause-back g c = same-names (g.O.Outlet.started c.args.outlet.now)

pub returns-in_err-served-clause-answer : goal.returns-in_err-served-clause-answer
returns-in_err-served-clause-answer g c =
    let O = g.O.Outlet in
    let W = g.W.Write in
    let S = g.S.Source in
    let errors = c.args.options.now.errors in
    let plan : Plan = c.args.setup.now.plan.value in
    let Over : (ServedContent → Type 0) → Type 0 = OverSourcesServed S.comes S.shows errors plan c.args.sources.items in
    let Fails : ℕ → Type 0 = SourceFailsAt S.comes S.shows errors plan c.args.sources.items in
    let fault : RunFault = c.in_err-served.field-0.0 in
    if-answers Over Fails O.kept O.failures W.taken W.failures plan c.args.options.now.time c.args.outlet.now c.args.outlet.now
    c.args.report.now c.args.report.now Ran c.from_residual.result fault c.from_residual.ensures.1
    (read-stop-answers Over Fails O.kept O.failures W.taken W.failures plan c.args.options.now.time c.args.outlet.now c.args.report.now
    {A = Ran} fault (Err fault) refl c.in_err-served.ensures.fault)

pub returns-in_err-ends-clause-answer : goal.returns-in_err-ends-clause-answer
returns-in_err-ends-clause-answer g c =
    let O = g.O.Outlet in
    let W = g.W.Write in
    let S = g.S.Source in
    let errors = c.args.options.now.errors in
    let plan : Plan = c.args.setup.now.plan.value in
    let Over : (ServedContent → Type 0) → Type 0 = OverSourcesServed S.comes S.shows errors plan c.args.sources.items in
    let Fails : ℕ → Type 0 = SourceFailsAt S.comes S.shows errors plan c.args.sources.items in
    if-answers Over Fails O.kept O.failures W.taken W.failures plan c.args.options.now.time c.args.outlet.now c.args.outlet.now
    c.args.report.now c.args.report.now Ran c.from_residual-in_err-ends.result Memory c.from_residual-in_err-ends.ensures.1
    (read-stop-answers Over Fails O.kept O.failures W.taken W.failures plan c.args.options.now.time c.args.outlet.now c.args.report.now
    {A = Ran} Memory (Err Memory) refl tt)

pub returns-in_err-write_served-clause-answer : goal.returns-in_err-write_served-clause-answer
returns-in_err-write_served-clause-answer g c =
    let O = g.O.Outlet in
    let W = g.W.Write in
    let S = g.S.Source in
    let errors = c.args.options.now.errors in
    let time = c.args.options.now.time in
    let plan : Plan = c.args.setup.now.plan.value in
    let served : ServedContent = c.in_ok-served.served in
    let Over : (ServedContent → Type 0) → Type 0 = OverSourcesServed S.comes S.shows errors plan c.args.sources.items in
    let Fails : ℕ → Type 0 = SourceFailsAt S.comes S.shows errors plan c.args.sources.items in
    let Just : (ServedContent → Type 0) → Type 0 = λ Holds. Holds served in
    let Never : ℕ → Type 0 = λ peer. ⊥ in
    let fault : RunFault = c.in_err-write_served.field-0.0 in
    let failed : Result (Unit {0}) RunFault = Err fault in
    let P : Plan → Type 0 = λ held. RunAnswer Just Never O.kept O.failures W.taken W.failures held time c.args.outlet.now
    c.write_served.new.outlet c.args.report.now c.write_served.new.report failed in
    if-answers Over Fails O.kept O.failures W.taken W.failures plan time c.args.outlet.now c.write_served.new.outlet
    c.args.report.now c.write_served.new.report (Unit {0}) c.from_residual-in_err-write_served.result fault
    c.from_residual-in_err-write_served.ensures.1
    (answers-over Just Over Never Fails O.kept O.failures W.taken W.failures plan time c.args.outlet.now c.write_served.new.outlet
    c.args.report.now c.write_served.new.report (λ Holds holds. (served, c.in_ok-served.ensures.served, holds)) (λ peer no. absurd no)
    failed (subst P c.deref.ensures c.in_err-write_served.ensures.answer))

pub returns-clause-answer : goal.returns-clause-answer
returns-clause-answer g c =
    let O = g.O.Outlet in
    let W = g.W.Write in
    let S = g.S.Source in
    let errors = c.args.options.now.errors in
    let time = c.args.options.now.time in
    let plan : Plan = c.args.setup.now.plan.value in
    let served : ServedContent = c.in_ok-served.served in
    let Over : (ServedContent → Type 0) → Type 0 = OverSourcesServed S.comes S.shows errors plan c.args.sources.items in
    let Fails : ℕ → Type 0 = SourceFailsAt S.comes S.shows errors plan c.args.sources.items in
    let Just : (ServedContent → Type 0) → Type 0 = λ Holds. Holds served in
    let Never : ℕ → Type 0 = λ peer. ⊥ in
    let done : Result (Unit {0}) RunFault = Ok tt in
    let P : Plan → Type 0 = λ held. RunAnswer Just Never O.kept O.failures W.taken W.failures held time c.args.outlet.now
    c.write_served.new.outlet c.args.report.now c.write_served.new.report done in
    answers-over Just Over Never Fails O.kept O.failures W.taken W.failures plan time c.args.outlet.now c.write_served.new.outlet
    c.args.report.now c.write_served.new.report (λ Holds holds. (served, c.in_ok-served.ensures.served, holds)) (λ peer no. absurd no)
    done (subst P c.deref.ensures c.in_ok-write_served.ensures.answer)
