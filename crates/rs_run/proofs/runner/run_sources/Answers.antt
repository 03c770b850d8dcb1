-- What was read is of changes that sessions over the sources may tell, and so are dumps and report.
use Rattle.std.proofs.Common.{ℕ, subst}
use Rattle.rs_choice.specs.Plan.{Plan}
use Rattle.rs_serve.specs.Served.{ServedContent}
use Rattle.rs_run.specs.Recorded.{OverSourcesServed, SourceFailsAt}
use Rattle.rs_run.specs.RunAnswer.{RunAnswer}
use Rattle.rs_run.proofs.RunLemmas.{answers-over}
use Rattle.rs_run.proofs.runner.run_sources.Goals as goal

pub returns : goal.returns
returns g c =
    let O = g.O.Outlet in
    let W = g.W.Write in
    let S = g.S.Source in
    let errors = c.args.options.now.errors in
    let time = c.args.options.now.time in
    let plan : Plan = c.args.setup.now.plan.value in
    let served : ServedContent = c.in_ok-served.served in
    let Just : (ServedContent → Type 0) → Type 0 = λ Holds. Holds served in
    let Over : (ServedContent → Type 0) → Type 0 = OverSourcesServed S.comes S.shows errors plan c.args.sources.items in
    let Never : ℕ → Type 0 = λ peer. ⊥ in
    let P : Plan → Type 0 = λ held. RunAnswer Just Never O.kept O.failures W.taken W.failures held time c.args.outlet.now
    c.write_served.new.outlet c.args.report.now c.write_served.new.report c.write_served.result in
    record {
      answer = answers-over Just Over Never (SourceFailsAt S.comes S.shows errors plan c.args.sources.items) O.kept O.failures W.taken
          W.failures plan time c.args.outlet.now c.write_served.new.outlet c.args.report.now c.write_served.new.report
          (λ Holds holds. (served, c.in_ok-served.ensures.served, holds)) (λ peer no. absurd no)
          c.write_served.result (subst P c.deref.ensures c.write_served.ensures.answer);
    }
