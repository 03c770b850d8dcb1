use Rattle.std.proofs.Common.{◌≡◌, ◌∙◌, sym, ap, false, true, not, ◌||◌, ◌&&◌}
use Rattle.std.specs.Prelude.{is_some}
use Rattle.std.specs.List.{list_any, range_with_len}
use Rattle.std.specs.Option.{option_map_or}
use Rattle.rs_choice.specs.Clients.{chosen_for, is_sent_to}
use Rattle.rs_choice.specs.Plan.{Plan}
use Rattle.rs_table.specs.RouteView.{sent_route_of}
use Rattle.rs_table.specs.Table.{accepted_on}
use Rattle.rs_survey.specs.Seen.{is_open_to}
use Rattle.rs_survey.specs.Summary.{is_hidden_from, shared_choice}
use Rattle.rs_survey.proofs.GrowthLemmas.{any-number}
use Rattle.rs_survey.proofs.HiddenLemmas.{some_made}
use Rattle.rs_survey.proofs.hidden.is_hiding.Goals as goal
use Rattle.rs_survey.proofs.hidden.is_hiding.Goals.{then-hides, else-hides+then-is_some, else-hides+else-is_some}

pub loop-client-preserved : goal.loop-client-preserved
loop-client-preserved c =
    let plan = c.args.tables.now.plan in
    let routes = accepted_on c.args.tables.now c.args.on.now.prefix in
    let n = c.loop-client.client in
    let hidden = is_hidden_from plan routes in
    let shared = option_map_or (is_sent_to plan n) (shared_choice plan routes) false in
    let so_far = c.loop-client.invariant in
    let both : c.if-hides.hides ≡ (list_any hidden (range_with_len 0 n) || hidden n) =
    elim c.if-hides.branch [
      | then-hides w ↦ w.hides-is ∙ w.if-hides.true ∙ ap (λ b. b || hidden n) (sym w.if-hides.true ∙ so_far)
      | else-hides+then-is_some w ↦
          let gets : is_some (chosen_for plan n routes) ≡ true =
          sym (ap is_some (w.best.ensures ∙ c.requires.routes.bests n)) ∙ some_made sent_route_of w.best.result
          ∙ sym w.is_some.ensures ∙ w.if-is_some.true in
          w.hides-is ∙ ap not (w.is_open_to.ensures
          ∙ ap (λ (plan : Plan). is_open_to plan c.args.shared.now n) c.plan-plan.ensures ∙ c.requires.shared n) ∙ ap
          (λ b. b && not shared) (sym gets)
          ∙ ap (λ b. b || hidden n) (sym w.if-hides.false ∙ so_far)
      | else-hides+else-is_some w ↦
          let gets : is_some (chosen_for plan n routes) ≡ false =
          sym (ap is_some (w.best.ensures ∙ c.requires.routes.bests n)) ∙ some_made sent_route_of w.best.result
          ∙ sym w.is_some.ensures ∙ w.if-is_some.false in
          w.hides-is ∙ w.if-is_some.false ∙ ap (λ b. b && not shared) (sym gets) ∙ ap (λ b. b || hidden n) (sym w.if-hides.false ∙ so_far)
    ] in
    both ∙ any-number hidden n
