use Rattle.std.proofs.Common.{◌≡◌, ◌∙◌, ◌∷◌, [], Some, sym, subst}
use Rattle.std.specs.Prelude.{Option}
use Rattle.std.specs.Option.{option_map, option_to_list}
use Rattle.rs_choice.specs.Acceptance.{filter_on}
use Rattle.rs_explain.specs.Reasons.{failed_condition, kind_of}
use Rattle.rs_survey.specs.declared.finding.Finding.{Finding}
use Rattle.rs_survey.specs.declared.finding.Finding.TheVariants.{Left}
use Rattle.rs_survey.specs.Grows.{Grows}
use Rattle.rs_survey.specs.Summary.{unfit}
use Rattle.rs_survey.proofs.GrowthLemmas.{grows_then}
use Rattle.rs_survey.proofs.counting.count_route.Goals as goal

pub returns-in-Some : goal.returns-in-Some
returns-in-Some c =
    let one = c.args.one.now in
    let plan = c.args.plan.now in
    let sender = one.route.peer in
    let attributes = one.route.attributes.now in
    let found : Some c.in-Some.finding
    ≡ unfit sender (option_map kind_of (failed_condition plan sender attributes)) (filter_on plan sender c.args._prefix attributes) =
    sym c.in-Some.is ∙ c.unfit.ensures.value ∙ (λ i. unfit sender (c.requires.seen.failed i) (c.requires.filtered i)) in
    subst (λ (finding : Option Finding). Grows c.args.tally.now c.add-in-Some.new.self (Left sender ∷ option_to_list finding)) found
    (grows_then c.args.tally.now c.add.new.self c.add-in-Some.new.self (Left sender ∷ []) (c.in-Some.finding ∷ [])
    c.add.ensures c.add-in-Some.ensures)
