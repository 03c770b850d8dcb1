use Rattle.std.proofs.Common.{◌<◌, ◌∙◌, All, List, ap, subst, sym}
use Rattle.std.specs.List.{filter_map}
use Rattle.rs_survey.specs.declared.on_prefix.MissingRoute.{MissingRoute}
use Rattle.rs_survey.specs.Grows.{Grows}
use Rattle.rs_survey.specs.MissingCounts.{counted_of, missing_findings_on}
use Rattle.rs_survey.proofs.MissingCountLemmas.{findings_here, known_senders}
use Rattle.rs_survey.proofs.missing_counts.count_missing_on.Goals as goal

pub count_routes-requires : goal.count_routes-requires
count_routes-requires c =
    subst (λ (routes : List MissingRoute). All (λ one. one.route.peer < c.args.tally.now.peers) routes) (sym c.deref.ensures.value)
    (known_senders c.args.tables.now c.args.client c.args.from c.args.tally.now.peers c.in_ok-missing.missing c.in_ok-missing.ensures.missing
    c.requires.peers)

pub returns : goal.returns
returns c =
    let here = findings_here c.args.tables.now c.args.client c.args.from c.in_ok-missing.missing c.in_ok-missing.ensures.missing in
    subst (Grows c.args.tally.now c.count_routes.new.tally)
    (ap (filter_map counted_of) c.deref.ensures.value ∙ here
    ∙ ap (missing_findings_on c.args.tables.now c.args.client c.args.from) c.in_ok-missing.ensures.prefix)
    c.count_routes.ensures
