use Rattle.std.proofs.Common.{◌≡◌, ◌∙◌, sym, ap, arith}
use Rattle.std.specs.Option.{option_map}
use Rattle.std.proofs.lemmas.Grind.{common_steps}
use Rattle.rs_choice.specs.Decision.{standing_of_candidate, member_at}
use Rattle.rs_choice.specs.Naturality.{member_at-place_of_choice}
use Rattle.rs_choice.proofs.decision.ScanLemmas.{place_of_best}
use Rattle.rs_choice.proofs.exchange.Exchange.choose.Goals as goal

pub returns-clause-place : goal.returns-clause-place
returns-clause-place c =
    let mapped : c.map.result ≡ option_map (λ best. best.place) c.best.result = grind (arith, common_steps) in
    mapped ∙ sym (place_of_best c.args.self.now c.args.candidates.now c.best.result c.best.ensures)

pub returns-clause-member : goal.returns-clause-member
returns-clause-member c =
    ap (member_at c.args.candidates.now) (returns-clause-place c)
    ∙ member_at-place_of_choice (standing_of_candidate c.args.self.now) c.args.candidates.now
