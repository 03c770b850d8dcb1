use Rattle.std.proofs.Common.{◌≡◌, ◌∙◌, sym, ap, arith}
use Rattle.std.specs.Option.{option_map}
use Rattle.std.proofs.lemmas.Grind.{common_steps}
use Rattle.rs_choice.specs.Decision.{standing_of_candidate, member_at}
use Rattle.rs_choice.specs.Naturality.{member_at-place_of_choice}
use Rattle.rs_choice.proofs.clients.ChosenLemmas.{place_by_groups}
use Rattle.rs_choice.proofs.exchange.Exchange.choose_by_groups.Goals as goal

pub returns-clause-place : goal.returns-clause-place
returns-clause-place c =
    let candidates = c.args.candidates.now in
    let mapped : c.map.result ≡ option_map (λ first. first.place) c.first_of.result = grind (arith, common_steps) in
    mapped ∙ sym (place_by_groups (standing_of_candidate c.args.self.now) candidates c.group_all.new.groups
    c.first_of.result c.group_all.ensures c.first_of.ensures)

pub returns-clause-member : goal.returns-clause-member
returns-clause-member c =
    ap (member_at c.args.candidates.now) (returns-clause-place c)
    ∙ member_at-place_of_choice (standing_of_candidate c.args.self.now) c.args.candidates.now
