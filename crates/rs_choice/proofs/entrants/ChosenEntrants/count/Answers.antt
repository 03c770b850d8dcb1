use Rattle.std.proofs.Common.{◌∙◌, sym}
use Rattle.rs_choice.proofs.held_route.EntrantLemmas.{counted}
use Rattle.rs_choice.proofs.entrants.ChosenEntrants.count.Goals as goal

pub returns : goal.returns
returns c = c.len.ensures.value ∙ sym (counted c.self.inside c.args.self.now c.self.invariant c.self.view_is)
