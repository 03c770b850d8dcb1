use Rattle.std.proofs.Common.{◌∙◌, arith}
use Rattle.rs_choice.proofs.held_route.EntrantLemmas.{counted, held_there, judged_there, standing_there}
use Rattle.rs_choice.proofs.entrants.ChosenEntrants.standing.Goals as goal

pub place-requires : goal.place-requires
place-requires c = omega (arith, c.requires, counted c.self.inside c.args.self.now c.self.invariant c.self.view_is)

pub bounds-self-inside-place : goal.bounds-self-inside-place
bounds-self-inside-place c =
    held_there c.self.inside c.args.self.now c.self.invariant c.self.view_is c.args.place c.place.result c.place.ensures.value

pub held_standing-requires : goal.held_standing-requires
held_standing-requires c =
    judged_there c.self.inside c.args.self.now c.self.invariant c.self.view_is c.args.place c.place.result c.place.ensures.value
    c.index-self-place.result

pub returns : goal.returns
returns c =
    c.held_standing.ensures
    ∙ standing_there c.self.inside c.args.self.now c.self.invariant c.self.view_is c.args.place c.place.result c.place.ensures.value
    c.index-self-place.result
