use Rattle.std.proofs.Common.{arith, subst}
use Rattle.std.specs.Prelude.{◌↔◌, IsTrue}
use Rattle.rs_choice.specs.Comparison.{IsAhead}
use Rattle.rs_choice.proofs.held_route.EntrantLemmas.{counted, held_there, judged_there, standing_there}
use Rattle.rs_choice.proofs.entrants.ChosenEntrants.is_behind.Goals as goal

pub place-requires : goal.place-requires
place-requires c = omega (arith, c.requires, counted c.self.inside c.args.self.now c.self.invariant c.self.view_is)

pub bounds-self-inside-place : goal.bounds-self-inside-place
bounds-self-inside-place c =
    held_there c.self.inside c.args.self.now c.self.invariant c.self.view_is c.args.place c.place.result c.place.ensures.value

pub leaves_behind-requires : goal.leaves_behind-requires
leaves_behind-requires c =
    (judged_there c.self.inside c.args.self.now c.self.invariant c.self.view_is c.args.place c.place.result c.place.ensures.value
    c.index-self-place.result).known

pub returns : goal.returns
returns c =
    subst (λ standing. IsTrue c.leaves_behind.result ↔ IsAhead c.args.leader.now standing)
    (standing_there c.self.inside c.args.self.now c.self.invariant c.self.view_is c.args.place c.place.result c.place.ensures.value
    c.index-self-place.result)
    c.leaves_behind.ensures
