use Rattle.rs_choice.proofs.neighbour_groups.GroupParts.{marked_at}
use Rattle.rs_choice.proofs.neighbour_groups.NeighbourGroups.replace.Goals as goal

pub returns : goal.returns
returns c = rw c.of.ensures (marked_at c.self.inside c.args.self.now c.self.invariant c.self.view_is c.args.group c.args.number
    c.requires.number c.requires.neighbour)
