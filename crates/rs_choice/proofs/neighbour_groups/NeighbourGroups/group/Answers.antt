use Rattle.std.proofs.Common.{arith}
use Rattle.rs_choice.proofs.neighbour_groups.GroupParts.{counted, group_at}
use Rattle.rs_choice.proofs.neighbour_groups.NeighbourGroups.group.Goals as goal

pub returns : goal.returns
returns c =
    group_at c.self.inside c.args.self.now c.self.invariant c.self.view_is c.args.number
    (omega (arith, c.requires, counted c.self.inside c.args.self.now c.self.invariant c.self.view_is))
