use Rattle.std.proofs.Common.{sym}
use Rattle.rs_choice.proofs.neighbour_groups.GroupParts.{counted}
use Rattle.rs_choice.proofs.neighbour_groups.NeighbourGroups.len.Goals as goal

pub returns-clause-value : goal.returns-clause-value
returns-clause-value c = sym (counted c.self.inside c.args.self.now c.self.invariant c.self.view_is)
