use Rattle.std.proofs.Common.{◌≡◌, length}
use Rattle.rs_types.specs.Shapes.{others_in}
use Rattle.rs_choice.specs.LargeCommunity.{large_value}
use Rattle.rs_choice.proofs.large_community.large_communities.Given as goal

-- no attribute so far is LARGE_COMMUNITY
abbrev pub invariant-loop-other : goal.invariant-loop-other
invariant-loop-other l = large_value (others_in l.rest) ≡ large_value l.attributes.others

abbrev pub decreases-loop-other : goal.decreases-loop-other
decreases-loop-other l = length (others_in l.rest)
