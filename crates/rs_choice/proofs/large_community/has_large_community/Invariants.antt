use Rattle.std.proofs.Common.{◌≡◌, length, map}
use Rattle.rs_choice.specs.LargeCommunity.{has_large_community, has_large_in, large_community_of}
use Rattle.rs_choice.proofs.large_community.has_large_community.Given as goal

-- no large community so far has these numbers
abbrev pub invariant-loop-rest : goal.invariant-loop-rest
invariant-loop-rest l =
    has_large_in (map large_community_of l.rest) l.global l.first l.second ≡ has_large_community l.attributes l.global l.first l.second

abbrev pub decreases-loop-rest : goal.decreases-loop-rest
decreases-loop-rest l = length l.rest
