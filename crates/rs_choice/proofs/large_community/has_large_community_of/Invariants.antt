use Rattle.std.proofs.Common.{◌≡◌, length, map}
use Rattle.std.specs.List.{list_any}
use Rattle.rs_choice.specs.LargeCommunity.{has_large_community_of, is_large_of, large_community_of}
use Rattle.rs_choice.proofs.large_community.has_large_community_of.Given as goal

-- no large community so far has these numbers
abbrev pub invariant-loop-rest : goal.invariant-loop-rest
invariant-loop-rest l =
    list_any (λ one. is_large_of one l.global l.first) (map large_community_of l.rest) ≡ has_large_community_of l.attributes l.global l.first

abbrev pub decreases-loop-rest : goal.decreases-loop-rest
decreases-loop-rest l = length l.rest
