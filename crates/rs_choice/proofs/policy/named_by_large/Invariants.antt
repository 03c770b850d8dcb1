use Rattle.std.proofs.Common.{◌≡◌, ◌||◌, length, map}
use Rattle.rs_choice.specs.LargeCommunity.{has_large_in, large_community_of}
use Rattle.rs_choice.proofs.policy.named_by_large.Given as goal

-- no large community so far refuses the route to the client, and of the two other kinds it is known whether one was seen
abbrev pub invariant-loop-rest : goal.invariant-loop-rest
invariant-loop-rest l = record {
  refuses : has_large_in (map large_community_of l.rest) l.local_asn 0 l.client_asn
      ≡ has_large_in (map large_community_of l.list) l.local_asn 0 l.client_asn;
  permits : (l.permits || has_large_in (map large_community_of l.rest) l.local_asn 1 l.client_asn)
      ≡ has_large_in (map large_community_of l.list) l.local_asn 1 l.client_asn;
  refuses_all : (l.refuses_all || has_large_in (map large_community_of l.rest) l.local_asn 0 0)
      ≡ has_large_in (map large_community_of l.list) l.local_asn 0 0;
}

abbrev pub decreases-loop-rest : goal.decreases-loop-rest
decreases-loop-rest l = length l.rest
