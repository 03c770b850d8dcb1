use Rattle.std.proofs.Common.{◌≡◌, ◌||◌, length}
use Rattle.rs_types.specs.Community.{has_value}
use Rattle.rs_types.specs.Shapes.{numbers_in}
use Rattle.rs_choice.proofs.policy.named_by_list.Given as goal

-- no value so far refuses the route to the client, and of the two other kinds it is known whether one was seen
abbrev pub invariant-loop-value : goal.invariant-loop-value
invariant-loop-value l = record {
  refuses : has_value (numbers_in l.rest) 0 l.client_asn ≡ has_value (numbers_in l.list) 0 l.client_asn;
  permits : (l.permits || has_value (numbers_in l.rest) l.local_asn l.client_asn) ≡ has_value (numbers_in l.list) l.local_asn l.client_asn;
  refuses_all : (l.refuses_all || has_value (numbers_in l.rest) 0 l.local_asn) ≡ has_value (numbers_in l.list) 0 l.local_asn;
}

abbrev pub decreases-loop-value : goal.decreases-loop-value
decreases-loop-value l = length (numbers_in l.rest)
