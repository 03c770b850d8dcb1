-- Worked examples of the definitions, each computed: what holds beside what must not.
--
-- The exchange: the server has AS 64500 and 192.0.2.1 in 192.0.2.0/24; peers a, b, c and d have AS 64501 to 64504 and 192.0.2.11 to .14.
use Rattle.std.proofs.Common.{◌≡◌, refl, ℕ, true, false, List, [], ◌∷◌, ◌++◌, Option, Some, None}
use Rattle.std.specs.Prelude.{codes, replicate}
use Rattle.rs_types.specs.declared.values.Origin.TheVariants.{Igp, Egp}
use Rattle.rs_types.specs.PathAttributes.{PathAttributes, AsSet, AsSequence}
use Rattle.rs_choice.specs.declared.plan.Local.{Local}
use Rattle.rs_choice.specs.declared.step.Step.TheVariants as steps
use Rattle.rs_choice.specs.declared.fault.PlanFault.TheVariants.{NoPeer, TooManyPeers, RepeatedName, RepeatedAddress, ZeroAs, UnknownName}
use Rattle.rs_choice.specs.Plan.{Peer, Plan, plan_fault, whole_tests, is_name}
use Rattle.rs_types.specs.FirstFault.{first_fault}
use Rattle.rs_import.specs.Import.{no_import}
use Rattle.rs_choice.specs.Eligibility.{is_eligible, is_inside}
use Rattle.byteorder.specs.Endian.{big_bytes}
use Rattle.rs_choice.specs.LargeCommunity.{has_large_community, large_communities_in}
use Rattle.rs_choice.specs.Policy.{is_permitted, may_refuse, permits_by_communities}
use Rattle.rs_choice.specs.Decision.{SentRoute, standing_of, beats, unbeaten, remaining, choice, place_of_choice}

abbrev server : Local
server = record { asn = 64500; address = 0xC0000201; id = 0xC0000201; subnet = Some (record { address = 0xC0000200; len = 24 }) }

abbrev no_subnet : Local
no_subnet = record { asn = 64500; address = 0xC0000201; id = 0xC0000201; subnet = None }

abbrev peer_named : List ℕ → ℕ → ℕ → Peer
peer_named name asn address = record { name = name; asn = asn; address = address; id = address; preference = 100; refuse_from = [] }

abbrev a : Peer
a = peer_named (codes "a") 64501 0xC000020B

abbrev b : Peer
b = peer_named (codes "b") 64502 0xC000020C

abbrev c : Peer
c = peer_named (codes "c") 64503 0xC000020D

abbrev d : Peer
d = peer_named (codes "d") 64504 0xC000020E

abbrev plan : Plan
plan = record { local = server; peers = a ∷ b ∷ c ∷ d ∷ []; large_communities = false; import = no_import }

abbrev route : List ℕ → ℕ → PathAttributes
route path next_hop =
    record {
      origin = Igp;
      path = AsSequence path ∷ [];
      next_hop = next_hop;
      med = None;
      atomic = false;
      aggregator = None;
      communities =
          None;
      others = [];
    }

abbrev with_communities : List ℕ → PathAttributes
with_communities values = record (route (64501 ∷ []) 0xC000020B) { communities = Some (record { partial = false; values = values }) }

-- eligible routes
eligible : is_eligible plan 0 (route (64501 ∷ []) 0xC000020B) ≡ true
eligible = refl

own_as_in_path : is_eligible plan 0 (route (64501 ∷ 64500 ∷ []) 0xC000020B) ≡ false
own_as_in_path = refl

own_as_in_a_set : is_eligible plan 0 (record (route (64501 ∷ []) 0xC000020B)
    { path = AsSequence (64501 ∷ []) ∷ AsSet (65010 ∷ 64500 ∷ []) ∷ [] }) ≡ false
own_as_in_a_set = refl

server_as_next_hop : is_eligible plan 0 (route (64501 ∷ []) 0xC0000201) ≡ false
server_as_next_hop = refl

next_hop_elsewhere : is_eligible plan 0 (route (64501 ∷ []) 0xC6336401) ≡ false
next_hop_elsewhere = refl

next_hop_elsewhere_without_subnet : is_eligible (record { local = no_subnet; peers = a ∷ []; large_communities = false; import = no_import }) 0
    (route (64501 ∷ []) 0xC6336401) ≡ true
next_hop_elsewhere_without_subnet = refl

next_hop_of_another_in_subnet : is_eligible plan 0 (route (64501 ∷ []) 0xC0000214) ≡ true
next_hop_of_another_in_subnet = refl

next_hop_of_a_sender_outside : is_eligible (record plan { peers = peer_named (codes "a") 64501 0xC6336401 ∷ [] }) 0
    (route (64501 ∷ []) 0xC6336401) ≡ true
next_hop_of_a_sender_outside = refl

next_hop_of_server_and_sender : is_eligible (record plan { peers = peer_named (codes "a") 64501 0xC0000201 ∷ [] }) 0
    (route (64501 ∷ []) 0xC0000201) ≡ false
next_hop_of_server_and_sender = refl

unknown_sender : is_eligible plan 4 (route (64501 ∷ []) 0xC000020B) ≡ false
unknown_sender = refl

inside_the_subnet : is_inside (record { address = 0xC0000200; len = 24 }) 0xC00002FF ≡ true
inside_the_subnet = refl

outside_the_subnet : is_inside (record { address = 0xC0000200; len = 24 }) 0xC0000300 ≡ false
outside_the_subnet = refl

inside_of_everything : is_inside (record { address = 0; len = 0 }) 0xC6336401 ≡ true
inside_of_everything = refl

-- export policy to b, of AS 64502
no_community : is_permitted plan 1 0 (route (64501 ∷ []) 0xC000020B) ≡ true
no_community = refl

refused_to_b : is_permitted plan 1 0 (with_communities (64502 ∷ [])) ≡ false
refused_to_b = refl

refused_to_all : is_permitted plan 1 0 (with_communities (64500 ∷ [])) ≡ false
refused_to_all = refl

refused_to_all_but_b : is_permitted plan 1 0 (with_communities (64500 ∷ 4227136502 ∷ [])) ≡ true
refused_to_all_but_b = refl

refused_and_permitted_to_b : is_permitted plan 1 0 (with_communities (64502 ∷ 4227136502 ∷ [])) ≡ false
refused_and_permitted_to_b = refl

refused_to_all_but_c : is_permitted plan 1 0 (with_communities (64500 ∷ 4227136503 ∷ [])) ≡ false
refused_to_all_but_c = refl

permitted_to_c : is_permitted plan 2 0 (with_communities (64500 ∷ 4227136503 ∷ [])) ≡ true
permitted_to_c = refl

own_route : is_permitted plan 0 0 (route (64501 ∷ []) 0xC000020B) ≡ false
own_route = refl

unknown_client : is_permitted plan 4 0 (route (64501 ∷ []) 0xC000020B) ≡ false
unknown_client = refl

large_as_refused : permits_by_communities plan 70000 (with_communities (64500 ∷ [])) ≡ false
large_as_refused = refl

large_as_not_permitted : permits_by_communities plan 70000 (with_communities (64500 ∷ 4227142000 ∷ [])) ≡ false
large_as_not_permitted = refl

-- the same with large communities, to b, of AS 64502, and to e, of AS 4200000001
abbrev e : Peer
e = peer_named (codes "e") 4200000001 0xC000020F

abbrev counting : Plan
counting = record { local = server; peers = a ∷ b ∷ e ∷ []; large_communities = true; import = no_import }

abbrev not_counting : Plan
not_counting = record counting { large_communities = false }

abbrev large : ℕ → ℕ → ℕ → List ℕ
large global first second = big_bytes 4 global ++ (big_bytes 4 first ++ big_bytes 4 second)

abbrev with_both : List ℕ → List ℕ → PathAttributes
with_both values octets = record (with_communities values) { others = record { kind = 32; value = octets } ∷ [] }

abbrev with_large : List ℕ → PathAttributes
with_large octets = record (route (64501 ∷ []) 0xC000020B) { others = record { kind = 32; value = octets } ∷ [] }

large_octets : large_communities_in (0 ∷ 0 ∷ 251 ∷ 244 ∷ 0 ∷ 0 ∷ 0 ∷ 1 ∷ 250 ∷ 86 ∷ 234 ∷ 1 ∷ [])
    ≡ record { global_admin = 64500; first = 1; second = 4200000001 } ∷ []
large_octets = refl

two_large : large_communities_in (large 64500 0 64502 ++ large 1 2 3)
    ≡ record { global_admin = 64500; first = 0; second = 64502 } ∷ record { global_admin = 1; first = 2; second = 3 } ∷ []
two_large = refl

no_large : large_communities_in [] ≡ []
no_large = refl

one_octet_too_many : large_communities_in (large 64500 0 64502 ++ 0 ∷ []) ≡ []
one_octet_too_many = refl

of_another_type : has_large_community (record (with_large []) { others = record { kind = 33; value = large 64500 0 64502 } ∷ [] })
    64500 0 64502 ≡ false
of_another_type = refl

large_refused_to_b : is_permitted counting 1 0 (with_large (large 64500 0 64502)) ≡ false
large_refused_to_b = refl

large_refused_to_e : is_permitted counting 2 0 (with_large (large 64500 0 4200000001)) ≡ false
large_refused_to_e = refl

large_not_refused_to_b : is_permitted counting 1 0 (with_large (large 64500 0 4200000001)) ≡ true
large_not_refused_to_b = refl

-- the low 16 bits of 4200000001 are 59905
by_low_bits : is_permitted counting 2 0 (with_large (large 64500 0 59905)) ≡ true
by_low_bits = refl

of_another_server : is_permitted counting 1 0 (with_large (large 64501 0 64502)) ≡ true
of_another_server = refl

large_refused_to_all : is_permitted counting 2 0 (with_large (large 64500 0 0)) ≡ false
large_refused_to_all = refl

large_refused_to_all_but_e : is_permitted counting 2 0 (with_large (large 64500 0 0 ++ large 64500 1 4200000001)) ≡ true
large_refused_to_all_but_e = refl

large_refused_to_all_but_e_at_b : is_permitted counting 1 0 (with_large (large 64500 0 0 ++ large 64500 1 4200000001)) ≡ false
large_refused_to_all_but_e_at_b = refl

large_refused_and_permitted : is_permitted counting 2 0 (with_large (large 64500 1 4200000001 ++ large 64500 0 4200000001)) ≡ false
large_refused_and_permitted = refl

permitted_to_all_is_nothing : is_permitted counting 1 0 (with_large (large 64500 0 0 ++ large 64500 1 0)) ≡ false
permitted_to_all_is_nothing = refl

-- a large community beside a community
large_permits_beside_a_refusal_to_all : is_permitted counting 2 0 (with_both (64500 ∷ []) (large 64500 1 4200000001)) ≡ true
large_permits_beside_a_refusal_to_all = refl

refused_beside_a_large_permit : is_permitted counting 1 0 (with_both (64502 ∷ []) (large 64500 1 64502)) ≡ false
refused_beside_a_large_permit = refl

permitted_beside_a_large_refusal : is_permitted counting 1 0 (with_both (4227136502 ∷ []) (large 64500 0 64502)) ≡ false
permitted_beside_a_large_refusal = refl

permitted_beside_a_large_refusal_to_all : is_permitted counting 1 0 (with_both (4227136502 ∷ []) (large 64500 0 0)) ≡ true
permitted_beside_a_large_refusal_to_all = refl

neither_named : is_permitted counting 1 0 (with_both (64503 ∷ []) (large 64500 1 64503)) ≡ true
neither_named = refl

-- without the key they say nothing
large_uncounted : is_permitted not_counting 1 0 (with_large (large 64500 0 64502)) ≡ true
large_uncounted = refl

large_permit_uncounted : is_permitted not_counting 1 0 (with_both (64500 ∷ []) (large 64500 1 64502)) ≡ false
large_permit_uncounted = refl

may_refuse_by_large : may_refuse counting (with_large (large 64500 0 7)) ≡ true
may_refuse_by_large = refl

may_not_refuse : may_refuse counting (with_large (large 64500 1 64502 ++ large 64501 0 64502)) ≡ false
may_not_refuse = refl

may_not_refuse_uncounted : may_refuse not_counting (with_large (large 64500 0 7)) ≡ false
may_not_refuse_uncounted = refl

abbrev choosy : Plan
choosy = record plan { peers = a ∷ record b { refuse_from = codes "b" ∷ codes "a" ∷ codes "a" ∷ [] } ∷ c ∷ [] }

refused_by_name : is_permitted choosy 1 0 (with_communities (4227136502 ∷ [])) ≡ false
refused_by_name = refl

not_refused_by_name : is_permitted choosy 1 2 (route (64503 ∷ []) 0xC000020D) ≡ true
not_refused_by_name = refl

not_refused_to_another : is_permitted choosy 2 0 (route (64501 ∷ []) 0xC000020B) ≡ true
not_refused_to_another = refl

-- MED isn't transitive: two peers of AS 64501 with MED 10 and 5, and one of AS 64502 between them by identifier
abbrev med_plan : Plan
med_plan = record {
  local = server;
  peers = record (peer_named (codes "a") 64501 0xC000020B) { id = 1 } ∷ record (peer_named (codes "b") 64501 0xC000020C) { id = 9 }
      ∷ record (peer_named (codes "c") 64502 0xC000020D) { id = 5 } ∷ [];
  large_communities = false;
  import = no_import;
}

abbrev from_a : SentRoute
from_a = record { peer = 0; time = 0; attributes = record (route (64501 ∷ 65010 ∷ []) 0xC000020B) { med = Some 10 } }

abbrev from_b : SentRoute
from_b = record { peer = 1; time = 0; attributes = record (route (64501 ∷ 65010 ∷ []) 0xC000020C) { med = Some 5 } }

abbrev from_c : SentRoute
from_c = record { peer = 2; time = 0; attributes = route (64502 ∷ 65010 ∷ []) 0xC000020D }

med_order_abc : choice (standing_of med_plan) (from_a ∷ from_b ∷ from_c ∷ []) ≡ Some from_c
unfolding choice remaining unbeaten
med_order_abc = refl

med_order_acb : choice (standing_of med_plan) (from_a ∷ from_c ∷ from_b ∷ []) ≡ Some from_c
unfolding choice remaining unbeaten
med_order_acb = refl

med_order_bac : choice (standing_of med_plan) (from_b ∷ from_a ∷ from_c ∷ []) ≡ Some from_c
unfolding choice remaining unbeaten
med_order_bac = refl

med_order_bca : choice (standing_of med_plan) (from_b ∷ from_c ∷ from_a ∷ []) ≡ Some from_c
unfolding choice remaining unbeaten
med_order_bca = refl

med_order_cab : choice (standing_of med_plan) (from_c ∷ from_a ∷ from_b ∷ []) ≡ Some from_c
unfolding choice remaining unbeaten
med_order_cab = refl

med_order_cba : choice (standing_of med_plan) (from_c ∷ from_b ∷ from_a ∷ []) ≡ Some from_c
unfolding choice remaining unbeaten
med_order_cba = refl

med_without_b : choice (standing_of med_plan) (from_a ∷ from_c ∷ []) ≡ Some from_a
unfolding choice remaining unbeaten
med_without_b = refl

med_without_b_turned : choice (standing_of med_plan) (from_c ∷ from_a ∷ []) ≡ Some from_a
unfolding choice remaining unbeaten
med_without_b_turned = refl

med_removes_a : unbeaten (standing_of med_plan) steps.Med (from_a ∷ from_b ∷ from_c ∷ []) ≡ from_b ∷ from_c ∷ []
unfolding unbeaten
med_removes_a = refl

med_keeps_across_neighbours : unbeaten (standing_of med_plan) steps.Med (from_a ∷ from_c ∷ []) ≡ from_a ∷ from_c ∷ []
unfolding unbeaten
med_keeps_across_neighbours = refl

-- no hidden path: a's route is refused to b, which gets c's longer one; a client to which both are permitted gets a's
abbrev of_a : SentRoute
of_a = record { peer = 0; time = 0; attributes = with_communities (64502 ∷ []) }

abbrev of_c : SentRoute
of_c = record { peer = 2; time = 0; attributes = route (64503 ∷ 65010 ∷ []) 0xC000020D }

hidden_from_b : is_permitted plan 1 0 of_a.attributes ≡ false
hidden_from_b = refl

shown_to_d : is_permitted plan 3 0 of_a.attributes ≡ true
shown_to_d = refl

both_at_d : choice (standing_of plan) (of_a ∷ of_c ∷ []) ≡ Some of_a
unfolding choice remaining unbeaten
both_at_d = refl

one_at_b : choice (standing_of plan) (of_c ∷ []) ≡ Some of_c
unfolding choice remaining unbeaten
one_at_b = refl

-- last tie: one AS and one identifier, so the lower address
abbrev tie_plan : Plan
tie_plan = record {
  local = server;
  peers = record (peer_named (codes "a") 64501 0xC000020B) { id = 0xC0000209 }
      ∷ record (peer_named (codes "b") 64501 0xC000020C) { id = 0xC0000209 } ∷ c ∷ [];
  large_communities = false;
  import = no_import;
}

abbrev tie_of : ℕ → SentRoute
tie_of peer = record { peer = peer; time = 0; attributes = route (64501 ∷ []) 0xC0000214 }

tie : choice (standing_of tie_plan) (tie_of 0 ∷ tie_of 1 ∷ []) ≡ Some (tie_of 0)
unfolding choice remaining unbeaten
tie = refl

tie_turned : choice (standing_of tie_plan) (tie_of 1 ∷ tie_of 0 ∷ []) ≡ Some (tie_of 0)
unfolding choice remaining unbeaten
tie_turned = refl

tie_place : place_of_choice (standing_of tie_plan) (tie_of 1 ∷ tie_of 0 ∷ []) ≡ Some 1
unfolding place_of_choice choice remaining unbeaten
tie_place = refl

-- the least place of two candidates of one peer
one_peer_twice : place_of_choice (standing_of tie_plan) (tie_of 0 ∷ tie_of 0 ∷ []) ≡ Some 0
unfolding place_of_choice choice remaining unbeaten
one_peer_twice = refl

no_candidate : place_of_choice (standing_of tie_plan) [] ≡ None
unfolding place_of_choice choice remaining unbeaten
no_candidate = refl

-- an AS_SET counts 1
abbrev with_set : SentRoute
with_set = record {
  peer = 0;
  time = 0;
  attributes = record (route (64501 ∷ []) 0xC000020B)
      { path = AsSet (65010 ∷ 65011 ∷ 65012 ∷ []) ∷ AsSequence (65013 ∷ 65014 ∷ []) ∷ [] };
}

abbrev of_two : SentRoute
of_two = record { peer = 1; time = 0; attributes = route (64502 ∷ 65010 ∷ []) 0xC000020C }

abbrev of_four : SentRoute
of_four = record { peer = 1; time = 0; attributes = route (64502 ∷ 65010 ∷ 65011 ∷ 65012 ∷ []) 0xC000020C }

set_is_three : (standing_of plan with_set).path_length ≡ 3
set_is_three = refl

two_before_three : choice (standing_of plan) (with_set ∷ of_two ∷ []) ≡ Some of_two
unfolding choice remaining unbeaten
two_before_three = refl

three_before_four : choice (standing_of plan) (of_four ∷ with_set ∷ []) ≡ Some with_set
unfolding choice remaining unbeaten
three_before_four = refl

-- a path that begins with an AS_SET has the sender's AS as neighbour AS
neighbour_of_a_set : (standing_of plan with_set).neighbour ≡ 64501
neighbour_of_a_set = refl

-- a missing MED is 0: two peers of one AS, the second of the lower identifier
abbrev one_as : Plan
one_as = record {
  local = server;
  peers = record (peer_named (codes "a") 64501 0xC000020B) { id = 9 } ∷ record (peer_named (codes "b") 64501 0xC000020C) { id = 1 } ∷ [];
  large_communities = false;
  import = no_import;
}

abbrev med_of : ℕ → Option ℕ → SentRoute
med_of peer med = record { peer = peer; time = 0; attributes = record (route (64501 ∷ []) 0xC000020B) { med = med } }

missing_before_one : choice (standing_of one_as) (med_of 0 None ∷ med_of 1 (Some 1) ∷ []) ≡ Some (med_of 0 None)
unfolding choice remaining unbeaten
missing_before_one = refl

missing_is_zero : choice (standing_of one_as) (med_of 0 None ∷ med_of 1 (Some 0) ∷ []) ≡ Some (med_of 1 (Some 0))
unfolding choice remaining unbeaten
missing_is_zero = refl

-- preference goes before path length, and path length before origin
abbrev preferring : Plan
preferring = record { local = server; peers = a ∷ record b { preference = 200 } ∷ []; large_communities = false; import = no_import }

abbrev of_origin : SentRoute
of_origin = record { peer = 0; time = 0; attributes = record (route (64501 ∷ 65010 ∷ []) 0xC000020B) { origin = Egp } }

preferred : choice (standing_of preferring) (record { peer = 0; time = 0; attributes = route (64501 ∷ []) 0xC000020B } ∷ of_four ∷ [])
    ≡ Some of_four
unfolding choice remaining unbeaten
preferred = refl

lower_origin : choice (standing_of plan) (of_origin ∷ of_two ∷ []) ≡ Some of_two
unfolding choice remaining unbeaten
lower_origin = refl

origins : beats steps.Origin (standing_of plan of_two) (standing_of plan of_origin) ≡ true
origins = refl

-- faults of a plan
lawful : plan_fault server (a ∷ b ∷ c ∷ d ∷ []) ≡ None
lawful = refl

lawful_refusals : plan_fault server (record a { refuse_from = codes "a" ∷ codes "b" ∷ codes "b" ∷ [] } ∷ record b { id = 0xC000020B } ∷ [])
    ≡ None
lawful_refusals = refl

no_peer : plan_fault server [] ≡ Some NoPeer
no_peer = refl

too_many_peers : first_fault (whole_tests server (replicate 257 a)) ≡ Some TooManyPeers
too_many_peers = refl

many_peers : first_fault (whole_tests server (replicate 256 a)) ≡ None
many_peers = refl

repeated_name : plan_fault server (a ∷ record b { name = codes "a" } ∷ []) ≡ Some (RepeatedName 1)
repeated_name = refl

repeated_address : plan_fault server (a ∷ record b { address = 0xC000020B } ∷ []) ≡ Some (RepeatedAddress 1)
repeated_address = refl

name_before_address : plan_fault server (a ∷ a ∷ []) ≡ Some (RepeatedName 1)
name_before_address = refl

servers_as : plan_fault (record server { asn = 0 }) (record a { name = [] } ∷ []) ≡ Some (ZeroAs None)
servers_as = refl

peers_as : plan_fault server (a ∷ record b { asn = 0 } ∷ []) ≡ Some (ZeroAs (Some 1))
peers_as = refl

peer_by_peer : plan_fault server (record a { asn = 0 } ∷ record b { name = [] } ∷ []) ≡ Some (ZeroAs (Some 0))
peer_by_peer = refl

names_come_last : plan_fault server (record a { refuse_from = codes "z" ∷ [] } ∷ record b { asn = 0 } ∷ []) ≡ Some (ZeroAs (Some 1))
names_come_last = refl

unknown_name : plan_fault server (a ∷ record b { refuse_from = codes "a" ∷ codes "z" ∷ [] } ∷ []) ≡ Some (UnknownName 1)
unknown_name = refl

refuses_a_later_peer : plan_fault server (record a { refuse_from = codes "b" ∷ [] } ∷ b ∷ []) ≡ None
refuses_a_later_peer = refl

empty_name : is_name [] ≡ false
empty_name = refl

long_name : is_name (replicate 65 97) ≡ false
long_name = refl

longest_name : is_name (replicate 64 97) ≡ true
longest_name = refl

name_with_marks : is_name (codes "AS64501_b-2") ≡ true
name_with_marks = refl

name_with_a_space : is_name (codes "a b") ≡ false
name_with_a_space = refl

name_with_a_dot : is_name (codes "a.b") ≡ false
name_with_a_dot = refl
