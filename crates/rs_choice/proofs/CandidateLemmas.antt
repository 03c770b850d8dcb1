-- The candidates of a client are those of the routes on a prefix that it may get: for the law `candidates_may_be_got`.
use Rattle.std.proofs.Common.{◌≡◌, ◌∙◌, sym, ap, refl, ℕ, Bool, true, false, cond, not, ◌==◌, ◌≢◌, List, [], ◌∷◌, Option, None, Some}
use Rattle.std.specs.Prelude.{slice_get, filter}
use Rattle.std.specs.List.{Contains}
use Rattle.std.specs.Option.{is_some, option_and_then, option_map_or}
use Rattle.std.proofs.lemmas.Bool.{and_parts, eq-eqb, ne_eqb, not_from_true, both_ways}
use Rattle.rs_types.specs.IpPrefix.{IpPrefix}
use Rattle.rs_types.specs.PathAttributes.{PathAttributes}
use Rattle.rs_import.specs.Import.{ImportPolicy, filter_of, no_import}
use Rattle.rs_choice.specs.Acceptance.{accepted_among, accepts}
use Rattle.rs_choice.specs.Clients.{MayGet, candidates_among, eligible_among, is_sent_to}
use Rattle.rs_choice.specs.Decision.{SentRoute}
use Rattle.rs_choice.specs.Eligibility.{is_eligible, is_eligible_from}
use Rattle.rs_choice.specs.Plan.{Peer, Plan}
use Rattle.rs_choice.specs.Policy.{is_permitted_from}
use Rattle.rs_choice.specs.Laws.{CandidatesMayBeGot, NothingAskedTakesAllIn}
use Rattle.rs_choice.proofs.Members.{contains-mem, mem-contains, mem-filter, mem_of-filter}
use Rattle.rs_choice.proofs.PermitLemmas.{is_permitted-known}

-- a test that finds something has found it
found_there : {X : Type 0} (test : X → Bool) (one : Option X) → option_map_or test one false ≡ true
    → (x : X) × (one ≡ Some x) × (test x ≡ true)
found_there test None passes = absurd (both_ways false refl passes)
found_there test (Some x) passes = (x, refl, passes)

-- a client gets no route of its own
another : (client number : ℕ) → not (client == number) ≡ true → client ≢ number
another client number differ same = both_ways (not (client == number)) (not_from_true (client == number) (eq-eqb client number same)) differ

-- what two tests by numbers say of the peers of these numbers
may_get-from : (plan : Plan) (prefix : IpPrefix) (client : ℕ) (sent : SentRoute)
    → accepts plan sent.peer prefix sent.attributes ≡ true → is_eligible plan sent.peer sent.attributes ≡ true →
    is_sent_to plan client sent ≡ true → MayGet plan prefix client sent
may_get-from plan prefix client sent accepted eligible permitted =
    let parts = and_parts (not (client == sent.peer)) (option_map_or
    (λ receiver. option_map_or (λ sender. is_permitted_from plan receiver sender sent.attributes)
    (slice_get plan.peers sent.peer) false) (slice_get plan.peers client) false) permitted in
    let receiver = found_there (λ (receiver : Peer). option_map_or
    (λ sender. is_permitted_from plan receiver sender sent.attributes) (slice_get plan.peers sent.peer) false)
    (slice_get plan.peers client) parts.1 in
    let sender = found_there (λ (sender : Peer). is_permitted_from plan receiver.0 sender sent.attributes)
    (slice_get plan.peers sent.peer) receiver.2 in
    record {
      receiver = receiver.0;
      sender = sender.0;
      receiver_is = receiver.1;
      sender_is = sender.1;
      of_another = another client sent.peer parts.0;
      accepted = accepted;
      eligible = sym (ap (λ one. option_map_or (λ sender. is_eligible_from plan.local sender sent.attributes) one false) sender.1)
          ∙ eligible;
      permitted = sender.2;
    }

eligible-from : (plan : Plan) (prefix : IpPrefix) (client : ℕ) (sent : SentRoute) → MayGet plan prefix client sent
    → is_eligible plan sent.peer sent.attributes ≡ true
eligible-from plan prefix client sent may =
    ap (λ one. option_map_or (λ sender. is_eligible_from plan.local sender sent.attributes) one false) may.sender_is ∙ may.eligible

sent-from : (plan : Plan) (prefix : IpPrefix) (client : ℕ) (sent : SentRoute) → MayGet plan prefix client sent
    → is_sent_to plan client sent ≡ true
sent-from plan prefix client sent may =
    is_permitted-known plan client sent.peer sent.attributes may.receiver may.sender may.receiver_is may.sender_is
    ∙ rw (ne_eqb client sent.peer may.of_another) may.permitted

got-from : (plan : Plan) (prefix : IpPrefix) (client : ℕ) (routes : List SentRoute) (route : SentRoute)
    → Contains (candidates_among plan client (accepted_among plan prefix routes)) route
    → Contains routes route × MayGet plan prefix client route
got-from plan prefix client routes route among =
    let accepted = accepted_among plan prefix routes in
    let outer = mem-filter (is_sent_to plan client) (eligible_among plan accepted) route
    (contains-mem (candidates_among plan client accepted) route among) in
    let inner = mem-filter (λ (sent : SentRoute). is_eligible plan sent.peer sent.attributes) accepted route outer.0 in
    let first = mem-filter (λ (sent : SentRoute). accepts plan sent.peer prefix sent.attributes) routes route inner.0 in
    (mem-contains routes route first.0, may_get-from plan prefix client route first.1 inner.1 outer.1)

among-from : (plan : Plan) (prefix : IpPrefix) (client : ℕ) (routes : List SentRoute) (route : SentRoute)
    → Contains routes route × MayGet plan prefix client route
    → Contains (candidates_among plan client (accepted_among plan prefix routes)) route
among-from plan prefix client routes route (there, may) =
    let accepted = accepted_among plan prefix routes in
    mem-contains (candidates_among plan client accepted) route (mem_of-filter (is_sent_to plan client) (eligible_among plan accepted) route
    (sent-from plan prefix client route may)
    (mem_of-filter (λ (sent : SentRoute). is_eligible plan sent.peer sent.attributes) accepted route
    (eligible-from plan prefix client route may)
    (mem_of-filter (λ (sent : SentRoute). accepts plan sent.peer prefix sent.attributes) routes route may.accepted
    (contains-mem routes route there))))

pub candidates-got : CandidatesMayBeGot
candidates-got = λ plan prefix client routes route. (got-from plan prefix client routes route, among-from plan prefix client routes route)

-- a policy that asks nothing takes in the route of any sender
taken : (policy : ImportPolicy) (own number : ℕ) (prefix : IpPrefix) (attributes : PathAttributes) (one : Option Peer)
    → policy ≡ no_import →
    not (is_some (option_and_then (λ (sender : Peer). filter_of policy own number sender.asn prefix attributes) one)) ≡ true
taken policy own number prefix attributes None is = refl
taken policy own number prefix attributes (Some sender) is =
    ap (λ (policy : ImportPolicy). not (is_some (filter_of policy own number sender.asn prefix attributes))) is

-- a test that passes all leaves all
all_left : {X : Type 0} (p : X → Bool) → ((x : X) → p x ≡ true) → (xs : List X) → filter p xs ≡ xs
all_left p all [] = refl
all_left p all (x ∷ xs) =
    ap (λ b. cond b (x ∷ filter p xs) (filter p xs)) (all x) ∙ ap (λ list. x ∷ list) (all_left p all xs)

pub nothing-asked : NothingAskedTakesAllIn
nothing-asked = λ plan prefix routes is.
    all_left (λ (sent : SentRoute). accepts plan sent.peer prefix sent.attributes)
    (λ sent. taken plan.import plan.local.asn sent.peer prefix sent.attributes (slice_get plan.peers sent.peer) is) routes
