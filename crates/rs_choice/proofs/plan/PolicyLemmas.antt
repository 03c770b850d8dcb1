-- Refusals by name, as an exchange keeps them, and the policy at two known peers.
-- For `refusals`, `refused`, `refuses` and `is_refused` of exchange.rt, and `permits` and `permits_by_communities` of policy.rt.
use mathlib.Core.List.{map-map}
use Rattle.std.proofs.Common.{◌≡◌, ◌∙◌, sym, ap, ℕ, ◌<◌, Bool, true, false, ◌||◌, ◌≢◌, List}
use Rattle.std.proofs.Common.{length, map, get_or, Some, refl}
use Rattle.std.specs.Prelude.{slice_get, string_bytes, if◌then◌else◌}
use Rattle.std.specs.List.{list_any}
use Rattle.std.specs.Str.{bytes_eq}
use Rattle.std.specs.Option.{option_map}
use Rattle.std.proofs.lemmas.Option.{slice_get-map, get_or_from_slice_get, slice_get_read, slice_get_within}
use Rattle.std.proofs.lemmas.List.{length-map}
use Rattle.std.proofs.lemmas.Bool.{ne_eqb}
use Rattle.rs_types.specs.PathAttributes.{PathAttributes}
use Rattle.rs_choice.specs.declared.plan.PeerSpec.{PeerSpec}
use Rattle.rs_choice.specs.Naturality.{list_any-map}
use Rattle.rs_choice.specs.Checks.{refuses_spec}
use Rattle.rs_choice.specs.Plan.{Peer, Plan, peer_of}
use Rattle.rs_choice.specs.Refusal.{refuses, refusals_of, is_refused, refused_of, IsRefusal, IsRefusedSender}
use Rattle.rs_choice.specs.Policy.{is_permitted, permits_by_communities}
use Rattle.rs_choice.specs.PolicyCase.{first_case, permits_both}
use Rattle.rs_choice.proofs.Members.{some_at}
use Rattle.rs_choice.proofs.PermitLemmas.{is_permitted-known}

-- the row of a client says of each peer whether the client refuses it
pub row_of_client : {R : Type 0} (f : R → List Bool) (rows : List R) (peers : List Peer) (client : ℕ) (row : R) (one : Peer) →
    map f rows ≡ refusals_of peers → slice_get peers client ≡ Some one → row ≡ get_or rows client row → f row ≡ map (refuses one) peers
row_of_client f rows peers client row one agree at_one at_row =
    let counts : length rows ≡ length peers =
    sym (length-map rows f) ∙ ap length agree ∙ length-map peers (λ one. map (refuses one) peers) in
    let known = slice_get_within peers client one at_one in
    let read = slice_get_read rows (length peers) client row (sym counts) known at_row in
    let row_is : slice_get (map f rows) client ≡ Some (f row) = slice_get-map f rows client ∙ ap (option_map f) read in
    let said_is : slice_get (refusals_of peers) client ≡ Some (map (refuses one) peers) =
    slice_get-map (λ one. map (refuses one) peers) peers client ∙ ap (option_map (λ (one : Peer). map (refuses one) peers)) at_one in
    let same : Some (f row) ≡ Some (map (refuses one) peers) =
    sym row_is ∙ ap (λ (all : List (List Bool)). slice_get all client) agree ∙ said_is in
    cc

-- such a row has a place for each peer
pub length_of_row : {R : Type 0} (f : R → List Bool) (rows : List R) (peers : List Peer) (client : ℕ) (row : R) →
    map f rows ≡ refusals_of peers → client < length peers → row ≡ get_or rows client row → length (f row) ≡ length peers
length_of_row f rows peers client row agree known at_row =
    let one = some_at peers client known in
    ap length (row_of_client f rows peers client row one.0 agree one.1 at_row) ∙ length-map peers (refuses one.0)

-- and at each place it has the answer
pub answer_of_row : {R : Type 0} (f : R → List Bool) (rows : List R) (peers : List Peer) (client sender : ℕ) (row : R) (answer : Bool) →
    map f rows ≡ refusals_of peers → row ≡ get_or rows client row → answer ≡ get_or (f row) sender answer
    → IsRefusal peers client sender answer
answer_of_row f rows peers client sender row answer agree at_row at_answer one other at_one at_other =
    let row_is = row_of_client f rows peers client row one agree at_one at_row in
    let sender_known = slice_get_within peers sender other at_other in
    let at_sender : slice_get (map (refuses one) peers) sender ≡ Some (refuses one other) =
    slice_get-map (refuses one) peers sender ∙ ap (option_map (refuses one)) at_other in
    at_answer ∙ ap (λ (row : List Bool). get_or row sender answer) row_is
    ∙ get_or_from_slice_get (map (refuses one) peers) sender (refuses one other) answer at_sender

-- for another client that doesn't refuse the sender, the communities decide
pub is_permitted-not-refused : (plan : Plan) (client number : ℕ) (attributes : PathAttributes) (one : Peer) (refused answer : Bool) →
    slice_get plan.peers client ≡ Some one → number < length plan.peers → client ≢ number → IsRefusal plan.peers client number refused
    → refused ≡ false →
    answer ≡ permits_by_communities plan one.asn attributes → answer ≡ is_permitted plan client number attributes
is_permitted-not-refused plan client number attributes one refused answer at_one known differ refusal refuses_not at_answer =
    let other = some_at plan.peers number known in
    let says : refuses one other.0 ≡ false = sym (refusal one other.0 at_one other.1) ∙ refuses_not in
    at_answer ∙ sym (is_permitted-known plan client number attributes one other.0 at_one other.1
    ∙ rw (ne_eqb client number differ, says) refl)

refuses-map : (client sender : PeerSpec) → refuses (peer_of client) (peer_of sender) ≡ refuses_spec client sender
refuses-map client sender =
    list_any-map (λ name. string_bytes name) (λ name. bytes_eq name (string_bytes sender.name)) client.refuse_from.items

-- refusals by the peers as they are configured
pub refusals_of-map : (peers : List PeerSpec) → refusals_of (map peer_of peers) ≡ map (λ client. map (refuses_spec client) peers) peers
refusals_of-map peers =
    map-map (λ client. map (refuses client) (map peer_of peers)) peer_of peers
    ∙ (λ i. map (λ client. row client i) peers)
  where
    row : (client : PeerSpec) → map (refuses (peer_of client)) (map peer_of peers) ≡ map (refuses_spec client) peers
    row client =
        map-map (refuses (peer_of client)) peer_of peers
        ∙ (λ i. map (λ sender. refuses-map client sender i) peers)

refused-map : (peers : List PeerSpec) (sender : PeerSpec) →
    is_refused (map peer_of peers) (peer_of sender) ≡ list_any (λ client. refuses_spec client sender) peers
refused-map peers sender =
    list_any-map peer_of (λ client. refuses client (peer_of sender)) peers
    ∙ (λ i. list_any (λ client. refuses-map client sender i) peers)

-- and the senders that some client refuses
pub refused_of-map : (peers : List PeerSpec) →
    refused_of (map peer_of peers) ≡ map (λ sender. list_any (λ client. refuses_spec client sender) peers) peers
refused_of-map peers =
    map-map (is_refused (map peer_of peers)) peer_of peers
    ∙ (λ i. map (λ sender. refused-map peers sender i) peers)

-- at the number of a sender that list has the answer
pub answer_of_refused : (row : List Bool) (peers : List Peer) (number : ℕ) (answer : Bool) →
    row ≡ refused_of peers → answer ≡ get_or row number answer → IsRefusedSender peers number answer
answer_of_refused row peers number answer agree at_answer sender at_sender =
    let at_number : slice_get (refused_of peers) number ≡ Some (is_refused peers sender) =
    slice_get-map (is_refused peers) peers number ∙ ap (option_map (is_refused peers)) at_sender in
    at_answer ∙ ap (λ (row : List Bool). get_or row number answer) agree
    ∙ get_or_from_slice_get (refused_of peers) number (is_refused peers sender) answer at_number

-- the earlier of two cases permits a route as the first case does that either names
pub permits_both-first : (refuses permits all refuses' permits' all' : Bool) →
    permits_both (first_case refuses permits all) (first_case refuses' permits' all')
    ≡ (if refuses || refuses' then false else if permits || permits' then true else if all || all' then false else true)
permits_both-first true permits all refuses' permits' all' = refl
permits_both-first false true all true permits' all' = refl
permits_both-first false true all false true all' = refl
permits_both-first false true all false false true = refl
permits_both-first false true all false false false = refl
permits_both-first false false true true permits' all' = refl
permits_both-first false false true false true all' = refl
permits_both-first false false true false false true = refl
permits_both-first false false true false false false = refl
permits_both-first false false false true permits' all' = refl
permits_both-first false false false false true all' = refl
permits_both-first false false false false false true = refl
permits_both-first false false false false false false = refl
