-- Peer entries, one after another.
use Rattle.std.proofs.Common.{◌≡◌, ℕ, zero, suc, ◌+◌, ◌*◌, ◌≤◌, ◌∙◌, sym, length-append, lit≤, List, [], ◌∷◌, ◌++◌, length, take, slice_get}
use Rattle.std.proofs.Common.{Option, None, Some, refl, ap, arith}
use Rattle.std.specs.List.{flat_map}
use Rattle.std.specs.Option.{option_map_or}
use Rattle.std.proofs.lemmas.List.{flat_map_more}
use Rattle.rs_mrt.specs.Endian.{big_bytes}
use Rattle.rs_choice.specs.declared.plan.TheConstants.{MAX_NAME_LEN}
use Rattle.rs_choice.specs.Plan.{Plan, Peer, plan_fault}
use Rattle.rs_records.specs.declared.peer_index.TheConstants.{PEER_ENTRY_LEN}
use Rattle.rs_records.specs.PeerIndex.{peer_entry, view_name, peer_index}
use Rattle.rs_records.proofs.PlanLemmas.{name_fits}

-- the members before a place, and the one there
pub take-get : {X : Type 0} (xs : List X) (place : ℕ) (x : X) → slice_get xs place ≡ Some x → take (place + 1) xs ≡ take place xs ++ x ∷ []
take-get [] place x at = cc
take-get (first ∷ xs) zero x at = cc
take-get (first ∷ xs) (suc place) x at =
    let same : suc place + 1 ≡ suc (place + 1) = omega arith in
    rw same (ap (λ more. first ∷ more) (take-get xs place x at))

-- each entry has as many octets
pub length-peer_entries : (peers : List Peer) → length (flat_map peer_entry peers) ≡ PEER_ENTRY_LEN * length peers
length-peer_entries [] = refl
length-peer_entries (peer ∷ peers) = omega (arith, length-peer_entries peers)

-- the entries before a place, and the one there
pub peer_entries-more : (peers : List Peer) (place : ℕ) (peer : Peer) → slice_get peers place ≡ Some peer
    → flat_map peer_entry (take place peers) ++ peer_entry peer ≡ flat_map peer_entry (take (place + 1) peers)
peer_entries-more peers place peer at =
    flat_map_more peer_entry [] (take place peers) peer ∙ ap (λ first. flat_map peer_entry first) (sym (take-get peers place peer at))

-- the name at a place, if there is one, has at most 64 octets
name_at_fits : (plan : Plan) (client : ℕ) (at : Option Peer) → plan_fault plan.local plan.peers ≡ None → slice_get plan.peers client ≡ at
    → length (option_map_or (λ (peer : Peer). peer.name) at []) ≤ MAX_NAME_LEN
name_at_fits plan client None faultless at = lit≤ tt
name_at_fits plan client (Some peer) faultless at = name_fits plan.local plan.peers client peer faultless at

pub view_name_fits : (plan : Plan) (client : ℕ) → plan_fault plan.local plan.peers ≡ None → length (view_name plan client) ≤ MAX_NAME_LEN
view_name_fits plan client faultless = name_at_fits plan client (slice_get plan.peers client) faultless refl

pub length_peer_index : (plan : Plan) (client : ℕ) → length (peer_index plan client) ≡ 8 + length (view_name plan client)
    + PEER_ENTRY_LEN * length plan.peers
unfolding peer_index
length_peer_index plan client =
    let name = view_name plan client in
    let entries = flat_map peer_entry plan.peers in
    let count = big_bytes 2 (length plan.peers) in
    omega (arith, length-append name count, length-append (name ++ count) entries, length-peer_entries plan.peers)

-- how many octets the body has, and that those of its name fit their count
pub ruleset body_sizes = (view_name_fits, length_peer_index)
