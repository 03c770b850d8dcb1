-- What a plan without a fault says of a peer's name.
use Rattle.std.proofs.Common.{◌≡◌, ℕ, zero, suc, ◌+◌, ◌≤◌, Bool, true, false, not, ◌&&◌, ◌==◌, nat_le, List, [], ◌∷◌, ◌++◌, length, take}
use Rattle.std.proofs.Common.{slice_get, None, Some, refl, arith}
use Rattle.std.specs.List.{flat_map, enumerate_from, list_all}
use Rattle.std.proofs.lemmas.Grind.{common_steps}
use Rattle.rs_choice.specs.declared.fault.PlanFault.{PlanFault}
use Rattle.rs_choice.specs.declared.fault.PlanFault.TheVariants.{InvalidName, RepeatedName, RepeatedAddress, ZeroAs}
use Rattle.rs_choice.specs.declared.plan.Local.{Local}
use Rattle.rs_choice.specs.declared.plan.TheConstants.{MAX_NAME_LEN}
use Rattle.rs_choice.specs.Plan.{Peer, Test, plan_fault, whole_tests, peer_tests, name_tests, is_name_octet, has_name, has_address}
use Rattle.rs_update.specs.Fault.{first_fault}

-- no test of the front is true
first_fault-front : (front behind : List Test) → first_fault (front ++ behind) ≡ None → first_fault front ≡ None
first_fault-front [] behind none = refl
first_fault-front ((true, fault) ∷ front) behind none = none
first_fault-front ((false, fault) ∷ front) behind none = first_fault-front front behind none

-- no test behind the front is true
first_fault-behind : (front behind : List Test) → first_fault (front ++ behind) ≡ None → first_fault behind ≡ None
first_fault-behind [] behind none = none
first_fault-behind ((true, fault) ∷ front) behind none = cc
first_fault-behind ((false, fault) ∷ front) behind none = first_fault-behind front behind none

-- no test of one of the numbered peers is true
first_fault-member : (tests : ℕ × Peer → List Test) (from place : ℕ) (peers : List Peer) (peer : Peer) → slice_get peers place ≡ Some peer
    → first_fault (flat_map tests (enumerate_from from peers)) ≡ None → first_fault (tests (from + place, peer)) ≡ None
first_fault-member tests from place [] peer at none = cc
first_fault-member tests from zero (first ∷ peers) peer at none =
    let own = first_fault-front (tests (from, first)) (flat_map tests (enumerate_from (from + 1) peers)) none in
    let number : from + 0 ≡ from = omega arith in
    let is : peer ≡ first = cc in
    rw (number, is) own
first_fault-member tests from (suc place) (first ∷ peers) peer at none =
    let behind = first_fault-behind (tests (from, first)) (flat_map tests (enumerate_from (from + 1) peers)) none in
    let number : from + suc place ≡ from + 1 + place = omega arith in
    rw number (first_fault-member tests (from + 1) place peers peer at behind)

-- of three tests of a name that are all passed, the second is
passes_second : (one two three : Bool) (fault : PlanFault) (later : List Test)
    → first_fault ((not (one && (two && three)), fault) ∷ later) ≡ None → two ≡ true
passes_second true true three fault later none = refl
passes_second true false three fault later none = cc
passes_second false two three fault later none = cc

fits_from_test : (n m : ℕ) → nat_le n m ≡ true → n ≤ m
fits_from_test n m passes = grind (arith, common_steps)

-- the tests of a peer by itself bound its name
fits_from_tests : (earlier : List Peer) (number : ℕ) (peer : Peer) → first_fault (peer_tests earlier number peer) ≡ None
    → length peer.name ≤ MAX_NAME_LEN
fits_from_tests earlier number peer none =
    let later : List Test =
    (has_name earlier peer.name, RepeatedName number)
    ∷ (has_address earlier peer.address, RepeatedAddress number)
    ∷ (peer.asn == 0, ZeroAs (Some number)) ∷ [] in
    let is_short = nat_le (length peer.name) MAX_NAME_LEN in
    let passes = passes_second (not (length peer.name == 0)) is_short (list_all is_name_octet peer.name) (InvalidName number) later none in
    fits_from_test (length peer.name) MAX_NAME_LEN passes

-- a peer's name has at most 64 octets
pub name_fits : (local : Local) (peers : List Peer) (place : ℕ) (peer : Peer) → plan_fault local peers ≡ None
    → slice_get peers place ≡ Some peer → length peer.name ≤ MAX_NAME_LEN
name_fits local peers place peer faultless at =
    let tests : ℕ × Peer → List Test = λ (number, peer). peer_tests (take number peers) number peer in
    let names : ℕ × Peer → List Test = λ (number, peer). name_tests peers number peer in
    let each = flat_map tests (enumerate_from 0 peers) in
    let front = first_fault-front (whole_tests local peers ++ each) (flat_map names (enumerate_from 0 peers)) faultless in
    let own = first_fault-member tests 0 place peers peer at (first_fault-behind (whole_tests local peers) each front) in
    fits_from_tests (take (0 + place) peers) (0 + place) peer own
