-- Laws of the faults of a plan: for `a_plan_is_refused_by_its_first_fault` and `peers_have_addresses_of_their_own` of laws.rt.
use Rattle.std.proofs.Common.{◌≡◌, ◌∙◌, sym, ap, refl, ℕ, suc, zero, ◌<◌, ◌==◌, arith, true, false, inl, inr, List, [], ◌∷◌, ◌++◌, take}
use Rattle.std.proofs.Common.{Option, Some, None}
use Rattle.std.specs.Prelude.{slice_get, MatchOption}
use Rattle.std.specs.List.{flat_map, enumerate_from}
use Rattle.std.proofs.lemmas.Bool.{cases_order}
use Rattle.std.proofs.lemmas.Bool.Decides.{nat_tests}
use Rattle.std.proofs.lemmas.List.{get_or-take, length-take}
use Rattle.std.proofs.lemmas.Option.{get_or_from_slice_get, slice_get_within}
use Rattle.rs_choice.specs.declared.plan.Local.{Local}
use Rattle.rs_choice.specs.declared.fault.PlanFault.{PlanFault}
use Rattle.rs_choice.specs.declared.fault.PlanFault.TheVariants.{RepeatedAddress}
use Rattle.rs_choice.specs.Laws.{FaultIsFirst, PeersHaveOwnAddresses}
use Rattle.rs_choice.specs.Plan.{Peer, Test, has_address, peer_tests, peers_tests, names_tests, whole_tests, plan_tests, plan_fault}
use Rattle.rs_types.specs.FirstFault.{first_fault}
use Rattle.rs_choice.proofs.Members.{Mem, contains-mem, list_any-none, mem-append_left, mem-append_right}
use Rattle.rs_choice.proofs.decision.PlaceLemmas.{enumerate-at}

later_match : (o : Option PlanFault) (P P' : Type 0) (Q Q' : PlanFault → Type 0) → (P → P') → ((fault : PlanFault) → Q fault → Q' fault)
    → MatchOption o P Q → MatchOption o P' Q'
later_match None P P' Q Q' p q h = p h
later_match (Some fault) P P' Q Q' p q h = q fault h

-- a fault is that of the first test that is true
pub fault_is_first : FaultIsFirst
fault_is_first [] = λ k test at. absurd (cc (at))
fault_is_first ((true, fault) ∷ later) = (0, refl, λ k test below at. absurd (omega arith))
fault_is_first ((false, fault) ∷ later) =
    later_match (first_fault later)
    ((k : ℕ) (test : Test) → slice_get later k ≡ Some test → test.0 ≡ false)
    ((k : ℕ) (test : Test) → slice_get ((false, fault) ∷ later) k ≡ Some test → test.0 ≡ false)
    (λ found. (place : ℕ) × (slice_get later place ≡ Some (true, found))
    × ((k : ℕ) (test : Test) → k < place → slice_get later k ≡ Some test → test.0 ≡ false))
    (λ found. (place : ℕ) × (slice_get ((false, fault) ∷ later) place ≡ Some (true, found))
    × ((k : ℕ) (test : Test) → k < place → slice_get ((false, fault) ∷ later) k ≡ Some test → test.0 ≡ false))
    (λ none k. shift k none)
    (λ found h. (suc h.0, h.1, λ k test below at. before k test h.0 below h.2 at))
    (fault_is_first later)
  where
    shift : (k : ℕ) → ((k : ℕ) (test : Test) → slice_get later k ≡ Some test → test.0 ≡ false) → (test : Test) →
        slice_get ((false, fault) ∷ later) k ≡ Some test → test.0 ≡ false
    shift zero none test at = let e : (false, fault) ≡ test = cc (at) in ap (λ (t : Test). t.0) (sym e)
    shift (suc k) none test at = none k test at

    before : (k : ℕ) (test : Test) (place : ℕ) → k < suc place
        → ((k : ℕ) (test : Test) → k < place → slice_get later k ≡ Some test → test.0 ≡ false) →
        slice_get ((false, fault) ∷ later) k ≡ Some test → test.0 ≡ false
    before zero test place below none at = let e : (false, fault) ≡ test = cc (at) in ap (λ (t : Test). t.0) (sym e)
    before (suc k) test place below none at = none k test (omega arith) at

-- without a fault, each test is false
all_false : (tests : List Test) (test : Test) → first_fault tests ≡ None → Mem tests test → test.0 ≡ false
all_false [] test none h = absurd h
all_false ((true, fault) ∷ later) test none h = absurd (cc (none))
all_false ((false, fault) ∷ later) test none (inl same) = ap (λ (t : Test). t.0) (sym same)
all_false ((false, fault) ∷ later) test none (inr h) = all_false later test none h

mem-flat_map : {A B : Type 0} (f : A → List B) (xs : List A) (x : A) (y : B) → Mem xs x → Mem (f x) y → Mem (flat_map f xs) y
mem-flat_map f [] x y h k = absurd h
mem-flat_map f (z ∷ xs) x y (inl same) k = mem-append_left (f z) (flat_map f xs) y (rw same k)
mem-flat_map f (z ∷ xs) x y (inr h) k = mem-append_right (f z) (flat_map f xs) y (mem-flat_map f xs x y h k)

slice_get-before : {A : Type 0} (n : ℕ) (xs : List A) (k : ℕ) (x : A) → k < n → slice_get xs k ≡ Some x → Mem (take n xs) x
slice_get-before n xs k x below at =
    contains-mem (take n xs) x
    (k, omega (arith, below, slice_get_within xs k x at, length-take n xs), get_or-take n xs k x below ∙ get_or_from_slice_get xs k x x at)

-- a later peer has another address
later_address : (local : Local) (peers : List Peer) → plan_fault local peers ≡ None → (i j : ℕ) (one other : Peer) → i < j →
    slice_get peers i ≡ Some one → slice_get peers j ≡ Some other → one.address ≡ other.address → ⊥
later_address local peers none i j one other below at_one at_other same =
    let tests : ℕ × Peer → List Test = λ (number, peer). peer_tests (take number peers) number peer in
    let test : Test = (has_address (take j peers) other.address, RepeatedAddress j) in
    let numbered = enumerate-at peers j other at_other in
    let in_peers : Mem (peers_tests peers) test =
    mem-flat_map tests (enumerate_from 0 peers) (j, other) test numbered (inr (inr (inl refl))) in
    let in_all : Mem (plan_tests local peers) test =
    mem-append_left (whole_tests local peers ++ peers_tests peers) (names_tests peers) test
    (mem-append_right (whole_tests local peers) (peers_tests peers) test in_peers) in
    let fails : has_address (take j peers) other.address ≡ false = all_false (plan_tests local peers) test none in_all in
    let differs : (one.address == other.address) ≡ false =
    list_any-none (λ peer. peer.address == other.address) (take j peers) one fails (slice_get-before j peers i one below at_one) in
    absurd (grind (arith, nat_tests))

pub own_addresses : PeersHaveOwnAddresses
own_addresses local peers none i j one other at_one at_other same =
    elim (cases_order i j) [
      | inl equal ↦ equal
      | inr differ ↦ elim differ [
        | inl below ↦ absurd (later_address local peers none i j one other below at_one at_other same)
        | inr above ↦ absurd (later_address local peers none j i other one above at_other at_one (sym same))
      ]
    ]
