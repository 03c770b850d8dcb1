-- The first fault of a list of tests: of two lists in a row, and of the tests of one peer after another.
-- For checks.rt.
use Rattle.std.proofs.Common.{◌≡◌, ◌∙◌, sym, ap, refl, ℕ, ◌+◌, ◌<◌, Bool, true, false, List, [], ◌∷◌, ◌++◌, length, map, drop, take, get_or}
use Rattle.std.proofs.Common.{Some, None}
use Rattle.std.specs.List.{flat_map, enumerate_from, list_all}
use Rattle.std.proofs.lemmas.List.Folds.{list_all-map}
use Rattle.std.proofs.lemmas.List.{drop_more, drop-map, take-map}
use Rattle.std.specs.Prelude.{◌==◌, not, string_bytes}
use Rattle.std.specs.Str.{bytes_eq}
use Rattle.rs_choice.specs.declared.plan.PeerSpec.{PeerSpec}
use Rattle.rs_choice.specs.declared.fault.PlanFault.{PlanFault}
use Rattle.rs_choice.specs.declared.fault.PlanFault.TheVariants.{InvalidName, RepeatedName, RepeatedAddress, UnknownName, ZeroAs}
use Rattle.rs_choice.specs.Naturality.{list_any-map}
use Rattle.rs_choice.specs.Checks.{has_name_among, has_address_among}
use Rattle.rs_choice.specs.Plan.{Peer, Test, is_name, has_name, has_names, has_address, name_tests, peer_tests, peer_of}
use Rattle.rs_types.specs.FirstFault.{first_fault}

-- a fault in the first list is the first
pub first_fault-Some : (first later : List Test) (fault : PlanFault) → first_fault first ≡ Some fault
    → first_fault (first ++ later) ≡ Some fault
first_fault-Some [] later fault found = absurd (cc (found))
first_fault-Some ((true, one) ∷ first) later fault found = found
first_fault-Some ((false, one) ∷ first) later fault found = first_fault-Some first later fault found

-- where it has none, the first is that of the second
pub first_fault-None : (first later : List Test) → first_fault first ≡ None → first_fault (first ++ later) ≡ first_fault later
first_fault-None [] later none = refl
first_fault-None ((true, one) ∷ first) later none = absurd (cc (none))
first_fault-None ((false, one) ∷ first) later none = first_fault-None first later none

-- the tests of the peers from a number on
abbrev pub tests_from : (ℕ × Peer → List Test) → List PeerSpec → ℕ → List Test
tests_from tests peers number = flat_map tests (enumerate_from number (drop number (map peer_of peers)))

module _ (tests : ℕ × Peer → List Test) (peers : List PeerSpec) (number : ℕ) (peer : PeerSpec) (within : number < length peers)
    (is : peer ≡ get_or peers number peer)
    (before : first_fault (tests_from tests peers 0) ≡ first_fault (tests_from tests peers number)) where
  all_tests : first_fault (tests_from tests peers 0) ≡ first_fault (tests (number, peer_of peer) ++ tests_from tests peers (number + 1))
  all_tests =
      before ∙ ap (λ rest. first_fault (flat_map tests (enumerate_from number rest)))
      (drop-map peer_of number peers ∙ ap (map peer_of) (drop_more peers number peer within
      ∙ ap (λ one. one ∷ drop (number + 1) peers) (sym is))
      ∙ ap (λ rest. peer_of peer ∷ rest) (sym (drop-map peer_of (number + 1) peers)))

  -- the fault of one peer, where no earlier one has a fault, is the first of all
  pub first_fault-here : (fault : PlanFault) → first_fault (tests (number, peer_of peer)) ≡ Some fault
      → first_fault (tests_from tests peers 0) ≡ Some fault
  first_fault-here fault here = all_tests ∙ first_fault-Some (tests (number, peer_of peer)) (tests_from tests peers (number + 1)) fault here

  -- where it has none either, the first of all is later
  pub first_fault-later : first_fault (tests (number, peer_of peer)) ≡ None
      → first_fault (tests_from tests peers 0) ≡ first_fault (tests_from tests peers (number + 1))
  first_fault-later here = all_tests ∙ first_fault-None (tests (number, peer_of peer)) (tests_from tests peers (number + 1)) here

-- the tests of peers by their values are those of the peers as configured
pub has_name-map : (peers : List PeerSpec) (name : List ℕ) → has_name (map peer_of peers) name ≡ has_name_among peers name
has_name-map peers name = list_any-map peer_of (λ peer. bytes_eq peer.name name) peers

pub has_address-map : (peers : List PeerSpec) (address : ℕ) → has_address (map peer_of peers) address ≡ has_address_among peers address
has_address-map peers address = list_any-map peer_of (λ peer. peer.address == address) peers

-- the first fault of one peer, by the answers of its tests
pub peer_fault-is : (earlier : List PeerSpec) (number : ℕ) (peer : PeerSpec) (named repeated same : Bool) →
    named ≡ is_name (string_bytes peer.name) → repeated ≡ has_name_among earlier (string_bytes peer.name)
    → same ≡ has_address_among earlier peer.address →
    first_fault (peer_tests (map peer_of earlier) number (peer_of peer))
    ≡ first_fault ((not named, InvalidName number) ∷ (repeated, RepeatedName number) ∷ (same, RepeatedAddress number)
    ∷ (peer.asn == 0, ZeroAs (Some number)) ∷ [])
peer_fault-is earlier number peer named repeated same is_named is_repeated is_same =
    rw (is_named, is_repeated, is_same, ← has_name-map earlier (string_bytes peer.name), ← has_address-map earlier peer.address) refl

pub has_names-map : (peers : List PeerSpec) (client : PeerSpec) →
    has_names (map peer_of peers) (peer_of client).refuse_from
    ≡ list_all (λ name. has_name_among peers (string_bytes name)) client.refuse_from.items
has_names-map peers client =
    list_all-map (has_name (map peer_of peers)) (λ name. string_bytes name) client.refuse_from.items
    ∙ (λ i. list_all (λ name. has_name-map peers (string_bytes name) i) client.refuse_from.items)

-- the tests of each peer beside those before it, and of the names that it refuses
abbrev pub own_tests : List PeerSpec → ℕ × Peer → List Test
own_tests peers (number, peer) = peer_tests (take number (map peer_of peers)) number peer

abbrev pub refused_tests : List PeerSpec → ℕ × Peer → List Test
refused_tests peers (number, peer) = name_tests (map peer_of peers) number peer

-- their faults, by what the functions that test one peer answer
pub own_fault : (peers : List PeerSpec) (number : ℕ) (peer : Peer) →
    first_fault (own_tests peers (number, peer)) ≡ first_fault (peer_tests (map peer_of (take number peers)) number peer)
own_fault peers number peer = ap (λ earlier. first_fault (peer_tests earlier number peer)) (take-map peer_of number peers)

pub refused_fault : (peers : List PeerSpec) (number : ℕ) (peer : PeerSpec) (known : Bool) →
    known ≡ list_all (λ name. has_name_among peers (string_bytes name)) peer.refuse_from.items →
    first_fault (refused_tests peers (number, peer_of peer)) ≡ first_fault ((not known, UnknownName number) ∷ [])
refused_fault peers number peer known says =
    ap (λ known. first_fault ((not known, UnknownName number) ∷ [])) (has_names-map peers peer ∙ sym says)
