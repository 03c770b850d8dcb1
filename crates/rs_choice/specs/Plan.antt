-- The plan of an exchange, and its first fault (our choice: RFC 4271 leaves configuration to the implementation).
use Rattle.std.specs.Prelude.{◌≡◌, ℕ, ◌==◌, nat_lt, nat_le, Bool, not, ◌&&◌, ◌||◌, List, [], ◌∷◌, ◌++◌}
use Rattle.std.specs.Prelude.{length, map, take, Option, None, Some, string_bytes}
use Rattle.std.specs.List.{list_any, list_all, flat_map, enumerate_from}
use Rattle.std.specs.Char.{is_ascii_alphanumeric}
use Rattle.std.specs.Str.{bytes_eq}
use Rattle.rs_types.specs.FirstFault.{first_fault}
use Rattle.rs_types.specs.declared.peer_id.PeerId.{PeerId}
use Rattle.rs_import.specs.Import.{ImportPolicy}
use Rattle.rs_choice.specs.declared.plan.Local.{Local}
use Rattle.rs_choice.specs.declared.plan.PeerSpec.{PeerSpec}
use Rattle.rs_choice.specs.declared.plan.TheConstants.{MAX_PEERS, MAX_NAME_LEN, HYPHEN, UNDERSCORE}
use Rattle.rs_choice.specs.declared.fault.PlanFault.{PlanFault}
use Rattle.rs_choice.specs.declared.fault.PlanFault.TheVariants.{NoPeer, TooManyPeers, InvalidName, RepeatedName}
use Rattle.rs_choice.specs.declared.fault.PlanFault.TheVariants.{RepeatedAddress, ZeroAs, UnknownName, Memory}

-- a peer as a value; its names are octets
pub record Peer : Type 0 where
  pub name : List ℕ
  pub asn : ℕ
  pub address : ℕ
  pub id : ℕ
  pub preference : ℕ
  pub refuse_from : List (List ℕ)

-- The server and its peers, whether large communities count, and import policy. A peer's number is its place, from 0.
pub record Plan : Type 0 where
  pub local : Local
  pub peers : List Peer
  pub large_communities : Bool
  pub import : ImportPolicy

abbrev pub peer_of : PeerSpec → Peer
peer_of spec = record {
  name = string_bytes spec.name;
  asn = spec.asn;
  address = spec.address;
  id = spec.id;
  preference = spec.preference;
  refuse_from = map (λ name. string_bytes name) spec.refuse_from.items;
}

-- A recording identifies a peer by its address and its AS number (RFC 6396, section 4.4).
abbrev pub id_of : Peer → PeerId
id_of peer = record { address = peer.address; asn = peer.asn }

-- an octet that a name may have: a letter, a digit or one of two marks
abbrev pub is_name_octet : ℕ → Bool
is_name_octet octet = is_ascii_alphanumeric octet || (octet == HYPHEN || octet == UNDERSCORE)

-- a name is not empty, not too long, and has only such octets
abbrev pub is_name : List ℕ → Bool
is_name name = not (length name == 0) && (nat_le (length name) MAX_NAME_LEN && list_all is_name_octet name)

-- whether some peer has this name
abbrev pub has_name : List Peer → List ℕ → Bool
has_name peers name = list_any (λ peer. bytes_eq peer.name name) peers

-- whether each of these names is that of some peer
abbrev pub has_names : List Peer → List (List ℕ) → Bool
has_names peers names = list_all (λ name. has_name peers name) names

-- whether some peer has this address
abbrev pub has_address : List Peer → ℕ → Bool
has_address peers address = list_any (λ peer. peer.address == address) peers

-- a test of a plan, and the fault that the plan has if the test is true
abbrev pub Test : Type 0
Test = Bool × PlanFault

-- the tests of the whole plan
abbrev pub whole_tests : Local → List Peer → List Test
whole_tests local peers =
    (length peers == 0, NoPeer)
    ∷ (nat_lt MAX_PEERS (length peers), TooManyPeers)
    ∷ (local.asn == 0, ZeroAs None) ∷ []

-- the tests of one peer, by itself and against the peers before it
abbrev pub peer_tests : List Peer → ℕ → Peer → List Test
peer_tests earlier number peer =
    (not (is_name peer.name), InvalidName number)
    ∷ (has_name earlier peer.name, RepeatedName number)
    ∷ (has_address earlier peer.address, RepeatedAddress number)
    ∷ (peer.asn == 0, ZeroAs (Some number)) ∷ []

-- the tests of the names in a peer's list of refused peers: each must be the name of some peer
abbrev pub name_tests : List Peer → ℕ → Peer → List Test
name_tests peers number peer = (not (has_names peers peer.refuse_from), UnknownName number) ∷ []

-- the tests of all peers, one peer after another
abbrev pub peers_tests : List Peer → List Test
peers_tests peers = flat_map (λ (number, peer). peer_tests (take number peers) number peer) (enumerate_from 0 peers)

-- the tests of the lists of refused peers, one peer after another
abbrev pub names_tests : List Peer → List Test
names_tests peers = flat_map (λ (number, peer). name_tests peers number peer) (enumerate_from 0 peers)

-- all tests of a plan, in their order
abbrev pub plan_tests : Local → List Peer → List Test
plan_tests local peers = (whole_tests local peers ++ peers_tests peers) ++ names_tests peers

-- the first fault of a plan
abbrev pub plan_fault : Local → List Peer → Option PlanFault
plan_fault local peers = first_fault (plan_tests local peers)

-- a plan is refused for its first fault; a plan without fault is refused only if memory was refused
abbrev pub Refuses : PlanFault → Option PlanFault → Type 0
Refuses fault None = fault ≡ Memory
Refuses fault (Some first) = fault ≡ first
