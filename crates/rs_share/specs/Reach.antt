-- Whom a record concerns, among several peers.
use Rattle.std.specs.Prelude.{◌≡◌, ◌<◌, ◌+◌, ◌*◌, ◌^◌, ℕ, Bool, true, false, ◌==◌, List, length, Option, Some, slice_get}
use Rattle.std.specs.BTreeMap.{is_at}
use Rattle.std.specs.Map.{lookup}
use Rattle.std.specs.Option.{option_map}
use Rattle.std.specs.Ordering.{nat_cmp}
use Rattle.rs_types.specs.declared.peer_id.PeerId.{PeerId}
use Rattle.rs_share.specs.declared.directory.Whom.{Whom}
use Rattle.rs_share.specs.declared.directory.Whom.TheVariants.{Nobody, One, All}

-- the peer at a place is concerned
abbrev pub reaches : Whom → ℕ → Bool
reaches Nobody place = false
reaches (One at) place = at == place
reaches All place = true

-- the place is that of one of the peers
abbrev pub IsPlaceIn : List PeerId → Whom → Type 0
IsPlaceIn peers Nobody = Unit {0}
IsPlaceIn peers (One at) = at < length peers
IsPlaceIn peers All = Unit {0}

-- a number that no other peer has (our choice)
abbrev pub key_of : PeerId → ℕ
key_of peer = peer.address * 4294967296 + peer.asn

-- the place that stands at a key
abbrev pub place_at : List (ℕ × ℕ) → ℕ → Option ℕ
place_at entries key = lookup (is_at (nat_cmp key)) entries

-- address and AS number have four octets each
abbrev pub FitsFields : PeerId → Type 0
FitsFields peer = (peer.address < 2 ^ 32) × (peer.asn < 2 ^ 32)

-- each peer is found at its place, and nobody else is
pub record IsDirectory (peers : List PeerId) (at : ℕ → Option ℕ) : Type 0 where
  pub names : (key place : ℕ) → at key ≡ Some place → option_map key_of (slice_get peers place) ≡ Some key
  pub knows : (peer : PeerId) (place : ℕ) → slice_get peers place ≡ Some peer → at (key_of peer) ≡ Some place
  pub fit : (peer : PeerId) (place : ℕ) → slice_get peers place ≡ Some peer → FitsFields peer
