-- The PEER_INDEX_TABLE record: the peers to which the later records refer by their places (RFC 6396, section 4.3.1).
use Rattle.std.specs.Prelude.{ℕ, List, [], ◌∷◌, ◌++◌, length, slice_get}
use Rattle.std.specs.Option.{option_map_or}
use Rattle.std.specs.List.{flat_map}
use Rattle.rs_mrt.specs.Endian.{big_bytes}
use Rattle.rs_mrt.specs.Record.{MrtRecord}
use Rattle.rs_choice.specs.Plan.{Plan, Peer}
use Rattle.rs_records.specs.DumpType.{TABLE_DUMP_V2}

-- the Subtype
abbrev pub PEER_INDEX_TABLE : ℕ
PEER_INDEX_TABLE = 1

-- the Peer Type of a peer with an IPv4 address and an AS number of four octets
abbrev pub IPV4_AS4 : ℕ
IPV4_AS4 = 2

-- a peer entry: Peer Type, Peer BGP ID, Peer IP Address, Peer AS
abbrev pub peer_entry : Peer → List ℕ
peer_entry peer = IPV4_AS4 ∷ (big_bytes 4 peer.id ++ big_bytes 4 peer.address ++ big_bytes 4 peer.asn)

-- the View Name: the client's name (our choice)
abbrev pub view_name : Plan → ℕ → List ℕ
view_name plan client = option_map_or (λ peer. peer.name) (slice_get plan.peers client) []

-- the body: Collector BGP ID, View Name Length, View Name, Peer Count, and an entry for each peer in order
unfoldable pub peer_index : Plan → ℕ → List ℕ
peer_index plan client =
    big_bytes 4 plan.local.id
    ++ big_bytes 2 (length (view_name plan client))
    ++ view_name plan client
    ++ big_bytes 2 (length plan.peers)
    ++ flat_map peer_entry plan.peers

-- the record of the client's peers
abbrev pub index_record : Plan → ℕ → ℕ → MrtRecord
index_record plan client time =
    record { time = time; kind = TABLE_DUMP_V2; subtype = PEER_INDEX_TABLE; body = peer_index plan client }
