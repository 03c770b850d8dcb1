-- A RIB_IPV4_UNICAST record: the route of one prefix (RFC 6396, sections 4.3.2 and 4.3.4).
use Rattle.std.specs.Prelude.{ℕ, List, ◌++◌, length}
use Rattle.rs_mrt.specs.Endian.{big_bytes}
use Rattle.rs_mrt.specs.Record.{MrtRecord}
use Rattle.rs_choice.specs.Decision.{SentRoute}
use Rattle.rs_update.specs.IpPrefix.{IpPrefix}
use Rattle.rs_update.specs.Prefix.{spelled_prefix}
use Rattle.rs_update.specs.Spelling.{written}
use Rattle.rs_records.specs.DumpType.{TABLE_DUMP_V2}

-- the Subtype
abbrev pub RIB_IPV4_UNICAST : ℕ
RIB_IPV4_UNICAST = 2

-- a RIB entry: Peer Index, Originated Time, Attribute Length, path attributes with AS numbers of four octets
abbrev pub rib_entry : SentRoute → List ℕ
rib_entry route =
    big_bytes 2 route.peer
    ++ big_bytes 4 route.time
    ++ big_bytes 2 (length (written route.attributes))
    ++ written route.attributes

-- the body: Sequence Number, prefix, Entry Count, which is 1, and the entry
abbrev pub rib_ipv4_unicast : ℕ → IpPrefix → SentRoute → List ℕ
rib_ipv4_unicast sequence prefix route =
    big_bytes 4 sequence ++ spelled_prefix prefix ++ big_bytes 2 1 ++ rib_entry route

-- the record
abbrev pub rib_record : ℕ → ℕ → IpPrefix → SentRoute → MrtRecord
rib_record time sequence prefix route =
    record {
      time = time;
      kind = TABLE_DUMP_V2;
      subtype = RIB_IPV4_UNICAST;
      body = rib_ipv4_unicast sequence prefix route;
    }
