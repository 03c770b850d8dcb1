-- TABLE_DUMP_V2: a table that a collector dumped (RFC 6396, section 4.3).
use Rattle.std.specs.Prelude.{◌≡◌, ℕ, ◌+◌, ◌/◌, ◌%◌, ◌^◌, ◌<◌, nat_lt, Bool, ◌==◌, if◌then◌else◌}
use Rattle.std.specs.Prelude.{List, [], ◌∷◌, ◌++◌, length, take, drop, Option, Some, None}
use Rattle.byteorder.specs.Endian.{big_bytes, big_number}
use Rattle.rs_update.specs.IpPrefix.{IpPrefix}
use Rattle.rs_update.specs.Prefix.{network_of, octets_for}
use Rattle.rs_start.specs.declared.index.IndexPeer.{IndexPeer}

-- ---- parts one after another

-- these parts stand one after another at the beginning of the octets, each as it is looked up, and then the rest
abbrev pub Leads : {A : Type 0} → (List ℕ → Option (A × List ℕ)) → List ℕ → List A → List ℕ → Type 0
Leads look octets [] rest = octets ≡ rest
Leads {A} look octets (part ∷ later) rest =
    (behind : List ℕ) × (look octets ≡ Some (part, behind)) × Leads look behind later rest

-- ---- the index (section 4.3.1)

-- A peer entry: Peer Type, Peer BGP ID, Peer IP Address, Peer AS. The lowest bit of Peer Type says that the address
-- is IPv6. The next bit says that the AS number has four octets. An IPv6 address isn't kept (our choice).
abbrev pub is_ipv6 : ℕ → Bool
is_ipv6 kind = kind % 2 == 1

abbrev pub is_as4 : ℕ → Bool
is_as4 kind = kind / 2 % 2 == 1

abbrev pub address_len : ℕ → ℕ
address_len kind = if is_ipv6 kind then 16 else 4

abbrev pub asn_len : ℕ → ℕ
asn_len kind = if is_as4 kind then 4 else 2

abbrev pub peer_of : ℕ → List ℕ → IndexPeer
peer_of kind octets = record {
  id = big_number 4 octets;
  address = if is_ipv6 kind then None else Some (big_number 4 (drop 4 octets));
  asn = big_number (asn_len kind) (drop (4 + address_len kind) octets);
}

-- the peer entry with which the octets begin, and the octets behind it
unfoldable pub peer_at : List ℕ → Option (IndexPeer × List ℕ)
peer_at [] = None
peer_at (kind ∷ octets) =
    if nat_lt (length octets) (4 + address_len kind + asn_len kind) then None
    else Some (peer_of kind octets, drop (4 + address_len kind + asn_len kind) octets)

-- the index: Collector BGP ID, View Name Length, View Name, Peer Count, and so many peer entries, and nothing behind
-- them
abbrev pub name_len : List ℕ → ℕ
name_len body = big_number 2 (drop 4 body)

abbrev pub view_name : List ℕ → List ℕ
view_name body = take (name_len body) (drop 6 body)

abbrev pub behind_name : List ℕ → List ℕ
behind_name body = drop (name_len body) (drop 6 body)

pub record IsIndex (body : List ℕ) (collector : ℕ) (name : List ℕ) (peers : List IndexPeer) : Type 0 where
  pub collector_is : collector ≡ big_number 4 body
  pub name_is : name ≡ view_name body
  pub count : length peers ≡ big_number 2 (behind_name body)
  pub entries : Leads peer_at (drop 2 (behind_name body)) peers []

-- ---- the routes of a prefix (sections 4.3.2 and 4.3.4)

-- a RIB entry: the peer by its place in the index, Originated Time, and path attributes
pub record TableEntry : Type 0 where
  pub peer : ℕ
  pub time : ℕ
  pub section : List ℕ

-- Peer Index, Originated Time, Attribute Length, and so many octets of path attributes
unfoldable pub entry_at : List ℕ → Option (TableEntry × List ℕ)
entry_at octets =
    if nat_lt (length octets) 8 then None
    else if nat_lt (length (drop 8 octets)) (big_number 2 (drop 6 octets)) then None
    else Some (
      record {
        peer = big_number 2 octets;
        time = big_number 4 (drop 2 octets);
        section = take (big_number 2 (drop 6 octets)) (drop 8 octets);
      },
      drop (big_number 2 (drop 6 octets)) (drop 8 octets),
    )

-- a RIB entry as it is spelled
abbrev pub entry_spelling : TableEntry → List ℕ
entry_spelling entry =
    big_bytes 2 entry.peer ++ big_bytes 4 entry.time ++ big_bytes 2 (length entry.section) ++ entry.section

pub record IsEntry (entry : TableEntry) : Type 0 where
  pub peer : entry.peer < 2 ^ 16
  pub time : entry.time < 2 ^ 32
  pub section : length entry.section < 2 ^ 16

-- looking up an entry in its spelling finds the entry
abbrev pub EntryIsRead : Type 0
EntryIsRead =
    (entry : TableEntry) (rest : List ℕ) → IsEntry entry → entry_at (entry_spelling entry ++ rest) ≡ Some (entry, rest)

-- Sequence Number, prefix, Entry Count; the prefix is spelled as in an UPDATE and has at most 32 bits
abbrev pub rib_prefix : List ℕ → IpPrefix
rib_prefix body =
    network_of (big_number 4 (take (octets_for (big_number 1 (drop 4 body))) (drop 5 body)))
    (big_number 1 (drop 4 body))

abbrev pub behind_prefix : List ℕ → List ℕ
behind_prefix body = drop (octets_for (big_number 1 (drop 4 body))) (drop 5 body)

-- a record of routes of a prefix: so many RIB entries, and nothing behind them
pub record IsRib (body : List ℕ) (prefix : IpPrefix) (entries : List TableEntry) : Type 0 where
  pub short : big_number 1 (drop 4 body) < 33
  pub prefix_is : prefix ≡ rib_prefix body
  pub count : length entries ≡ big_number 2 (behind_prefix body)
  pub all : Leads entry_at (drop 2 (behind_prefix body)) entries []
