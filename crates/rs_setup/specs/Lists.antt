-- Import policy by a configuration and by the octets of its lists (our choice; RFC 6811 for VRPs).
use Rattle.std.specs.Prelude.{◌≡◌, MatchBool, ℕ, List, Option, None, Some, IsSomeAnd, option_map, string_bytes}
use Rattle.std.specs.List.{AllZip}
use Rattle.std.specs.List.Sorted.{IsPermutation}
use Rattle.rs_import.specs.Import.{ImportPolicy, PeerImport, no_import}
use Rattle.rs_types.specs.declared.as_range.AsRange.{AsRange}
use Rattle.rs_types.specs.declared.pattern.Pattern.{Pattern}
use Rattle.rs_types.specs.declared.vrp.Vrp.{Vrp}
use Rattle.rs_import_files.specs.Files.{IsAsList, IsPrefixList, IsVrpFile}
use Rattle.rs_setup.specs.Import.{HaveSameNumbers}
use Rattle.rs_setup.specs.declared.import_setup.ImportSetup.{ImportSetup}
use Rattle.rs_setup.specs.declared.import_setup.PeerLists.{PeerLists}

-- which octets the file at a path has
abbrev pub Holding : Type 1
Holding = List ℕ → List ℕ → Type 0

-- what the octets of a VRP file say, in any order
abbrev pub SaysVrps : List ℕ → List Vrp → Type 0
SaysVrps octets table = (vrps : List Vrp) × IsVrpFile octets vrps × IsPermutation vrps table

-- the same of a list of prefixes; below, of a list of AS numbers: the same numbers
abbrev pub SaysPatterns : List ℕ → List Pattern → Type 0
SaysPatterns octets set = (patterns : List Pattern) × IsPrefixList octets patterns × IsPermutation patterns set

abbrev pub SaysNumbers : List ℕ → List AsRange → Type 0
SaysNumbers octets set = (ranges : List AsRange) × IsAsList octets ranges × HaveSameNumbers ranges set

-- the file at a path says this
abbrev pub FileSays : {S : Type 0} → Holding → (List ℕ → S → Type 0) → List ℕ → S → Type 0
FileSays Holds Says path set = (octets : List ℕ) × Holds path octets × Says octets set

-- what the file at a path says, if a path is named
abbrev pub MaySay : {S : Type 0} → Holding → (List ℕ → S → Type 0) → Option (List ℕ) → Option S → Type 0
MaySay Holds Says None set = set ≡ None
MaySay Holds Says (Some path) set = IsSomeAnd set (FileSays Holds Says path)

-- What is asked of a peer: its own lists count, and no other peer's.
pub record IsPeerImport (Holds : Holding) (lists : PeerLists) (peer : PeerImport) : Type 0 where
  pub is_asked : peer.is_asked ≡ lists.is_asked
  pub prefix_list : MaySay Holds SaysPatterns (option_map string_bytes lists.prefix_list) peer.prefix_list
  pub as_list : MaySay Holds SaysNumbers (option_map string_bytes lists.as_list) peer.as_list

-- The rules of the configuration with the VRPs of their file, and what is asked of each peer.
pub record IsConfigured (Holds : Holding) (import : ImportSetup) (policy : ImportPolicy) : Type 0 where
  pub rules : policy.rules ≡ record import.rules { vrps = policy.rules.vrps }
  pub vrps : MaySay Holds SaysVrps (option_map string_bytes import.vrps) policy.rules.vrps
  pub peers : AllZip (IsPeerImport Holds) import.peers.items policy.peers

-- import policy, if it is configured; else it asks nothing
abbrev pub IsPolicy : Holding → ImportSetup → ImportPolicy → Type 0
IsPolicy Holds import policy = MatchBool import.is_configured (IsConfigured Holds import policy) (policy ≡ no_import)
