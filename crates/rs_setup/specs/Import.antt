-- What a configuration asks of routes before they may be candidates (RFC 4271, section 9.1.1; the keys are our choice).
use Rattle.std.specs.Prelude.{◌≡◌, ◌≤◌, ◌⊎◌, ℕ, pos, Bool, true, false, ◌||◌, List, [], ◌∷◌, ◌++◌, codes, Option, None, Some}
use Rattle.std.specs.Prelude.{option_map, string_bytes}
use Rattle.std.specs.List.{flat_map, list_any}
use Rattle.std.specs.List.Sorted.{IsPermutation}
use Rattle.std.specs.Option.{is_some}
use Rattle.toml.specs.Data.{Data, integer, string, table, Members, get_member}
use Rattle.rs_import.specs.AsRanges.{is_in_ranges}
use Rattle.rs_import.specs.Import.{no_rules}
use Rattle.rs_types.specs.declared.as_range.AsRange.{AsRange}
use Rattle.rs_types.specs.declared.pattern.Pattern.{Pattern}
use Rattle.rs_import.specs.declared.policy.ImportRules.{ImportRules}
use Rattle.rs_import_files.specs.Texts.{IsAsRange, IsPattern}
use Rattle.rs_setup.specs.Values.{AreListed, HasOnly, IsBoolean, IsSomeNumber, IsSomeText, IsWholeNumber, MayHave}
use Rattle.rs_setup.specs.declared.import_setup.ImportSetup.{ImportSetup}
use Rattle.rs_setup.specs.declared.import_setup.PeerLists.{PeerLists}

-- the keys of import policy, and those of its bounds of prefix lengths
abbrev pub import_keys : List (List ℕ)
import_keys =
    codes "enforce_first_as" ∷ codes "max_as_path" ∷ codes "prefix_length" ∷ codes "refuse_as"
    ∷ codes "refuse_prefixes" ∷ codes "vrps" ∷ []

abbrev pub length_keys : List (List ℕ)
length_keys = codes "max" ∷ codes "min" ∷ []

-- a length of at most 32 bits
abbrev pub IsLength : Data → ℕ → Type 0
IsLength value len = (value ≡ integer (pos len)) × (len ≤ 32)

-- bounds of prefix lengths: the least is 0 and the most is 32 if they are not configured
pub record AreBoundsOf (keys : Members) (least most : ℕ) : Type 0 where
  pub known : HasOnly length_keys keys
  pub min : MayHave keys (codes "min") IsLength 0 least
  pub max : MayHave keys (codes "max") IsLength 32 most
  pub ascending : least ≤ most

abbrev pub AreBounds : Data → ℕ × ℕ → Type 0
AreBounds value (least, most) = (keys : Members) × (value ≡ table keys) × AreBoundsOf keys least most

-- a text that is a pattern of prefixes
abbrev pub IsPatternText : Data → Pattern → Type 0
IsPatternText value pattern = (text : List ℕ) × (value ≡ string text) × IsPattern text pattern

-- a range of AS numbers: one number, or a text
abbrev pub IsRange : Data → AsRange → Type 0
IsRange value range =
    (IsWholeNumber value range.first × (range.last ≡ range.first))
    ⊎ ((text : List ℕ) × (value ≡ string text) × IsAsRange text range)

-- a list of patterns, as a set: in any order
abbrev pub IsPrefixSet : Data → List Pattern → Type 0
IsPrefixSet value set =
    (patterns : List Pattern) × AreListed IsPatternText value patterns × IsPermutation patterns set

-- a list of ranges, as a set: it has the same AS numbers
abbrev pub HaveSameNumbers : List AsRange → List AsRange → Type 0
HaveSameNumbers ranges others = (asn : ℕ) → is_in_ranges others asn ≡ is_in_ranges ranges asn

abbrev pub IsAsSet : Data → List AsRange → Type 0
IsAsSet value set = (ranges : List AsRange) × AreListed IsRange value ranges × HaveSameNumbers ranges set

-- What the table of import policy asks of the routes of all peers, and the path of the VRP file. A key that is not there
-- asks nothing. The VRPs stand in their file.
pub record IsRulesOf (keys : Members) (rules : ImportRules) (path : Option (List ℕ)) : Type 0 where
  pub known : HasOnly import_keys keys
  pub prefix_length : MayHave keys (codes "prefix_length") AreBounds (0, 32) (rules.least_len, rules.most_len)
  pub refuse_prefixes : MayHave keys (codes "refuse_prefixes") IsPrefixSet [] rules.refuse_prefixes
  pub max_as_path : MayHave keys (codes "max_as_path") IsSomeNumber None rules.max_as_path
  pub refuse_as : MayHave keys (codes "refuse_as") IsAsSet [] rules.refuse_as
  pub enforce_first_as : MayHave keys (codes "enforce_first_as") IsBoolean false rules.enforce_first_as
  pub vrps : MayHave keys (codes "vrps") IsSomeText None path
  pub unread : rules.vrps ≡ None

abbrev pub IsRules : Data → ImportRules × Option (List ℕ) → Type 0
IsRules value (rules, path) = (keys : Members) × (value ≡ table keys) × IsRulesOf keys rules path

-- What a peer's table says of import policy: the paths of its lists, and whether anything is asked of the peer.
pub record AreListsOf (keys : Members) (lists : PeerLists) : Type 0 where
  pub prefix_list : MayHave keys (codes "prefix_list") IsSomeText None (option_map string_bytes lists.prefix_list)
  pub as_list : MayHave keys (codes "as_list") IsSomeText None (option_map string_bytes lists.as_list)
  pub is_asked : MayHave keys (codes "import") IsBoolean true lists.is_asked

abbrev pub AreLists : Data → PeerLists → Type 0
AreLists value lists = (keys : Members) × (value ≡ table keys) × AreListsOf keys lists

-- whether a peer has a list
abbrev pub has_list : PeerLists → Bool
has_list lists = is_some lists.prefix_list || is_some lists.as_list

-- What a configuration says of import policy. There is import policy if the configuration has its table, or if some
-- peer has a list.
pub record IsImportSetup (keys : Members) (import : ImportSetup) : Type 0 where
  pub rules : MayHave keys (codes "import") IsRules (no_rules, None) (import.rules, option_map string_bytes import.vrps)
  pub peers : MayHave keys (codes "peer") (AreListed AreLists) [] import.peers.items
  pub configured : import.is_configured
      ≡ (is_some (get_member (codes "import") keys) || list_any has_list import.peers.items)

-- the path that is there, as a list
abbrev pub path_in : Option (List ℕ) → List (List ℕ)
path_in None = []
path_in (Some path) = path ∷ []

-- the paths of a peer's lists
abbrev pub paths_of_peer : PeerLists → List (List ℕ)
paths_of_peer lists =
    path_in (option_map string_bytes lists.prefix_list) ++ path_in (option_map string_bytes lists.as_list)

-- the paths of all lists: of the VRP file first, then those of each peer
abbrev pub paths_of : ImportSetup → List (List ℕ)
paths_of import = path_in (option_map string_bytes import.vrps) ++ flat_map paths_of_peer import.peers.items
