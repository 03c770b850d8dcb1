-- What the octets of a file say (our choice; the forms are those of rpki-client, Routinator, bgpq4 and BIRD).
use Rattle.std.specs.Prelude.{ℕ, ◌==◌, Bool, MatchBool, List, drop, slice_index}
use Rattle.std.specs.Char.{is_ascii_whitespace}
use Rattle.std.specs.List.{prefix_len}
use Rattle.std.specs.Str.{IsUtf8}
use Rattle.csv.specs.Reading.{strip_bom}
use Rattle.rs_types.specs.declared.as_range.AsRange.{AsRange}
use Rattle.rs_types.specs.declared.pattern.Pattern.{Pattern}
use Rattle.rs_types.specs.declared.vrp.Vrp.{Vrp}
use Rattle.rs_import_files.specs.Csv.{IsCsvOfVrps}
use Rattle.rs_import_files.specs.JsonRows.{IsJsonOfPatterns, IsJsonOfRanges, IsJsonOfVrps}
use Rattle.rs_import_files.specs.Lines.{IsTextOfPatterns, IsTextOfRanges}

-- a text is JSON: its first character that is no blank is an opening brace
abbrev pub is_json : List ℕ → Bool
is_json text = slice_index (drop (prefix_len is_ascii_whitespace text) text) 0 == 123

-- what octets of UTF-8 say, as JSON or else in another form
abbrev pub Says : {E : Type 0} → (List ℕ → List E → Type 0) → (List ℕ → List E → Type 0) → List ℕ → List E → Type 0
Says IsJson IsOther text entries =
    IsUtf8 text × MatchBool (is_json text) (IsJson text entries) (IsOther text entries)

-- A VRP file: JSON, or else CSV. A byte order mark at the front of a file has no meaning.
abbrev pub IsVrpFile : List ℕ → List Vrp → Type 0
IsVrpFile octets vrps = Says IsJsonOfVrps IsCsvOfVrps (strip_bom octets) vrps

-- a list of prefixes: JSON, or else a pattern in each line; prefixes of IPv6 are passed over
abbrev pub IsPrefixList : List ℕ → List Pattern → Type 0
IsPrefixList octets patterns = Says IsJsonOfPatterns IsTextOfPatterns (strip_bom octets) patterns

-- a list of AS numbers: JSON, or else an AS number or a range of them in each line
abbrev pub IsAsList : List ℕ → List AsRange → Type 0
IsAsList octets ranges = Says IsJsonOfRanges IsTextOfRanges (strip_bom octets) ranges
