-- VRPs and lists as JSON, in the forms of rpki-client, Routinator and bgpq4 (RFC 8259; RFC 6811, section 2: VRPs).
use Rattle.std.specs.Prelude.{◌≡◌, ◌≤◌, ◌⊎◌, ⊤, ℕ, Bool, true, false, not, List, [], ◌++◌, codes}
use Rattle.std.specs.Prelude.{Option, None, Some, IsSomeAnd}
use Rattle.std.specs.Prelude.{MatchOption, if◌then◌else◌, option_and_then}
use Rattle.std.specs.List.{AllZip, filter}
use Rattle.std.specs.Option.{is_some, option_map, unwrap_or}
use Rattle.json.specs.Json.{Json, null, boolean, number, string, array, object, Members, no_members, member, document}
use Rattle.json.specs.Find.{as_str, get}
use Rattle.json.specs.Value.{items_of}
use Rattle.rs_types.specs.declared.as_range.AsRange.{AsRange}
use Rattle.rs_types.specs.declared.pattern.Pattern.{Pattern}
use Rattle.rs_types.specs.declared.vrp.Vrp.{Vrp}
use Rattle.rs_import_files.specs.Texts.{AreBounds, IsAsNumber, IsLength, IsNumber, IsPrefixText, has_colon}

-- a value is an AS number: a number, or a text with or without "AS" before it
abbrev pub IsAsValue : Json → ℕ → Type 0
IsAsValue null asn = ⊥
IsAsValue (boolean b) asn = ⊥
IsAsValue (number digits) asn = IsNumber digits asn
IsAsValue (string text) asn = IsAsNumber text asn
IsAsValue (array items) asn = ⊥
IsAsValue (object ms) asn = ⊥

-- a value is a length of at most 32 bits
abbrev pub IsLengthValue : Json → ℕ → Type 0
IsLengthValue value len = (digits : List ℕ) × (value ≡ number digits) × IsLength digits len

-- the text at a key of a row
abbrev pub text_at : List ℕ → Json → Option (List ℕ)
text_at key row = option_and_then as_str (get key row)

-- a row counts: its prefix is none of IPv6
abbrev pub counts : Json → Bool
counts row = not (unwrap_or (option_map has_colon (text_at (codes "prefix") row)) false)

-- A row is a VRP: its AS number, its prefix and its maximum length, which isn't below the prefix's own. Other members
-- have no meaning.
abbrev pub IsVrpRow : Json → Vrp → Type 0
IsVrpRow row vrp =
    IsSomeAnd (get (codes "asn") row) (λ value. IsAsValue value vrp.asn)
    × IsSomeAnd (text_at (codes "prefix") row) (λ text. IsPrefixText text vrp.prefix)
    × IsSomeAnd (get (codes "maxLength") row) (λ value. IsLengthValue value vrp.max_len)
    × (vrp.prefix.len ≤ vrp.max_len)

-- VRPs are the rows that count, one by one
abbrev pub AreVrpRows : List Json → List Vrp → Type 0
AreVrpRows rows vrps = AllZip IsVrpRow (filter counts rows) vrps

-- a value is a list of rows, which stand for these entries
abbrev pub IsListOf : {E : Type 0} → (List Json → List E → Type 0) → Json → List E → Type 0
IsListOf AreRows value entries = (rows : List Json) × (value ≡ array (items_of rows)) × AreRows rows entries

-- What a JSON text of VRPs says: its "roas" are a list of rows, of which those that count are the VRPs.
abbrev pub IsJsonOfVrps : List ℕ → List Vrp → Type 0
IsJsonOfVrps text vrps =
    IsSomeAnd (document text) (λ file. IsSomeAnd (get (codes "roas") file) (λ roas. IsListOf AreVrpRows roas vrps))

-- a bound at a key that may be there, or the default
abbrev pub IsBound : Option Json → ℕ → ℕ → Type 0
IsBound None default len = len ≡ default
IsBound (Some value) default len = IsLengthValue value len

-- a row has a bound
abbrev pub has_bound : List ℕ → Json → Bool
has_bound key row = is_some (get key row)

-- "exact" may be there: it is true where there is no bound, or it is false
abbrev pub IsExactLawful : Json → Type 0
IsExactLawful row =
    MatchOption (get (codes "exact") row) ⊤ (λ value. (value ≡ boolean false) ⊎ ((value ≡ boolean true)
    × (has_bound (codes "greater-equal") row ≡ false)
    × (has_bound (codes "less-equal") row ≡ false)))

-- A row is a pattern. The least length is "greater-equal", or else the prefix's own. The most is "less-equal", or else
-- 32 where there is a least, or else the prefix's own.
abbrev pub IsPatternRow : Json → Pattern → Type 0
IsPatternRow row pattern =
    IsSomeAnd (text_at (codes "prefix") row) (λ text. IsPrefixText text pattern.prefix)
    × IsBound (get (codes "greater-equal") row) pattern.prefix.len pattern.least
    × IsBound (get (codes "less-equal") row)
    (if has_bound (codes "greater-equal") row then 32 else pattern.prefix.len) pattern.most
    × AreBounds pattern.prefix.len pattern.least pattern.most
    × IsExactLawful row

-- patterns are the rows that count, one by one
abbrev pub ArePatternRows : List Json → List Pattern → Type 0
ArePatternRows rows patterns = AllZip IsPatternRow (filter counts rows) patterns

-- a row is a range of one AS number
abbrev pub IsRangeRow : Json → AsRange → Type 0
IsRangeRow row range = IsAsValue row range.first × (range.last ≡ range.first)

-- each member of an object is a list, and these are the rows of all of them
abbrev pub ListsHave : Members → List Json → Type 0
ListsHave no_members rows = rows ≡ []
ListsHave (member key value later) rows =
    (front back : List Json) × (rows ≡ front ++ back) × (value ≡ array (items_of front)) × ListsHave later back

-- ranges are all rows, one by one
abbrev pub AreRangeRows : List Json → List AsRange → Type 0
AreRangeRows rows ranges = AllZip IsRangeRow rows ranges

-- members of an object are lists, whose rows stand for these entries
abbrev pub AreListsOf : {E : Type 0} → (List Json → List E → Type 0) → Members → List E → Type 0
AreListsOf AreRows members entries = (rows : List Json) × ListsHave members rows × AreRows rows entries

-- a JSON text is an object of lists, whose rows stand for these entries
abbrev pub IsJsonOf : {E : Type 0} → (List Json → List E → Type 0) → List ℕ → List E → Type 0
IsJsonOf AreRows text entries =
    (members : Members) × (document text ≡ Some (object members)) × AreListsOf AreRows members entries

-- What a JSON text of patterns says: the rows that count.
abbrev pub IsJsonOfPatterns : List ℕ → List Pattern → Type 0
IsJsonOfPatterns text patterns = IsJsonOf ArePatternRows text patterns

-- What a JSON text of AS numbers says: all rows.
abbrev pub IsJsonOfRanges : List ℕ → List AsRange → Type 0
IsJsonOfRanges text ranges = IsJsonOf AreRangeRows text ranges
