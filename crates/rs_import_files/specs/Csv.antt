-- VRPs as records of CSV, in the form of rpki-client and Routinator (RFC 4180; RFC 6811, section 2, for a VRP).
use Rattle.std.specs.Prelude.{◌≡◌, ◌≤◌, ◌⊎◌, ℕ, Bool, false, not, List, [], ◌∷◌, codes, Some, IsSomeAnd}
use Rattle.std.specs.List.{All, AllZip, filter}
use Rattle.std.specs.Option.{option_map, unwrap_or}
use Rattle.csv.specs.Reading.{AreRecords, default_config}
use Rattle.csv.specs.Records.{AllText, field_at}
use Rattle.csv.specs.declared.parser.State.TheVariants as st
use Rattle.rs_types.specs.declared.vrp.Vrp.{Vrp}
use Rattle.rs_import_files.specs.Texts.{IsAsNumber, IsLength, IsPrefixText, has_colon}

-- the records of a text, each field of which is UTF-8
abbrev pub AreRecordsOf : List ℕ → List (List (List ℕ)) → Type 0
AreRecordsOf text records = AreRecords default_config st.StartRecord text records × All AllText records

-- the titles of a VRP file: the first of them is "ASN"
abbrev pub AreTitles : List (List ℕ) → Type 0
AreTitles titles = field_at titles 0 ≡ Some (codes "ASN")

-- a record counts: its second field, the prefix, is none of IPv6
abbrev pub is_counted : List (List ℕ) → Bool
is_counted fields = not (unwrap_or (option_map has_colon (field_at fields 1)) false)

-- A record is a VRP: its AS number, its prefix and its maximum length, which isn't below the prefix's own. Further
-- fields have no meaning.
abbrev pub IsVrpRecord : List (List ℕ) → Vrp → Type 0
IsVrpRecord fields vrp =
    IsSomeAnd (field_at fields 0) (λ text. IsAsNumber text vrp.asn)
    × IsSomeAnd (field_at fields 1) (λ text. IsPrefixText text vrp.prefix)
    × IsSomeAnd (field_at fields 2) (λ text. IsLength text vrp.max_len)
    × (vrp.prefix.len ≤ vrp.max_len)

-- VRPs are the records that count, one by one
abbrev pub AreVrps : List (List (List ℕ)) → List Vrp → Type 0
AreVrps rows vrps = AllZip IsVrpRecord (filter is_counted rows) vrps

-- VRPs are those of the records below the titles of a text
abbrev pub AreVrpsBelow : List (List ℕ) → List ℕ → List Vrp → Type 0
AreVrpsBelow titles text vrps = (rows : List (List (List ℕ))) × AreRecordsOf text (titles ∷ rows) × AreVrps rows vrps

-- What a text of CSV says: no VRP if there is no record, else titles and the VRPs below them.
abbrev pub IsCsvOfVrps : List ℕ → List Vrp → Type 0
IsCsvOfVrps text vrps =
    (AreRecordsOf text [] × (vrps ≡ []))
    ⊎ ((titles : List (List ℕ)) × AreTitles titles × AreVrpsBelow titles text vrps)
