-- A reader of CSV in the middle of its octets.
use Rattle.std.specs.Prelude.{◌≡◌, ◌++◌, ℕ, Bool, true, false, List, [], ◌∷◌, Some}
use Rattle.std.specs.Borrow.{Bor}
use Rattle.std.specs.List.{All}
use Rattle.csv.specs.Reading.{Reached, Ready, default_config, source_of}
use Rattle.csv.specs.Records.{AllText}
use Rattle.csv.specs.declared.error.ErrorKind.{ErrorKind}
use Rattle.csv.specs.declared.error.ErrorKind.TheVariants as kind
use Rattle.csv.specs.declared.parser.State.TheVariants as st
use Rattle.csv.specs.declared.reader.Reader.{Reader}
use Rattle.csv.specs.declared.reader.Trim.TheVariants as trim
use Rattle.rs_import_files.specs.Csv.{AreRecordsOf}

-- a reader has read these records of a text, and goes on behind them
abbrev pub HasRead : List ℕ → List (List (List ℕ)) → Reader (Bor (List ℕ)) → Type 0
HasRead text records reader =
    (reader.trim ≡ trim.None) × Ready reader × (reader.config ≡ default_config)
    × (rest : List ℕ) × (source_of (λ octets. Some octets.now) reader ≡ Some rest)
    × Reached default_config st.StartRecord text records reader.state rest
    × All AllText records

-- one more record was found, or there is none left
abbrev pub Goes : List ℕ → List (List (List ℕ)) → List (List ℕ) → Reader (Bor (List ℕ)) → Bool → Type 0
Goes text records fields reader true = HasRead text (records ++ fields ∷ []) reader
Goes text records fields reader false = AreRecordsOf text records

-- a read failed since a record isn't UTF-8
abbrev pub is_utf8_fault : ErrorKind → Bool
is_utf8_fault (kind.Utf8 pos err) = true
is_utf8_fault (kind.Io e) = false
is_utf8_fault kind.OutOfMemory = false
is_utf8_fault (kind.UnequalLengths pos expected len) = false
is_utf8_fault (kind.Serialize text) = false
is_utf8_fault (kind.Deserialize pos err) = false
