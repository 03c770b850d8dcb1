-- The command line: the program's command as `clap` knows it, and what its words ask for.
use Rattle.std.specs.Prelude.{◌≡◌, ◌≢◌, ◌≤◌, ◌⊎◌, ℕ, ⊤, pos, Bool, true, false, List, [], ◌∷◌, Option, None, Some}
use Rattle.std.specs.Prelude.{IsSome, codes, fold, option_map, string_bytes, unwrap_or}
use Rattle.std.specs.Str.Parse.{digits_value, without_leading_plus}
use Rattle.clap.specs.Simple.{on_top}
use Rattle.clap.specs.Words.{App, IsAmong, Kinds, Row, Rule, Text, fault_of, first_of, matches_of, new_app, new_rule}
use Rattle.clap.specs.Words.{one_of, with_rule}
use Rattle.clap.specs.declared.builder.ArgAction.TheVariants.{Set, SetTrue}
use Rattle.clap.specs.declared.builder.value_parser.ValueParser.TheVariants.{NonEmptyString, Signed, Unsigned}
use Rattle.clap.specs.declared.error.kind.ErrorKind.{ErrorKind}
use Rattle.clap.specs.declared.error.kind.ErrorKind.TheVariants.{DisplayHelp, DisplayVersion, OutOfMemory}
use Rattle.rs_options.specs.Standard.{standard_name}
use Rattle.rs_mrt.specs.declared.bounds.Bounds.{Bounds}
use Rattle.rs_mrt.specs.declared.bounds.Tail.{Tail}
use Rattle.rs_mrt.specs.declared.bounds.Tail.TheVariants.{Strict, Lenient}
use Rattle.rs_mrt.specs.declared.losses.Losses.{Losses}
use Rattle.rs_mrt.specs.declared.losses.Losses.TheVariants.{Recorded, Inferred}
use Rattle.rs_options.specs.declared.options.CommandLine.{CommandLine}
use Rattle.rs_mrt.specs.declared.bounds.FileReading.{FileReading}
use Rattle.rs_options.specs.declared.options.Options.{Options}
use Rattle.rs_options.specs.declared.options.Strictness.{Strictness}
use Rattle.rs_options.specs.declared.options.Strictness.TheVariants.{Off, BeforeWriting, AfterWriting}
use Rattle.rs_options.specs.declared.options.WordsFault.{WordsFault}
use Rattle.rs_options.specs.declared.options.WordsFault.TheVariants.{Help, Refused, Memory}

-- an option of one value
abbrev pub option : Text → Rule
option name = record (new_rule name) { long = Some name; action = Some Set; value_names = 1 }

-- an option of one value that must be there
abbrev pub required_option : Text → Rule
required_option name = record (option name) { required = true }

-- an option of one value, with a default for when the words don't give it
abbrev pub option_or : Text → Text → Rule
option_or name default = record (option name) { defaults = default ∷ [] }

-- an option that is there or not
abbrev pub flag : Text → Rule
flag name = record (new_rule name) { long = Some name; action = Some SetTrue }

-- the rules of the program's eleven options
abbrev pub rules : List Rule
rules =
    -- the configuration, a path
    required_option (codes "config")
    -- the folder that takes the dumps, a path that isn't empty: an empty one would name the root
    ∷ record (required_option (codes "out")) { parser = Some NonEmptyString }
    -- the Timestamp of the records written: of 32 bits (RFC 6396, section 2)
    ∷ record (option (codes "time")) { parser = Some (Signed (pos 0) (pos 4294967295)) }
    -- how many changes wait between two threads: 1 to 65,536; the default is 1,024 (our choice)
    ∷ record (option_or (codes "ring") (codes "1024")) { parser = Some (Unsigned 1 65536) }
    -- how many threads have the tables: 1 to 16; the default is 1 (our choice)
    ∷ record (option_or (codes "shards") (codes "1")) { parser = Some (Unsigned 1 16) }
    -- the standard by which faults are handled, by its name; the default is RFC 4271 (our choice)
    ∷ option_or (codes "errors") (codes "rfc4271")
    -- up to when records are read: a time (our choice)
    ∷ option (codes "until")
    -- what is done with a record that is cut short, by its name; the default is strict (our choice)
    ∷ option_or (codes "tail") (codes "strict")
    -- which losses count, by their name; the default is those that are recorded (our choice)
    ∷ option_or (codes "losses") (codes "recorded")
    -- what a run does if it isn't clean: it has a status of its own, and writes nothing or all (our choice)
    ∷ flag (codes "strict")
    ∷ flag (codes "strict-after")
    ∷ []

-- a command that can print its version
abbrev pub with_version : App → App
with_version app = on_top (λ shape. record shape { has_version = true }) app

-- the program's command, with its options
abbrev pub program : App
program = fold with_rule (with_version (new_app (codes "route_server"))) rules

-- the number that a text of decimal digits stands for
abbrev pub number_of : Text → ℕ
number_of text = digits_value 10 (without_leading_plus text)

-- the names of the ways to read the end of a file
abbrev pub tail_name : Tail → Text
tail_name Strict = codes "strict"
tail_name Lenient = codes "lenient"

-- the names of the losses that count
abbrev pub losses_name : Losses → Text
losses_name Recorded = codes "recorded"
losses_name Inferred = codes "inferred"

-- there is a time exactly if the words give one
abbrev pub IsTimeGiven : Option Text → Option ℕ → Type 0
IsTimeGiven None until = until ≡ None
IsTimeGiven (Some text) until = IsSome until

-- the values that were found say how much of each file is read
pub record HoldBounds (rows : List Row) (bounds : Bounds) : Type 0 where
  pub until : IsTimeGiven (first_of (codes "until") rows) bounds.until
  pub tail : first_of (codes "tail") rows ≡ Some (tail_name bounds.tail)

-- the Timestamp is that of the words, or else the default
abbrev pub IsTimeOr : Option Text → Option ℕ → ℕ → ℕ → Type 0
IsTimeOr None number default time = time ≡ default
IsTimeOr (Some text) number default time = number ≡ Some time

abbrev pub IsTime : List Row → ℕ → ℕ → Type 0
IsTime rows default time =
    IsTimeOr (first_of (codes "time") rows) (option_map number_of (one_of (codes "time") rows)) default time

-- a flag that was found has its value
pub record IsFlag (found : Option Text) (flag : Bool) : Type 0 where
  pub given : found ≡ Some (codes "true") → flag ≡ true
  pub absent : found ≡ Some (codes "false") → flag ≡ false

-- what a run does if it isn't clean, by the two flags; if both are given, the first one counts
abbrev pub strict_by : Bool → Bool → Strictness
strict_by true after = BeforeWriting
strict_by false true = AfterWriting
strict_by false false = Off

-- the values that were found are these two flags
pub record HoldStrict (rows : List Row) (strict : Strictness) : Type 0 where
  pub before : Bool
  pub after : Bool
  pub before_found : IsFlag (one_of (codes "strict") rows) before
  pub after_found : IsFlag (one_of (codes "strict-after") rows) after
  pub asked : strict ≡ strict_by before after

-- the values that were found say how each file is read; the losses count by their name
pub record HoldReading (rows : List Row) (reading : FileReading) : Type 0 where
  pub bounds : HoldBounds rows reading.bounds
  pub losses : first_of (codes "losses") rows ≡ Some (losses_name reading.losses)

-- The values that were found are what a run is given. Numbers count as numbers, and the standard by its name. The
-- default of the Timestamp is the time up to which files are read, or 0 without one.
pub record HoldOptions (rows : List Row) (until : Option ℕ) (options : Options) : Type 0 where
  pub config : first_of (codes "config") rows ≡ Some (string_bytes options.config)
  pub out : first_of (codes "out") rows ≡ Some (string_bytes options.out)
  pub time : IsTime rows (unwrap_or until 0) options.time
  pub ring : option_map number_of (one_of (codes "ring") rows) ≡ Some options.ring
  pub ring_fits : (1 ≤ options.ring) × (options.ring ≤ 65536)
  pub shards : option_map number_of (one_of (codes "shards") rows) ≡ Some options.shards
  pub shards_fit : (1 ≤ options.shards) × (options.shards ≤ 16)
  pub errors : first_of (codes "errors") rows ≡ Some (standard_name options.errors)

-- the values that were found for each argument are what is asked for
pub record HoldCommandLine (rows : List Row) (line : CommandLine) : Type 0 where
  pub options : HoldOptions rows line.reading.bounds.until line.options
  pub reading : HoldReading rows line.reading
  pub strict : HoldStrict rows line.strict

-- what is asked for are the values that the command finds in the words, or the defaults
abbrev pub IsCommandLineOf : List Text → CommandLine → Type 0
IsCommandLineOf words line = HoldCommandLine (matches_of program words) line

-- the words ask for these options, and that files are read so
pub record AreOptionsOf (words : List Text) (options : Options) : Type 0 where
  pub reading : FileReading
  pub read_so : HoldReading (matches_of program words) reading
  pub given : HoldOptions (matches_of program words) reading.bounds.until options

-- The kinds of error that `clap` finds in the words, among them requests for help or for the version. There are none
-- if it accepts the words.
abbrev pub faults_in : List Text → Kinds
faults_in words = fault_of program words

-- a kind of error, and the fault that a caller gets for it
abbrev pub IsToldAs : ErrorKind → WordsFault → Type 0
IsToldAs kind (Help text) = (kind ≡ DisplayHelp) ⊎ (kind ≡ DisplayVersion)
IsToldAs kind (Refused text) = (kind ≢ DisplayHelp) × (kind ≢ DisplayVersion) × (kind ≢ OutOfMemory)
IsToldAs kind Memory = ⊤

-- Help is answered only if the words ask for help or for the version, among other things. The words are refused only
-- if there is some other error.
abbrev pub SaysWhy : Kinds → WordsFault → Type 0
SaysWhy kinds (Help text) = IsAmong DisplayHelp kinds ⊎ IsAmong DisplayVersion kinds
SaysWhy kinds (Refused text) = (kinds ≢ DisplayHelp ∷ []) × (kinds ≢ DisplayVersion ∷ [])
SaysWhy kinds Memory = ⊤
