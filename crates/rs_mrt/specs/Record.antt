-- MRT records, and the records that a file holds (RFC 6396, section 2).
use Rattle.std.specs.Prelude.{◌≡◌, ◌≢◌, ℕ, zero, suc, ◌+◌, ◌-◌, ◌^◌, ◌<◌, nat_lt, nat_le, Bool, ◌&&◌, if◌then◌else◌}
use Rattle.std.specs.Prelude.{List, [], ◌∷◌, ◌++◌, length, take, drop, Option, Some, None, Result, Ok}
use Rattle.std.specs.Prelude.{Err}
use Rattle.std.specs.Option.{option_map}
use Rattle.std.specs.List.{flat_map, All, AllByRecursion}
use Rattle.byteorder.specs.Endian.{big_bytes, big_number}
use Rattle.rs_mrt.specs.declared.fault.MrtFault.{MrtFault}
use Rattle.rs_mrt.specs.declared.fault.MrtFault.TheVariants.{HeaderCutShort, BodyCutShort}
use Rattle.rs_mrt.specs.declared.record.Record.{Record}

-- ---- one record

-- a record as a value: seconds since 1970, Type, Subtype, and the octets of its body
pub record MrtRecord : Type 0 where
  pub time : ℕ
  pub kind : ℕ
  pub subtype : ℕ
  pub body : List ℕ

-- the record as which callers see a value of the program
abbrev pub record_of : Record → MrtRecord
record_of r = record { time = r.time; kind = r.kind; subtype = r.subtype; body = r.body.now }

-- the numbers fit their fields
pub record IsRecord (r : MrtRecord) : Type 0 where
  pub time : r.time < 2 ^ 32
  pub kind : r.kind < 2 ^ 16
  pub subtype : r.subtype < 2 ^ 16
  pub body : length r.body < 2 ^ 32

-- how many octets a header has
abbrev pub header_len : ℕ
header_len = 12

-- the header: Timestamp, Type, Subtype and Length; Length does not count the header
abbrev pub header_spelling : ℕ → ℕ → ℕ → ℕ → List ℕ
header_spelling time kind subtype len = big_bytes 4 time ++ big_bytes 2 kind ++ big_bytes 2 subtype ++ big_bytes 4 len

-- a record: its header and its body
abbrev pub record_spelling : MrtRecord → List ℕ
record_spelling r = header_spelling r.time r.kind r.subtype (length r.body) ++ r.body

-- how many octets the record takes, 0 if there is none
abbrev pub octets_of : Option MrtRecord → ℕ
octets_of None = 0
octets_of (Some r) = header_len + length r.body

-- ---- the records of a file, as a relation on the whole file

-- The file is the spellings of these records, one after another, and then the rest. The rest does not begin with a
-- whole record.
pub record Splits (file : List ℕ) (records : List MrtRecord) (rest : List ℕ) : Type 0 where
  pub spelled : file ≡ flat_map record_spelling records ++ rest
  pub fit : AllByRecursion IsRecord records
  pub longest : (r : MrtRecord) (after : List ℕ) → IsRecord r → rest ≢ record_spelling r ++ after

-- ---- the records of a file, computed

-- the Length field of the header that the octets begin with
abbrev pub length_field : List ℕ → ℕ
length_field octets = big_number 4 (drop 8 octets)

-- the octets begin with a header, and behind it there are as many octets as its Length says
abbrev pub has_record : List ℕ → Bool
has_record octets = nat_le header_len (length octets) && nat_le (length_field octets) (length (drop header_len octets))

-- the record whose header the octets begin with, with this body
abbrev pub headed : List ℕ → List ℕ → MrtRecord
headed octets body =
    record {
      time = big_number 4 octets;
      kind = big_number 2 (drop 4 octets);
      subtype = big_number 2 (drop 6 octets);
      body = body;
    }

-- the record that the octets begin with
abbrev pub front_record : List ℕ → MrtRecord
front_record octets = headed octets (take (length_field octets) (drop header_len octets))

-- the octets behind the first record
abbrev pub after_record : List ℕ → List ℕ
after_record octets = drop (length_field octets) (drop header_len octets)

-- the records that the octets begin with, at most n
unfoldable pub records_within : ℕ → List ℕ → List MrtRecord
records_within zero octets = []
records_within (suc n) octets =
    if has_record octets then front_record octets ∷ records_within n (after_record octets) else []

-- the octets behind the first n records
unfoldable pub rest_within : ℕ → List ℕ → List ℕ
rest_within zero octets = octets
rest_within (suc n) octets = if has_record octets then rest_within n (after_record octets) else octets

-- all records of a file; a file has at most as many records as octets
unfoldable pub records_of : List ℕ → List MrtRecord
records_of file = records_within (length file) file

-- the octets behind the last record of a file
unfoldable pub rest_of : List ℕ → List ℕ
rest_of file = rest_within (length file) file

-- what the rest means: the file ends there, or a record is cut short in its header or its body
abbrev pub fault_of_rest : List ℕ → Option MrtFault
fault_of_rest [] = None
fault_of_rest (octet ∷ octets) =
    if nat_lt (length (octet ∷ octets)) header_len then Some HeaderCutShort else Some BodyCutShort

-- the computed records and rest split the file
abbrev pub SplitIsFound : Type 0
SplitIsFound = (file : List ℕ) → All (λ octet. octet < 256) file → Splits file (records_of file) (rest_of file)

-- there is no other way to split the file
abbrev pub SplitIsTheOnlyOne : Type 0
SplitIsTheOnlyOne =
    (records : List MrtRecord) (file rest : List ℕ) → All (λ octet. octet < 256) file → Splits file records rest
    → (records ≡ records_of file) × (rest ≡ rest_of file)

-- how the records of a file end
abbrev pub end_of : List ℕ → Option MrtFault
end_of file = fault_of_rest (rest_of file)

-- ---- a file that is being read

-- the record given last, the records to come, their end, and how many octets are left
pub record Reading : Type 0 where
  pub shown : Option MrtRecord
  pub left : List MrtRecord
  pub end : Option MrtFault
  pub octets : ℕ

-- reading goes on with these octets
abbrev pub reading_of : Option MrtRecord → List ℕ → Reading
reading_of shown octets =
    record { shown = shown; left = records_of octets; end = end_of octets; octets = length octets }

-- the next record, or, after the last one, how the records end
abbrev pub next_of : List MrtRecord → Option MrtFault → Result (Option MrtRecord) MrtFault
next_of (r ∷ later) end = Ok (Some r)
next_of [] None = Ok None
next_of [] (Some fault) = Err fault

-- the reading after the next record was given
abbrev pub after_next : List MrtRecord → Reading → Reading
after_next (r ∷ later) reading =
    record { shown = Some r; left = later; end = reading.end; octets = reading.octets - octets_of (Some r) }
after_next [] reading = record { shown = None; left = []; end = reading.end; octets = reading.octets }

-- an answer of the program, with each value as callers see it
abbrev pub seen : {X Y : Type 0} → (X → Y) → Result (Option X) MrtFault → Result (Option Y) MrtFault
seen view (Ok found) = Ok (option_map view found)
seen view (Err fault) = Err fault

abbrev pub nothing_taken : Option MrtFault → Result (Option (MrtRecord × List ℕ)) MrtFault
nothing_taken None = Ok None
nothing_taken (Some fault) = Err fault

-- the record that the octets begin with, and the octets behind it; if there is no whole record, the end that the
-- octets mean
abbrev pub taken_from : List ℕ → Result (Option (MrtRecord × List ℕ)) MrtFault
taken_from octets =
    if has_record octets then Ok (Some (front_record octets, after_record octets))
    else nothing_taken (fault_of_rest octets)
