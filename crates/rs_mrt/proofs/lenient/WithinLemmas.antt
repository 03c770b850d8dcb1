-- What is shown within bounds of octets that are known: for `what_is_within_bounds` of laws.rt.
use Rattle.std.proofs.Common.{◌≡◌, ℕ, ◌<◌, true, false, Bool, List, [], ◌∷◌, length, map, Option, Some, None, refl, sym, ap, ◌∙◌}
use Rattle.std.specs.Prelude.{◌&&◌, ◌||◌, nat_le, nat_lt, not, take_while, if◌then◌else◌}
use Rattle.std.specs.List.{list_any}
use Rattle.std.proofs.lemmas.Bool.{cond-false}
use Rattle.std.proofs.lemmas.List.Sums.{take_while-cons}
use Rattle.rs_mrt.specs.declared.bounds.Bounds.{Bounds}
use Rattle.rs_mrt.specs.declared.bounds.Tail.{Tail}
use Rattle.rs_mrt.specs.declared.bounds.Tail.TheVariants.{Strict, Lenient}
use Rattle.rs_mrt.specs.declared.fault.MrtFault.TheVariants.{HeaderCutShort, BodyCutShort}
use Rattle.rs_mrt.specs.declared.fault.SourceFault.{SourceFault}
use Rattle.rs_mrt.specs.Reader.{ReadEnd, FileEnds}
use Rattle.rs_mrt.specs.Record.{MrtRecord, header_len, records_of, rest_of, end_of, fault_of_rest}
use Rattle.rs_mrt.specs.Entry.{front_of}
use Rattle.rs_mrt.specs.Source.{source_end}
use Rattle.rs_mrt.specs.Bounds.{end_within, has_later, is_in_time, is_later, is_tail_strict, records_until}
use Rattle.rs_mrt.specs.RecordReading.{MayCome, end_read, read_limit, records_read}
use Rattle.rs_mrt.specs.Leniency.{ComesBy, end_by, unread_within}
use Rattle.rs_mrt.proofs.record_reader.FrontLemmas.{known_read}

-- ---- without a time no record is later

never-later : (records : List MrtRecord) → list_any (is_later None) records ≡ false
never-later [] = refl
never-later (r ∷ records) = never-later records

all-in-time : (records : List MrtRecord) → take_while (is_in_time None) records ≡ records
all-in-time [] = refl
all-in-time (r ∷ records) =
    take_while-cons (is_in_time None) r records ∙ ap (λ (rs : List MrtRecord). r ∷ rs) (all-in-time records)

and_false : (b : Bool) → (b && false) ≡ false
and_false true = refl
and_false false = refl

none-later : (file : List ℕ) → has_later None file ≡ false
none-later file = cc (never-later (records_of file), and_false (nat_le header_len (length (rest_of file))))

-- ---- the records and their end

until-read : (until : Option ℕ) (file : List ℕ) → records_read until file ≡ records_until until file
until-read None file = sym (all-in-time (records_of file))
until-read (Some time) file = refl

until-ends : (until : Option ℕ) (file : List ℕ)
    → end_read until FileEnds file ≡ (if has_later until file then None else source_end (end_of file))
until-ends None file = sym (cond-false _ _ _ (none-later file))
until-ends (Some time) file = refl

-- the rest of a file is nothing, or a record that is cut short
rest-left-out : (rest : List ℕ) → end_by Lenient (source_end (fault_of_rest rest)) ≡ None
rest-left-out [] = refl
rest-left-out (octet ∷ octets) = by (nat_lt (length (octet ∷ octets)) header_len)
  where
    by : (short : Bool) → end_by Lenient (source_end (if short then Some HeaderCutShort else Some BodyCutShort)) ≡ None
    by true = refl
    by false = refl

ends-by : (tail : Tail) (later : Bool) (rest : List ℕ)
    → end_by tail (if later then None else source_end (fault_of_rest rest))
    ≡ source_end (if later || not (is_tail_strict tail) then None else fault_of_rest rest)
ends-by Strict true rest = refl
ends-by Strict false rest = refl
ends-by Lenient true rest = refl
ends-by Lenient false rest = rest-left-out rest

pub known_within : {R : Type 0} (gives : R → List ℕ → ReadEnd → Type 0) (failures : R → ℕ) (bounds : Bounds) (reader : R) (file : List ℕ)
    → ((octets : List ℕ) (end : ReadEnd) → gives reader octets end → (octets ≡ file) × (end ≡ FileEnds)) → length file < read_limit
    → (records : List MrtRecord) (fault : Option SourceFault) → ComesBy (MayCome gives) (unread_within bounds reader) records fault
    → (records ≡ map front_of (records_until bounds.until file)) × (fault ≡ source_end (end_within bounds file))
known_within gives failures bounds reader file only fits records fault may =
    let read = known_read gives failures bounds.until reader file only fits records may.0 may.1 in (
      read.0 ∙ ap (map front_of) (until-read bounds.until file),
      may.2 ∙ ap (end_by bounds.tail) (read.1 ∙ until-ends bounds.until file)
          ∙ ends-by bounds.tail (has_later bounds.until file) (rest_of file),
    )
