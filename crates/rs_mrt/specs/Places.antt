-- Where the records of a file begin, and how a reader of records goes from one to the next (RFC 6396, section 2).
use Rattle.std.specs.Prelude.{◌≡◌, ℕ, ◌-◌, ◌≤◌, Bool, true, false, List, [], ◌∷◌, ◌++◌, length, drop, sum_by}
use Rattle.std.specs.Prelude.{Some, Result, Ok, Err}
use Rattle.rs_mrt.specs.declared.fault.SourceFault.{SourceFault}
use Rattle.rs_mrt.specs.declared.fault.SourceFault.TheVariants.{Mrt, Read}
use Rattle.rs_mrt.specs.Reader.{ReadEnd}
use Rattle.rs_mrt.specs.Record.{MrtRecord, octets_of, records_of}
use Rattle.rs_mrt.specs.Entry.{front_of}
use Rattle.rs_mrt.specs.RecordReading.{MayArrive, RecordReading}
use Rattle.rs_mrt.specs.Cut.{cut_at, cut_of}

-- how many octets records take
abbrev pub octets_in : List MrtRecord → ℕ
octets_in records = sum_by (λ r. octets_of (Some r)) records

-- how many octets of the file stand before those at hand
abbrev pub past_of : {R : Type 0} → RecordReading R → ℕ
past_of reading = reading.inflow.came - length reading.held

module _ {R : Type 0} (gives : R → List ℕ → ReadEnd → Type 0) (file : List ℕ) where
  -- A reader of records has passed these first records of a file. The octets at hand, and whatever may arrive, are the
  -- file behind those records.
  pub record HasPassed (before : List MrtRecord) (reading : RecordReading R) : Type 0 where
    pub fits : length reading.held ≤ reading.inflow.came
    pub past : past_of reading ≡ octets_in before
    pub records : records_of file ≡ before ++ records_of (drop (past_of reading) file)
    pub stands : (octets : List ℕ) (end : ReadEnd) → MayArrive gives reading.inflow octets end
        → reading.held ++ octets ≡ drop (past_of reading) file

  -- The next record of the file is shown: it begins behind the octets of the records before it.
  pub record PassesNext (before : List MrtRecord) (reading : RecordReading R) : Type 0 where
    pub next : MrtRecord
    pub shown : reading.shown ≡ Some (front_of next)
    pub place : reading.place ≡ octets_in before
    pub passed : HasPassed (before ++ next ∷ []) reading

  -- What an answer says of places, if these records were passed before. If there is a record, it is the next one. If
  -- the end of the file cuts it short, it is the rest of the file.
  abbrev pub SaysPlace : List MrtRecord → RecordReading R → Result Bool SourceFault → Type 0
  SaysPlace before reading (Ok true) = PassesNext before reading
  SaysPlace before reading (Ok false) = Unit {0}
  SaysPlace before reading (Err (Mrt fault)) =
      let rest = drop (octets_in before) file in
      cut_of reading ≡ Some (cut_at (octets_in before) (length rest) rest)
  SaysPlace before reading (Err Read) = Unit {0}
