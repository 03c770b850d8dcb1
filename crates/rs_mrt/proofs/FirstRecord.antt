-- The first record of octets: for the beginnings of sessions.
use Rattle.std.proofs.Common.{◌≡◌, ◌++◌, ◌∷◌, ◌∙◌, ℕ, List, true, ap}
use Rattle.rs_mrt.specs.Record.{MrtRecord, IsRecord, record_spelling, has_record, front_record, after_record, records_of, rest_of}
use Rattle.rs_mrt.proofs.record.RecordLemmas.{records_of-step, rest_of-step}
use Rattle.rs_mrt.proofs.record.SplitLemmas.{spelled_stands, spelled_front, spelled_after}

-- where a record stands at the front, it is the first one
pub records_of-first : (octets : List ℕ) → has_record octets ≡ true
    → records_of octets ≡ front_record octets ∷ records_of (after_record octets)
records_of-first octets stands = records_of-step octets stands

-- and what is left over is that of the others
pub rest_of-first : (octets : List ℕ) → has_record octets ≡ true → rest_of octets ≡ rest_of (after_record octets)
rest_of-first octets stands = rest_of-step octets stands

-- a record that is spelled in front of other octets is their first record
pub records_of-spelled : (r : MrtRecord) (after : List ℕ) → IsRecord r → records_of (record_spelling r ++ after) ≡ r ∷ records_of after
records_of-spelled r after fits =
    records_of-step (record_spelling r ++ after) (spelled_stands r after fits)
    ∙ ap (λ (x : MrtRecord). x ∷ records_of (after_record (record_spelling r ++ after))) (spelled_front r after fits)
    ∙ ap (λ (octets : List ℕ). r ∷ records_of octets) (spelled_after r after fits)

-- and what is left over is that of the others
pub rest_of-spelled : (r : MrtRecord) (after : List ℕ) → IsRecord r → rest_of (record_spelling r ++ after) ≡ rest_of after
rest_of-spelled r after fits =
    rest_of-step (record_spelling r ++ after) (spelled_stands r after fits) ∙ ap rest_of (spelled_after r after fits)
