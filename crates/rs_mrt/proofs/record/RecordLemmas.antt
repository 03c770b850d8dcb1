-- What the records of a file are, one record at a time: for the iterator of record.rt, and SplitLemmas, FrontLemmas and AdvanceLemmas.
use Rattle.std.proofs.Common.{◌≡◌, ℕ, zero, suc, ◌+◌, ◌-◌, ◌≤◌, true, false, List, [], ◌∷◌, length, drop, Option, Some, None, Result, Ok}
use Rattle.std.proofs.Common.{Err, refl, ap, subst, sym, ◌∙◌, arith, inl, inr}
use Rattle.std.specs.Prelude.{nat_le}
use Rattle.std.proofs.lemmas.Bool.{and_parts, leb-true, cases_Bool, cond-true, cond-false}
use Rattle.std.proofs.lemmas.List.{length-drop, length-take}
use Rattle.rs_mrt.specs.declared.fault.MrtFault.{MrtFault}
use Rattle.rs_mrt.specs.Record.{MrtRecord, header_len, has_record, front_record, after_record, records_within, rest_within, records_of}
use Rattle.rs_mrt.specs.Record.{rest_of, length_field, fault_of_rest, end_of, octets_of, Reading, reading_of, next_of, after_next}
use Rattle.rs_mrt.specs.Record.{nothing_taken, taken_from}

-- a record's header and body are there
pub has_record-long : (octets : List ℕ) → has_record octets ≡ true → (12 ≤ length octets) × (length_field octets ≤ length octets - 12)
has_record-long octets h =
    let parts = and_parts (nat_le header_len (length octets)) (nat_le (length_field octets) (length (drop header_len octets))) h in
    let head : 12 ≤ length octets = leb-true _ _ parts.0 in
    let body : length_field octets ≤ length (drop 12 octets) = leb-true _ _ parts.1 in
    (head, omega (arith, length-drop 12 octets))

-- what is left once a record is taken
pub length-after_record : (octets : List ℕ) → has_record octets ≡ true
    → length (after_record octets) ≡ length octets - octets_of (Some (front_record octets))
length-after_record octets h =
    let long = has_record-long octets h in
    omega (
      arith,
      length-drop (length_field octets) (drop 12 octets),
      length-drop 12 octets,
      length-take (length_field octets) (drop 12 octets),
    )

-- a record takes 12 octets at least
pub after_record-shorter : (octets : List ℕ) → has_record octets ≡ true → length (after_record octets) + 12 ≤ length octets
after_record-shorter octets h =
    let long = has_record-long octets h in
    omega (arith, length-drop (length_field octets) (drop 12 octets), length-drop 12 octets)

-- one record for each octet is enough
within-enough : (n m : ℕ) (octets : List ℕ) → length octets ≤ n → length octets ≤ m → (records_within n octets ≡ records_within m octets)
    × (rest_within n octets ≡ rest_within m octets)
unfolding records_within rest_within
within-enough zero zero octets hn hm = (refl, refl)
within-enough zero (suc m) octets hn hm = let long = has_record-long octets in (grind arith, grind arith)
within-enough (suc n) zero octets hn hm = let long = has_record-long octets in (grind arith, grind arith)
within-enough (suc n) (suc m) octets hn hm =
    let shorter = after_record-shorter octets in
    let later = within-enough n m (after_record octets) in
    (grind arith, grind arith)

-- the record at the front comes first, and the rest is that of the octets after it
of-step : (octets : List ℕ) → has_record octets ≡ true → (records_of octets ≡ front_record octets ∷ records_of (after_record octets))
    × (rest_of octets ≡ rest_of (after_record octets))
unfolding records_of records_within rest_of rest_within
of-step octets stands =
    let shorter = after_record-shorter octets stands in
    let whole = within-enough (length octets) (suc (length octets)) octets (omega arith) (omega arith) in
    let later = within-enough (length octets) (length (after_record octets)) (after_record octets) (omega arith) (omega arith) in
    (whole.0 ∙ rw stands (ap (λ (rs : List MrtRecord). front_record octets ∷ rs) later.0), whole.1 ∙ rw stands later.1)

pub records_of-step : (octets : List ℕ) → has_record octets ≡ true
    → records_of octets ≡ front_record octets ∷ records_of (after_record octets)
records_of-step octets stands = (of-step octets stands).0

pub rest_of-step : (octets : List ℕ) → has_record octets ≡ true → rest_of octets ≡ rest_of (after_record octets)
rest_of-step octets stands = (of-step octets stands).1

-- where no record stands at the front, there is none, and all octets are the rest
within-none : (n : ℕ) (octets : List ℕ) → has_record octets ≡ false → (records_within n octets ≡ []) × (rest_within n octets ≡ octets)
unfolding records_within rest_within
within-none zero octets lacks = (refl, refl)
within-none (suc n) octets lacks = rw lacks (refl, refl)

pub records_of-none : (octets : List ℕ) → has_record octets ≡ false → records_of octets ≡ []
unfolding records_of
records_of-none octets lacks = (within-none (length octets) octets lacks).0

pub rest_of-none : (octets : List ℕ) → has_record octets ≡ false → rest_of octets ≡ octets
unfolding rest_of
rest_of-none octets lacks = (within-none (length octets) octets lacks).1

-- an answer with a record
abbrev taken_some_of : MrtRecord × List ℕ → Result (Option (MrtRecord × List ℕ)) MrtFault
taken_some_of p = Ok (Some p)

-- a rest gives no record
not_some : (end : Option MrtFault) (p : MrtRecord × List ℕ) → Ok (Some p) ≡ nothing_taken end → ⊥
not_some end p e = grind arith

next_none : (end : Option MrtFault) → Ok None ≡ nothing_taken end → Ok None ≡ next_of [] end
next_none end e = grind arith

next_fault : (end : Option MrtFault) (fault : MrtFault) → Err fault ≡ nothing_taken end → Err fault ≡ next_of [] end
next_fault end fault e = grind arith

-- where no record stands at the front, the octets stay
still : (octets : List ℕ) (shown : Option MrtRecord) → has_record octets ≡ false
    → reading_of None octets ≡ after_next (records_of octets) (reading_of shown octets)
still octets shown lacks = rw (records_of-none octets lacks) refl

-- what reading goes on with, once a record is taken
reading-step : (octets : List ℕ) (shown : Option MrtRecord) → has_record octets ≡ true
    → reading_of (Some (front_record octets)) (after_record octets)
    ≡ after_next (front_record octets ∷ records_of (after_record octets)) (reading_of shown octets)
reading-step octets shown stands =
    let ends : end_of (after_record octets) ≡ end_of octets = ap fault_of_rest (sym (rest_of-step octets stands)) in
    let make : Option MrtFault → ℕ → Reading =
    λ end n. record { shown = Some (front_record octets); left = records_of (after_record octets); end = end; octets = n } in
    ap (λ (end : Option MrtFault). make end (length (after_record octets))) ends
    ∙ ap (make (end_of octets)) (length-after_record octets stands)

-- a record was taken
pub taken_some : (octets : List ℕ) (shown : Option MrtRecord) (r : MrtRecord) (after : List ℕ) → Ok (Some (r, after)) ≡ taken_from octets
    → (Ok (Some r) ≡ next_of (records_of octets) (end_of octets))
    × (reading_of (Some r) after ≡ after_next (records_of octets) (reading_of shown octets))
taken_some octets shown r after e =
    elim (cases_Bool (has_record octets)) [
      | inl stands ↦
          (let parts : taken_some_of (front_record octets, after_record octets) ≡ taken_some_of (r, after) =
          sym (e ∙ cond-true _ _ _ stands) in
          let same : (front_record octets, after_record octets) ≡ (r, after) = cc in
          subst (λ (p : MrtRecord × List ℕ). (Ok (Some p.0) ≡ next_of (records_of octets) (end_of octets))
          × (reading_of (Some p.0) p.1 ≡ after_next (records_of octets) (reading_of shown octets))) same
          (rw (records_of-step octets stands) (refl, reading-step octets shown stands)))
      | inr lacks ↦ absurd (not_some (fault_of_rest octets) (r, after) (e ∙ cond-false _ _ _ lacks))
    ]

-- nothing was taken at the end
pub taken_none : (octets : List ℕ) (shown : Option MrtRecord) → Ok None ≡ taken_from octets
    → (Ok None ≡ next_of (records_of octets) (end_of octets))
    × (reading_of None octets ≡ after_next (records_of octets) (reading_of shown octets))
taken_none octets shown e =
    elim (cases_Bool (has_record octets)) [
      | inl stands ↦ (let no_record : Ok None ≡ taken_some_of (front_record octets, after_record octets) = e ∙ cond-true _ _ _ stands in
          absurd cc)
      | inr lacks ↦ (
        rw (records_of-none octets lacks, rest_of-none octets lacks)
            (next_none (fault_of_rest octets) (e ∙ cond-false _ _ _ lacks)),
        still octets shown lacks,
      )
    ]

-- nothing was taken at a fault
pub taken_fault : (octets : List ℕ) (shown : Option MrtRecord) (fault : MrtFault) → Err fault ≡ taken_from octets
    → (Err fault ≡ next_of (records_of octets) (end_of octets))
    × (reading_of None octets ≡ after_next (records_of octets) (reading_of shown octets))
taken_fault octets shown fault e =
    elim (cases_Bool (has_record octets)) [
      | inl stands ↦ (let no_record : Err fault ≡ taken_some_of (front_record octets, after_record octets) = e ∙ cond-true _ _ _ stands in
          absurd cc)
      | inr lacks ↦ (
        rw (records_of-none octets lacks, rest_of-none octets lacks)
            (next_fault (fault_of_rest octets) fault (e ∙ cond-false _ _ _ lacks)),
        still octets shown lacks,
      )
    ]
