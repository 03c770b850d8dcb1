-- The records before the first one that is later than a time, one record at a time: for FrontLemmas and FindLemmas.
use Rattle.std.proofs.Common.{◌≡◌, ℕ, ◌≤◌, true, false, Bool, ◌||◌, List, [], ◌∷◌, ◌++◌, length, Option, Some, None, ap, ◌∙◌}
use Rattle.std.proofs.Common.{arith, inl, inr, length-append}
use Rattle.std.specs.Prelude.{nat_le, not, take_while, if◌then◌else◌}
use Rattle.std.specs.List.{list_any}
use Rattle.std.proofs.lemmas.Bool.{and_parts, cases_Bool, cond-true, cond-false, le-leb, leb-true}
use Rattle.std.proofs.lemmas.List.Sums.{take_while-cons}
use Rattle.byteorder.specs.Endian.{big_number}
use Rattle.byteorder.specs.Numbers.{big_from-append}
use Rattle.rs_mrt.specs.Reader.{ReadEnd}
use Rattle.rs_mrt.specs.Record.{MrtRecord, header_len, has_record, front_record, after_record, records_of, rest_of}
use Rattle.rs_mrt.specs.Bounds.{is_later, is_in_time, is_time_later, records_until, rest_is_later, has_later}
use Rattle.rs_mrt.specs.RecordReading.{records_read, end_read, fault_behind}
use Rattle.rs_mrt.proofs.record.RecordLemmas.{records_of-step, records_of-none, rest_of-step, rest_of-none}

-- ---- a whole record at the front that isn't later

module _ (until : Option ℕ) (octets : List ℕ) (stands : has_record octets ≡ true) (in_time : is_later until (front_record octets) ≡ false)
  where
    -- it comes first
    pub records-step : records_until until octets ≡ front_record octets ∷ records_until until (after_record octets)
    records-step =
        ap (take_while (is_in_time until)) (records_of-step octets stands)
        ∙ take_while-cons (is_in_time until) (front_record octets) (records_of (after_record octets))
        ∙ cond-true _ _ _ (ap not in_time)

    -- a later one stands behind it
    pub later-step : has_later until octets ≡ has_later until (after_record octets)
    later-step =
        let rest = ap (rest_is_later until) (rest_of-step octets stands) in
        let any : list_any (is_later until) (records_of octets) ≡ list_any (is_later until) (records_of (after_record octets)) =
        ap (list_any (is_later until)) (records_of-step octets stands)
        ∙ ap (λ (b : Bool). b || list_any (is_later until) (records_of (after_record octets))) in_time in
        ap (λ (b : Bool). b || rest_is_later until (rest_of octets)) any
        ∙ ap (λ (b : Bool). list_any (is_later until) (records_of (after_record octets)) || b) rest

-- so it is the first one that is read
pub read-step : (until : Option ℕ) (octets : List ℕ) → has_record octets ≡ true → is_later until (front_record octets) ≡ false
    → records_read until octets ≡ front_record octets ∷ records_read until (after_record octets)
read-step None octets stands in_time = records_of-step octets stands
read-step (Some time) octets stands in_time = records-step (Some time) octets stands in_time

-- and the end is that of the octets behind it
pub end-step : (until : Option ℕ) (end : ReadEnd) (octets : List ℕ) → has_record octets ≡ true
    → is_later until (front_record octets) ≡ false → end_read until end octets ≡ end_read until end (after_record octets)
end-step None end octets stands in_time = ap (fault_behind end) (rest_of-step octets stands)
end-step (Some time) end octets stands in_time =
    ap (λ (b : Bool). if b then None else fault_behind end (rest_of octets)) (later-step (Some time) octets stands in_time)
    ∙ ap (λ (z : List ℕ). if has_later (Some time) (after_record octets) then None else fault_behind end z) (rest_of-step octets stands)

-- ---- a later record at the front, whole or cut short

-- no record comes before it
pub later-front : (until : Option ℕ) (octets : List ℕ) → 12 ≤ length octets → is_time_later until (big_number 4 octets) ≡ true
    → (records_until until octets ≡ []) × (has_later until octets ≡ true)
later-front until octets long later =
    elim (cases_Bool (has_record octets)) [
      | inl stands ↦
          (let any : list_any (is_later until) (records_of octets) ≡ true =
          ap (list_any (is_later until)) (records_of-step octets stands)
          ∙ ap (λ (b : Bool). b || list_any (is_later until) (records_of (after_record octets))) later in (
            ap (take_while (is_in_time until)) (records_of-step octets stands)
                ∙ take_while-cons (is_in_time until) (front_record octets) (records_of (after_record octets))
                ∙ cond-false _ _ _ (ap not later),
            ap (λ (b : Bool). b || rest_is_later until (rest_of octets)) any,
          ))
      | inr lacks ↦
          (let rest : rest_is_later until octets ≡ true = cc (le-leb 12 (length octets) long, later) in (
            ap (take_while (is_in_time until)) (records_of-none octets lacks),
            ap (λ (b : Bool). b || rest_is_later until (rest_of octets)) (ap (list_any (is_later until)) (records_of-none octets lacks))
                ∙ ap (rest_is_later until) (rest_of-none octets lacks)
                ∙ rest,
          ))
    ]

-- a header with a later Timestamp, and octets that are one
pub later-header : (until : Option ℕ) (octets : List ℕ) → rest_is_later until octets ≡ true
    → (12 ≤ length octets) × (is_time_later until (big_number 4 octets) ≡ true)
later-header until octets later =
    let parts = and_parts (nat_le header_len (length octets)) (is_time_later until (big_number 4 octets)) later in
    (leb-true 12 (length octets) parts.0, parts.1)

pub later-from : (until : Option ℕ) (octets : List ℕ) → 12 ≤ length octets → is_time_later until (big_number 4 octets) ≡ true
    → rest_is_later until octets ≡ true
later-from until octets long later = cc (le-leb 12 (length octets) long, later)

-- nothing is read, and there is no fault
pub read-later : (until : Option ℕ) (end : ReadEnd) (octets : List ℕ) → rest_is_later until octets ≡ true
    → (records_read until octets ≡ []) × (end_read until end octets ≡ None)
read-later None end octets later = absurd (let header = later-header None octets later in cc header.1)
read-later (Some time) end octets later =
    let header = later-header (Some time) octets later in
    let found = later-front (Some time) octets header.0 header.1 in
    (found.0, cond-true _ _ _ found.1)

-- ---- no whole record at the front, and no later one

-- the rest isn't later if its header isn't, or isn't whole
pub rest-in-time : (until : Option ℕ) (octets : List ℕ) → (12 ≤ length octets → is_time_later until (big_number 4 octets) ≡ false)
    → rest_is_later until octets ≡ false
rest-in-time until octets in_time =
    elim (cases_Bool (nat_le header_len (length octets))) [
      | inl long ↦ cc (long, in_time (leb-true 12 (length octets) long))
      | inr short ↦ cc short
    ]

-- so no record is
none-later : (until : Option ℕ) (octets : List ℕ) → has_record octets ≡ false → rest_is_later until octets ≡ false
    → has_later until octets ≡ false
none-later until octets lacks in_time =
    ap (λ (rs : List MrtRecord). list_any (is_later until) rs || rest_is_later until (rest_of octets)) (records_of-none octets lacks)
    ∙ ap (rest_is_later until) (rest_of-none octets lacks) ∙ in_time

-- nothing is read, and the end is what the octets mean
pub read-none : (until : Option ℕ) (octets : List ℕ) → has_record octets ≡ false → records_read until octets ≡ []
read-none None octets lacks = records_of-none octets lacks
read-none (Some time) octets lacks = ap (take_while (is_in_time (Some time))) (records_of-none octets lacks)

pub end-none : (until : Option ℕ) (end : ReadEnd) (octets : List ℕ) → has_record octets ≡ false → rest_is_later until octets ≡ false
    → end_read until end octets ≡ fault_behind end octets
end-none None end octets lacks in_time = ap (fault_behind end) (rest_of-none octets lacks)
end-none (Some time) end octets lacks in_time =
    cond-false _ _ _ (none-later (Some time) octets lacks in_time) ∙ ap (fault_behind end) (rest_of-none octets lacks)

-- ---- octets behind a header change nothing in its time

pub time-behind : (until : Option ℕ) (octets after : List ℕ) → 12 ≤ length octets
    → is_time_later until (big_number 4 (octets ++ after)) ≡ is_time_later until (big_number 4 octets)
time-behind until octets after long = ap (is_time_later until) (big_from-append 4 octets after (omega (arith, long)))

pub time-filled : (until : Option ℕ) (before after piece : List ℕ) → 12 ≤ length before → after ≡ before ++ piece
    → is_time_later until (big_number 4 after) ≡ is_time_later until (big_number 4 before)
time-filled until before after piece long filled =
    ap (λ (z : List ℕ). is_time_later until (big_number 4 z)) filled ∙ time-behind until before piece long

-- a later record at the front stays there
pub later-behind : (until : Option ℕ) (octets after : List ℕ) → rest_is_later until octets ≡ true
    → rest_is_later until (octets ++ after) ≡ true
later-behind until octets after later =
    let header = later-header until octets later in
    later-from until (octets ++ after) (omega (arith, header.0, length-append octets after))
    (time-behind until octets after header.0 ∙ header.1)

-- if there is none now, there was none before
pub not-later-before : (until : Option ℕ) (before after piece : List ℕ) → after ≡ before ++ piece
    → is_time_later until (big_number 4 after) ≡ false → rest_is_later until before ≡ true → ⊥
not-later-before until before after piece filled in_time later =
    let header = later-header until before later in
    let still : is_time_later until (big_number 4 after) ≡ true = time-filled until before after piece header.0 filled ∙ header.1 in
    cc (in_time, still)
