-- A file splits into records and a rest in one way, and the computed split is the one: for `file_splits_in_one_way` of laws.rt.
use Rattle.std.proofs.Common.{◌≡◌, ℕ, zero, suc, ◌+◌, ◌^◌, ◌<◌, ◌≤◌, true, false, List, [], ◌∷◌, ◌++◌, length, take, drop, lit≤, refl, sym}
use Rattle.std.proofs.Common.{ap, subst, ◌∙◌, append_assoc, arith, inl, inr}
use Rattle.std.specs.Prelude.{nat_le, slice_index}
use Rattle.std.specs.Int.{w16, w32, from_be_bytes}
use Rattle.std.specs.List.{flat_map, All}
use Rattle.std.proofs.lemmas.Bool.{cases_lt, cases_Bool, and_from, le-leb, false≢true}
use Rattle.std.proofs.lemmas.List.{take_at, drop_at, take-append-drop, length-append, length-take, length-take-le, get_or_past, length-drop}
use Rattle.std.proofs.Math.Seq.{take-add}
use Rattle.std.proofs.lemmas.List.Elements.{All-drop, All-take}
use Rattle.std.proofs.lemmas.List.Concat.{flat_map-cons}
use Rattle.std.proofs.lemmas.Nat.{be_bytes_2, be_bytes_4}
use Rattle.byteorder.specs.Endian.{big_bytes, big_number}
use Rattle.byteorder.specs.Numbers.{big_number-reads_back, big_from-lt, big_from-take}
use Rattle.rs_mrt.specs.Record.{MrtRecord, IsRecord, Splits, record_spelling, length_field, has_record, front_record, after_record}
use Rattle.rs_mrt.specs.Record.{records_of, rest_of}
use Rattle.rs_mrt.proofs.record.RecordLemmas.{has_record-long, after_record-shorter, records_of-step, records_of-none, rest_of-step}
use Rattle.rs_mrt.proofs.record.RecordLemmas.{rest_of-none}

abbrev octet : ℕ → Type 0
octet number = number < 256

-- each octet by its place
below : (octets : List ℕ) → All octet octets → (i : ℕ) → slice_index octets i < 256
below octets all i =
    elim (cases_lt i (length octets)) [
      | inl within ↦ all i 0 within
      | inr past ↦ rw (get_or_past octets i 0 past) (omega arith)
    ]

behind : (front octets : List ℕ) → All octet (front ++ octets) → All octet octets
behind front octets all =
    subst (λ xs. All octet xs) (drop_at front octets (length front) refl) (All-drop octet (length front) (front ++ octets) all)

-- ---- numbers in octets

-- the octets of the number in the first four octets
four_back : (octets : List ℕ) → All octet octets → 4 ≤ length octets → big_bytes 4 (big_number 4 octets) ≡ take 4 octets
four_back octets h long =
    let same : big_number 4 (take 4 octets) ≡ from_be_bytes w32 (take 4 octets) = omega arith in
    be_bytes_4 (take 4 octets) (big_number 4 octets) (length-take-le 4 octets long) (below (take 4 octets) (All-take octet 4 octets h))
    (sym (big_from-take 0 4 4 octets (lit≤ tt)) ∙ same)

-- and in the first two
two_back : (octets : List ℕ) → All octet octets → 2 ≤ length octets → big_bytes 2 (big_number 2 octets) ≡ take 2 octets
two_back octets h long =
    let same : big_number 2 (take 2 octets) ≡ from_be_bytes w16 (take 2 octets) = omega arith in
    be_bytes_2 (take 2 octets) (big_number 2 octets) (length-take-le 2 octets long) (below (take 2 octets) (All-take octet 2 octets h))
    (sym (big_from-take 0 2 2 octets (lit≤ tt)) ∙ same)

-- ---- the record at the front, from its octets

-- the fields of a header, its body and what follows
abbrev assembled : List ℕ → List ℕ → List ℕ → List ℕ → List ℕ → List ℕ → List ℕ
assembled time kind subtype len body after = ((((time ++ kind) ++ subtype) ++ len) ++ body) ++ after

-- the octets, cut at the fields
cut_at_fields : (octets : List ℕ) (n : ℕ)
    → assembled (take 4 octets) (take 2 (drop 4 octets)) (take 2 (drop 6 octets)) (take 4 (drop 8 octets)) (take n (drop 12 octets))
    (drop n (drop 12 octets)) ≡ octets
cut_at_fields octets n =
    let rest = drop 12 octets in
    rw (
      ← take-add 4 2 octets,
      ← take-add 6 2 octets,
      ← take-add 8 4 octets,
      append_assoc (take 12 octets) (take n rest) (drop n rest),
      take-append-drop n rest,
      take-append-drop 12 octets,
    ) refl

front_spelled : (octets : List ℕ) → All octet octets → has_record octets ≡ true
    → octets ≡ record_spelling (front_record octets) ++ after_record octets
front_spelled octets h stands =
    let long = has_record-long octets stands in
    let n = length_field octets in
    let rest = drop 12 octets in
    let len : length (take n rest) ≡ n = length-take-le n rest (omega (arith, length-drop 12 octets)) in
    let time = four_back octets h (omega arith) in
    let kind = two_back (drop 4 octets) (All-drop octet 4 octets h) (omega (arith, length-drop 4 octets)) in
    let subtype = two_back (drop 6 octets) (All-drop octet 6 octets h) (omega (arith, length-drop 6 octets)) in
    let length_octets =
    ap (big_bytes 4) len ∙ four_back (drop 8 octets) (All-drop octet 8 octets h) (omega (arith, length-drop 8 octets)) in
    sym (rw (← time, ← kind, ← subtype, ← length_octets) at (cut_at_fields octets n))

front_fits : (octets : List ℕ) → All octet octets → IsRecord (front_record octets)
front_fits octets h =
    let len : length_field octets < 2 ^ 32 = big_from-lt 0 4 (drop 8 octets) (below (drop 8 octets) (All-drop octet 8 octets h)) in
    record {
      time = big_from-lt 0 4 octets (below octets h);
      kind = big_from-lt 0 2 (drop 4 octets) (below (drop 4 octets) (All-drop octet 4 octets h));
      subtype = big_from-lt 0 2 (drop 6 octets) (below (drop 6 octets) (All-drop octet 6 octets h));
      body = omega (arith, length-take (length_field octets) (drop 12 octets));
    }

-- ---- the front of a spelling

spelled_length : (r : MrtRecord) (after : List ℕ) → IsRecord r → length_field (record_spelling r ++ after) ≡ length r.body
spelled_length r after fits = big_number-reads_back 4 (length r.body) (r.body ++ after) fits.body

pub spelled_stands : (r : MrtRecord) (after : List ℕ) → IsRecord r → has_record (record_spelling r ++ after) ≡ true
spelled_stands r after fits =
    let octets = record_spelling r ++ after in
    let len = spelled_length r after fits in
    let rest : length (drop 12 octets) ≡ length r.body + length after = length-append r.body after in
    let head : 12 ≤ length octets = omega arith in
    and_from (nat_le 12 (length octets)) (nat_le (length_field octets) (length (drop 12 octets))) (le-leb _ _ head)
    (le-leb _ _ (omega (arith, len, rest)))

pub spelled_front : (r : MrtRecord) (after : List ℕ) → IsRecord r → front_record (record_spelling r ++ after) ≡ r
spelled_front r after fits =
    let octets = record_spelling r ++ after in
    let after_kind = big_bytes 2 r.subtype ++ big_bytes 4 (length r.body) ++ r.body ++ after in
    let time : big_number 4 octets ≡ r.time = big_number-reads_back 4 r.time (big_bytes 2 r.kind ++ after_kind) fits.time in
    let kind : big_number 2 (drop 4 octets) ≡ r.kind = big_number-reads_back 2 r.kind after_kind fits.kind in
    let subtype : big_number 2 (drop 6 octets) ≡ r.subtype =
    big_number-reads_back 2 r.subtype (big_bytes 4 (length r.body) ++ r.body ++ after) fits.subtype in
    let body : take (length_field octets) (r.body ++ after) ≡ r.body =
    ap (λ (n : ℕ). take n (r.body ++ after)) (spelled_length r after fits) ∙ take_at r.body after (length r.body) refl in
    rw (time, kind, subtype, body) refl

pub spelled_after : (r : MrtRecord) (after : List ℕ) → IsRecord r → after_record (record_spelling r ++ after) ≡ after
spelled_after r after fits =
    ap (λ (n : ℕ). drop n (r.body ++ after)) (spelled_length r after fits) ∙ drop_at r.body after (length r.body) refl

-- ---- the split

-- where no record stands, no front spells one
none_spelled : (octets : List ℕ) → has_record octets ≡ false → (r : MrtRecord) (after : List ℕ) → IsRecord r
    → octets ≡ record_spelling r ++ after → ⊥
none_spelled octets lacks r after fits e = false≢true (sym lacks ∙ ap has_record e ∙ spelled_stands r after fits)

-- a record before a split file
Splits-cons : (file : List ℕ) (r : MrtRecord) (after : List ℕ) (records : List MrtRecord) (rest : List ℕ)
    → file ≡ record_spelling r ++ after → IsRecord r → Splits after records rest → Splits file (r ∷ records) rest
Splits-cons file r after records rest e fits later =
    record {
      spelled = e ∙ ap (λ (z : List ℕ). record_spelling r ++ z) later.spelled
          ∙ sym (append_assoc (record_spelling r) (flat_map record_spelling records) rest)
          ∙ ap (λ (z : List ℕ). z ++ rest) (sym (flat_map-cons record_spelling r records));
      fit = (fits, later.fit);
      longest = later.longest;
    }

-- the computed split, with one step for each octet
splits_within : (n : ℕ) (file : List ℕ) → length file ≤ n → All octet file → Splits file (records_of file) (rest_of file)
splits_within zero file short h =
    elim (cases_Bool (has_record file)) [
      | inl stands ↦ (let long = has_record-long file stands in absurd (omega arith))
      | inr lacks ↦ rw (records_of-none file lacks, rest_of-none file lacks)
          record { spelled = refl; fit = tt; longest = none_spelled file lacks }
    ]
splits_within (suc n) file short h =
    elim (cases_Bool (has_record file)) [
      | inl stands ↦
          (let shorter = after_record-shorter file stands in
          let spelled = front_spelled file h stands in
          let later =
          splits_within n (after_record file) (omega arith)
          (behind (record_spelling (front_record file)) (after_record file) (subst (λ xs. All octet xs) spelled h)) in
          rw (records_of-step file stands, rest_of-step file stands)
          (Splits-cons file (front_record file) (after_record file) (records_of (after_record file)) (rest_of (after_record file))
          spelled (front_fits file h) later))
      | inr lacks ↦ rw (records_of-none file lacks, rest_of-none file lacks)
          record { spelled = refl; fit = tt; longest = none_spelled file lacks }
    ]

pub splits : (file : List ℕ) → All octet file → Splits file (records_of file) (rest_of file)
splits file h = splits_within (length file) file (omega arith) h

-- any split is the computed one
pub splits_only : (records : List MrtRecord) (file rest : List ℕ) → All octet file → Splits file records rest → (records ≡ records_of file)
    × (rest ≡ rest_of file)
splits_only [] file rest h split =
    let whole : file ≡ rest = split.spelled in
    elim (cases_Bool (has_record file)) [
      | inl stands ↦ absurd (split.longest (front_record file) (after_record file) (front_fits file h)
          (sym whole ∙ front_spelled file h stands))
      | inr lacks ↦ (sym (records_of-none file lacks), sym whole ∙ sym (rest_of-none file lacks))
    ]
splits_only (r ∷ records) file rest h split =
    let tail = flat_map record_spelling records ++ rest in
    let whole : file ≡ record_spelling r ++ tail =
    split.spelled ∙ ap (λ (z : List ℕ). z ++ rest) (flat_map-cons record_spelling r records)
    ∙ append_assoc (record_spelling r) (flat_map record_spelling records) rest in
    let h' : All octet (record_spelling r ++ tail) = subst (λ xs. All octet xs) whole h in
    let later : Splits tail records rest = record { spelled = refl; fit = split.fit.1; longest = split.longest } in
    let same = splits_only records tail rest (behind (record_spelling r) tail h') later in
    let stands = spelled_stands r tail split.fit.0 in
    let front = spelled_front r tail split.fit.0 in
    let after = spelled_after r tail split.fit.0 in
    let first : records_of file ≡ r ∷ records =
    ap records_of whole ∙ records_of-step (record_spelling r ++ tail) stands
    ∙ ap (λ (x : MrtRecord). x ∷ records_of (after_record (record_spelling r ++ tail))) front
    ∙ ap (λ (z : List ℕ). r ∷ records_of z) after ∙ ap (λ (z : List MrtRecord). r ∷ z) (sym same.0) in
    let end : rest_of file ≡ rest = ap rest_of whole ∙ rest_of-step (record_spelling r ++ tail) stands ∙ ap rest_of after ∙ sym same.1 in
    (sym first, sym end)
