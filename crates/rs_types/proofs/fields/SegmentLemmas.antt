-- What a segment of an AS_PATH is spelled as is read as that segment, and what is read is spelled so.
-- For as_path.rt, number_list.rt, `a_path_is_one_list_of_segments` of laws.rt, ReceivedLemmas and KeptLemmas.
use Rattle.std.proofs.Common.{◌≡◌, ℕ, zero, suc, ◌+◌, ◌-◌, ◌*◌, ◌/◌, ◌%◌, ◌^◌, ◌<◌, ◌≤◌, false, ltb, eqb, List, [], ◌∷◌, ◌++◌, length, take}
use Rattle.std.proofs.Common.{drop, Some, refl, sym, ap, ◌∙◌, arith, inl, inr, ◌⊎◌, take-add}
use Rattle.std.specs.List.{AllByRecursion}
use Rattle.std.proofs.lemmas.Bool.{cases_Bool, ltb-false, le-ltb, ne_eqb, eqb-true, eqb-false}
use Rattle.std.proofs.lemmas.List.{drop_at, take_all, take-append-drop, length-append, length-drop}
use Rattle.std.proofs.lemmas.Option.{same_Some}
use Rattle.byteorder.specs.Endian.{big_number, big_bytes}
use Rattle.byteorder.specs.Numbers.{big_number-reads_back, big_from-lt}
use Rattle.rs_types.specs.Numbers.{numbers_at}
use Rattle.rs_types.specs.PathAttributes.{PathSegment, AsSet, AsSequence}
use Rattle.rs_types.specs.Parts.{AreOctets}
use Rattle.rs_types.specs.PathSegments.{AreAsNumbers, SpellsSegment, IsSegment, spelled_numbers, spelled_segment, segment_at}
use Rattle.rs_types.proofs.fields.OctetLemmas.{big_bytes-big_number}
use Rattle.rs_types.proofs.fields.PartsLemmas.{Shrinks, Reads, unless_some, AreOctets-drop}

-- ---- read from its spelling

-- four octets for each number
pub length-spelled_numbers : (numbers : List ℕ) → length (spelled_numbers numbers) ≡ 4 * length numbers
length-spelled_numbers [] = refl
length-spelled_numbers (number ∷ later) = let rest = length-spelled_numbers later in omega arith

-- numbers of four octets are read from the front of octets
pub numbers_at-spelled : (numbers rest : List ℕ) → AllByRecursion (λ number. number < 2 ^ 32) numbers
    → numbers_at (length numbers) (spelled_numbers numbers ++ rest) ≡ numbers
unfolding numbers_at
numbers_at-spelled [] rest each = refl
numbers_at-spelled (number ∷ later) rest each =
    let first : big_number 4 (big_bytes 4 number ++ (spelled_numbers later ++ rest)) ≡ number =
    big_number-reads_back 4 number (spelled_numbers later ++ rest) each.0 in
    let others : numbers_at (length later) (spelled_numbers later ++ rest) ≡ later = numbers_at-spelled later rest each.1 in
    cc

-- a segment of 1 to 255 numbers of four octets is read from the front of octets
pub segment_at-spelled : (segment : PathSegment) (rest : List ℕ) → IsSegment segment
    → segment_at (spelled_segment segment ++ rest) ≡ Some (segment, rest)
unfolding segment_at
segment_at-spelled (AsSet numbers) rest is =
    let some : eqb (length numbers) 0 ≡ false = ne_eqb _ _ (λ none. omega (arith, is.some)) in
    let long : ltb (length (spelled_numbers numbers ++ rest)) (4 * length numbers) ≡ false =
    le-ltb _ _ (omega (arith, length-append (spelled_numbers numbers) rest, length-spelled_numbers numbers)) in
    rw (
      some,
      long,
      numbers_at-spelled numbers rest is.each,
      drop_at (spelled_numbers numbers) rest (4 * length numbers) (length-spelled_numbers numbers),
    ) refl
segment_at-spelled (AsSequence numbers) rest is =
    let some : eqb (length numbers) 0 ≡ false = ne_eqb _ _ (λ none. omega (arith, is.some)) in
    let long : ltb (length (spelled_numbers numbers ++ rest)) (4 * length numbers) ≡ false =
    le-ltb _ _ (omega (arith, length-append (spelled_numbers numbers) rest, length-spelled_numbers numbers)) in
    rw (
      some,
      long,
      numbers_at-spelled numbers rest is.each,
      drop_at (spelled_numbers numbers) rest (4 * length numbers) (length-spelled_numbers numbers),
    ) refl

-- ---- what is read

-- a segment is the numbers that its count asks for, of one of the two types
pub record IsRead (kind count : ℕ) (octets : List ℕ) (split : PathSegment × List ℕ) : Type 0 where
  pub some : 0 < count
  pub long : 4 * count ≤ length octets
  pub behind : split.1 ≡ drop (4 * count) octets
  pub what : ((kind ≡ 1) × (split.0 ≡ AsSet (numbers_at count octets))) ⊎ ((kind ≡ 2) × (split.0 ≡ AsSequence (numbers_at count octets)))

pub segment_at-is : (kind count : ℕ) (octets : List ℕ) (split : PathSegment × List ℕ) → segment_at (kind ∷ count ∷ octets) ≡ Some split
    → IsRead kind count octets split
unfolding segment_at
segment_at-is kind count octets split e =
    let not_none = unless_some (eqb count 0) _ split e in
    let long_enough = unless_some (ltb (length octets) (4 * count)) _ split not_none.1 in
    let nonzero : count ≡ 0 → ⊥ = eqb-false count 0 not_none.0 in
    let long : 4 * count ≤ length octets = ltb-false _ _ long_enough.0 in
    elim (cases_Bool (eqb kind 1)) [
      | inl set ↦
          let is : (AsSet (numbers_at count octets), drop (4 * count) octets) ≡ split = same_Some _ _ (rw set at long_enough.1) in
          record {
            some = omega arith;
            long = long;
            behind = sym (ap (λ (s : PathSegment × List ℕ). s.1) is);
            what =
                inl (eqb-true kind 1 set, sym (ap (λ (s : PathSegment × List ℕ). s.0) is));
          }
      | inr not_set ↦
          let other = rw not_set at long_enough.1 in
          elim (cases_Bool (eqb kind 2)) [
            | inl sequence ↦
                let is : (AsSequence (numbers_at count octets), drop (4 * count) octets) ≡ split = same_Some _ _ (rw sequence at other) in
                record {
                  some = omega arith;
                  long = long;
                  behind = sym (ap (λ (s : PathSegment × List ℕ). s.1) is);
                  what =
                      inr (eqb-true kind 2 sequence, sym (ap (λ (s : PathSegment × List ℕ). s.0) is));
                }
            | inr neither ↦ let none = rw neither at other in absurd cc
          ]
    ]

-- a segment takes octets
pub segment_at-takes : (octets : List ℕ) (split : PathSegment × List ℕ) → segment_at octets ≡ Some split → length split.1 < length octets
unfolding segment_at
segment_at-takes [] split e = absurd cc
segment_at-takes (kind ∷ []) split e = absurd cc
segment_at-takes (kind ∷ count ∷ octets) split e =
    let is = segment_at-is kind count octets split e in
    rw is.behind (omega (arith, length-drop (4 * count) octets))

pub segment_shrinks : Shrinks segment_at
segment_shrinks = record { shrinks = λ octets segment rest e. segment_at-takes octets (segment, rest) e }

pub length-numbers_at : (count : ℕ) (octets : List ℕ) → length (numbers_at count octets) ≡ count
unfolding numbers_at
length-numbers_at zero octets = refl
length-numbers_at (suc count) octets = ap suc (length-numbers_at count (drop 4 octets))

-- each number is of four octets
pub numbers_at-below : (count : ℕ) (octets : List ℕ) → AreOctets octets
    → AllByRecursion (λ number. number < 2 ^ 32) (numbers_at count octets)
unfolding numbers_at
numbers_at-below zero octets are = tt
numbers_at-below (suc count) octets are = (big_from-lt 0 4 octets are, numbers_at-below count (drop 4 octets) (AreOctets-drop 4 octets are))

-- numbers that are read from octets are spelled by a front of them
spelled-numbers_at : (count : ℕ) (octets : List ℕ) → AreOctets octets → 4 * count ≤ length octets
    → spelled_numbers (numbers_at count octets) ≡ take (4 * count) octets
unfolding numbers_at
spelled-numbers_at zero octets are long = refl
spelled-numbers_at (suc count) octets are long =
    let four : 4 * suc count ≡ 4 + 4 * count = omega arith in
    let first = big_bytes-big_number octets (omega arith) are in
    let others = spelled-numbers_at count (drop 4 octets) (AreOctets-drop 4 octets are) (omega (arith, length-drop 4 octets)) in
    rw four (ap (λ (front : List ℕ). front ++ spelled_numbers (numbers_at count (drop 4 octets))) first
    ∙ ap (λ (behind : List ℕ). take 4 octets ++ behind) others ∙ sym (take-add 4 (4 * count) octets))

-- a whole field of numbers
pub spelled_numbers-all : (octets : List ℕ) → length octets % 4 ≡ 0 → AreOctets octets
    → spelled_numbers (numbers_at (length octets / 4) octets) ≡ octets
spelled_numbers-all octets whole are =
    spelled-numbers_at (length octets / 4) octets are (omega arith) ∙ take_all (4 * (length octets / 4)) octets (omega arith)

are_as_numbers : (kind count : ℕ) (octets : List ℕ) (split : PathSegment × List ℕ) → AreOctets (kind ∷ count ∷ octets)
    → IsRead kind count octets split → AreAsNumbers (numbers_at count octets)
are_as_numbers kind count octets split are is =
    let counted = length-numbers_at count octets in
    let octet : count < 256 = are 1 in
    record { some = rw counted is.some; most = rw counted (omega arith); each = numbers_at-below count octets (λ i. are (suc (suc i))) }

-- count and numbers are spelled as they stood
respelled : (kind count : ℕ) (octets : List ℕ) → AreOctets octets → 4 * count ≤ length octets
    → kind ∷ count ∷ octets ≡ (kind ∷ length (numbers_at count octets) ∷ spelled_numbers (numbers_at count octets))
    ++ drop (4 * count) octets
respelled kind count octets are long =
    rw (length-numbers_at count octets, spelled-numbers_at count octets are long, take-append-drop (4 * count) octets) refl

-- a segment that is read from octets is spelled by a front of them
pub segment_at-found : (octets : List ℕ) (split : PathSegment × List ℕ) → AreOctets octets → segment_at octets ≡ Some split
    → (octets ≡ spelled_segment split.0 ++ split.1) × IsSegment split.0
unfolding segment_at
segment_at-found [] split are e = absurd cc
segment_at-found (kind ∷ []) split are e = absurd cc
segment_at-found (kind ∷ count ∷ octets) split are e =
    let is = segment_at-is kind count octets split e in
    let numbers = are_as_numbers kind count octets split are is in
    let spelled = respelled kind count octets (λ i. are (suc (suc i))) is.long in
    elim is.what [
      | inl set ↦ rw (set.1, is.behind, set.0) (rw set.0 at spelled, numbers)
      | inr sequence ↦ rw (sequence.1, is.behind, sequence.0) (rw sequence.0 at spelled, numbers)
    ]

-- so a segment is read exactly where a front of the octets spells it
pub segment_reads : Reads segment_at SpellsSegment
segment_reads = record {
  found = λ octets segment rest are e. let found = segment_at-found octets (segment, rest) are e in
      (spelled_segment segment, found.0, (refl, found.1));
  only = λ front rest segment spells. rw spells.0 (segment_at-spelled segment rest spells.1);
}

-- ---- numbers, one by one

pub numbers_at-step : (count : ℕ) (octets : List ℕ) → (count ≡ 0 → ⊥)
    → numbers_at count octets ≡ big_number 4 octets ∷ numbers_at (count - 1) (drop 4 octets)
unfolding numbers_at
numbers_at-step zero octets some = absurd (some refl)
numbers_at-step (suc count) octets some = let less : suc count - 1 ≡ count = omega arith in rw less refl

pub numbers_at-none : (count : ℕ) (octets : List ℕ) → count ≡ 0 → numbers_at count octets ≡ []
unfolding numbers_at
numbers_at-none count octets none = rw none refl
