-- Octets that are read as numbers are what these numbers are spelled as: for `read_numbers` of number_list.rt, SegmentLemmas and
-- KeptLemmas.
use Rattle.std.proofs.Common.{◌≡◌, ℕ, zero, suc, ◌+◌, ◌*◌, ◌≤◌, List, [], ◌∷◌, ◌++◌, length, take, drop, refl, sym, ap, ◌∙◌, arith}
use Rattle.std.specs.Int.{w32, from_be_bytes}
use Rattle.std.proofs.lemmas.List.{drop-drop, length-take-le, take-append-drop}
use Rattle.std.proofs.lemmas.Nat.{be_bytes_4}
use Rattle.byteorder.specs.Endian.{big_number, big_bytes}
use Rattle.byteorder.specs.Numbers.{big_from-take}
use Rattle.rs_types.specs.Numbers.{numbers_at}
use Rattle.rs_types.specs.Parts.{AreOctets}
use Rattle.rs_types.proofs.fields.PartsLemmas.{AreOctets-front}

-- four octets
pub big_bytes-big_number : (octets : List ℕ) → 4 ≤ length octets → AreOctets octets → big_bytes 4 (big_number 4 octets) ≡ take 4 octets
big_bytes-big_number octets long are =
    let front = take 4 octets in
    let same : big_number 4 front ≡ from_be_bytes w32 front = omega arith in
    be_bytes_4 front (big_number 4 octets) (length-take-le 4 octets long)
    (AreOctets-front front (drop 4 octets) octets (sym (take-append-drop 4 octets)) are)
    (sym (big_from-take 0 4 4 octets (omega arith)) ∙ same)

-- one number more
pub numbers_at-more : (count : ℕ) (octets : List ℕ) → numbers_at (count + 1) octets ≡ numbers_at count octets
    ++ big_number 4 (drop (4 * count) octets) ∷ []
unfolding numbers_at
numbers_at-more zero octets = refl
numbers_at-more (suc count) octets =
    let one : suc count + 1 ≡ suc (count + 1) = omega arith in
    let later = numbers_at-more count (drop 4 octets) in
    let place : 4 + 4 * count ≡ 4 * suc count = omega arith in
    let behind : drop (4 * count) (drop 4 octets) ≡ drop (4 * suc count) octets =
    drop-drop (4 * count) 4 octets ∙ ap (λ (n : ℕ). drop n octets) (omega arith) in
    rw one (ap (λ (numbers : List ℕ). big_number 4 octets ∷ numbers)
    (later ∙ ap (λ (rest : List ℕ). numbers_at count (drop 4 octets) ++ big_number 4 rest ∷ []) behind))
