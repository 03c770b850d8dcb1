-- Reading parts one after another finds exactly the parts that stand in a field: for the lemmas of prefixes, attributes and segments,
-- and those of the items of rs_inventory.
use Rattle.std.proofs.Common.{◌≡◌, ℕ, zero, suc, ◌+◌, ◌<◌, ◌≤◌, Bool, true, false, cond, List, [], ◌∷◌, ◌++◌, length, drop, Option, Some}
use Rattle.std.proofs.Common.{None, refl, sym, ap, ◌∙◌, arith, inl, inr}
use Rattle.std.proofs.lemmas.Bool.{cases_lt}
use Rattle.std.proofs.lemmas.List.{get_or-append-add, get_or-drop, get_or_append_left, get_or_past}
use Rattle.rs_types.specs.Parts.{AreOctets, IsNoPart, IsWholeFront, parts_within, parts_of}

-- a reader of one part takes at least one octet
pub record Shrinks {A : Type 0} (read : List ℕ → Option (A × List ℕ)) : Type 0 where
  pub shrinks : (octets : List ℕ) (part : A) (rest : List ℕ) → read octets ≡ Some (part, rest) → length rest < length octets

-- a reader of one part finds exactly what a front of the octets spells
pub record Reads {A : Type 0} (read : List ℕ → Option (A × List ℕ)) (Spells : List ℕ → A → Type 0) : Type 0 where
  pub found : (octets : List ℕ) (part : A) (rest : List ℕ) → AreOctets octets → read octets ≡ Some (part, rest) → (front : List ℕ)
      × (octets ≡ front ++ rest) × Spells front part
  pub only : (front rest : List ℕ) (part : A) → Spells front part → read (front ++ rest) ≡ Some (part, rest)

-- a test that did not end in None
pub unless_some : {A : Type 0} (b : Bool) (x : Option A) (y : A) → cond b None x ≡ Some y → (b ≡ false) × (x ≡ Some y)
unless_some true x y e = absurd cc
unless_some false x y e = (refl, e)

-- ---- one step

-- with fuel left, what a part and the octets behind it give
parts_within-some : {A : Type 0} (read : List ℕ → Option (A × List ℕ)) (fuel : ℕ) (octets : List ℕ) (part : A) (rest : List ℕ)
    → read octets ≡ Some (part, rest)
    → parts_within read (suc fuel) octets ≡ (part ∷ (parts_within read fuel rest).0, (parts_within read fuel rest).1)
unfolding parts_within
parts_within-some read fuel octets part rest e = rw (e, parts_within) refl

parts_within-none : {A : Type 0} (read : List ℕ → Option (A × List ℕ)) (fuel : ℕ) (octets : List ℕ) → read octets ≡ None
    → parts_within read (suc fuel) octets ≡ ([], octets)
unfolding parts_within
parts_within-none read fuel octets e = rw (e, parts_within) refl

-- fuel for each octet is enough
same_fuel : {A : Type 0} (read : List ℕ → Option (A × List ℕ)) → Shrinks read → (n m : ℕ) (octets : List ℕ) → length octets ≤ n
    → length octets ≤ m → parts_within read n octets ≡ parts_within read m octets
unfolding parts_within
same_fuel read shrinks zero zero octets hn hm = refl
same_fuel {A} read shrinks zero (suc m) octets hn hm =
    elim (read octets) as (λ o. read octets ≡ o → parts_within read zero octets ≡ parts_within read (suc m) octets) [
      | None ↦ λ e. sym (parts_within-none read m octets e)
      | Some part ↦ λ e. absurd (omega (arith, shrinks.shrinks octets part.0 part.1 e))
    ] refl
same_fuel read shrinks (suc n) zero octets hn hm =
    elim (read octets) as (λ o. read octets ≡ o → parts_within read (suc n) octets ≡ parts_within read zero octets) [
      | None ↦ λ e. parts_within-none read n octets e
      | Some part ↦ λ e. absurd (omega (arith, shrinks.shrinks octets part.0 part.1 e))
    ] refl
same_fuel read shrinks (suc n) (suc m) octets hn hm =
    elim (read octets) as (λ o. read octets ≡ o → parts_within read (suc n) octets ≡ parts_within read (suc m) octets) [
      | None ↦ λ e. parts_within-none read n octets e ∙ sym (parts_within-none read m octets e)
      | Some part ↦ λ e.
          let less = shrinks.shrinks octets part.0 part.1 e in
          let later = same_fuel read shrinks n m part.1 (omega (arith, less)) (omega (arith, less)) in
          parts_within-some read n octets part.0 part.1 e ∙ ap (λ parts. (part.0 ∷ parts.0, parts.1)) later
          ∙ sym (parts_within-some read m octets part.0 part.1 e)
    ] refl

-- ---- parts of a field

-- a part and the parts behind it
pub parts_of-some : {A : Type 0} (read : List ℕ → Option (A × List ℕ)) → Shrinks read → (octets : List ℕ) (part : A) (rest : List ℕ)
    → read octets ≡ Some (part, rest)
    → parts_of read octets ≡ (part ∷ (parts_of read rest).0, (parts_of read rest).1)
parts_of-some read shrinks octets part rest e =
    let less = shrinks.shrinks octets part rest e in
    let one = same_fuel read shrinks (length octets) (suc (length octets)) octets (omega arith) (omega arith) in
    let later = same_fuel read shrinks (length octets) (length rest) rest (omega (arith, less)) (omega arith) in
    one ∙ parts_within-some read (length octets) octets part rest e ∙ ap (λ parts. (part ∷ parts.0, parts.1)) later

-- no part
pub parts_of-none : {A : Type 0} (read : List ℕ → Option (A × List ℕ)) (octets : List ℕ) → read octets ≡ None
    → parts_of read octets ≡ ([], octets)
unfolding parts_within
parts_of-none read octets e =
    elim (length octets) as (λ fuel. parts_within read fuel octets ≡ ([], octets)) [
      | zero ↦ refl
      | suc fuel ↦ parts_within-none read fuel octets e
    ]

-- ---- octets of a field are octets

pub AreOctets-drop : (n : ℕ) (octets : List ℕ) → AreOctets octets → AreOctets (drop n octets)
AreOctets-drop n octets are i = rw get_or-drop (are (n + i))

pub AreOctets-front : (front behind octets : List ℕ) → octets ≡ front ++ behind → AreOctets octets → AreOctets front
AreOctets-front front behind octets e are i =
    elim (cases_lt i (length front)) [
      | inl within ↦ rw (← get_or_append_left front behind 0 i within, ← e) (are i)
      | inr past ↦ rw (get_or_past front i 0 past) (omega arith)
    ]

pub AreOctets-behind : (front behind octets : List ℕ) → octets ≡ front ++ behind → AreOctets octets → AreOctets behind
AreOctets-behind front behind octets e are i = rw (← get_or-append-add front behind i 0, ← e) (are (length front + i))

-- ---- what is read, and what stands there

-- where nothing is read, no front spells a part
none_spelled : {A : Type 0} (read : List ℕ → Option (A × List ℕ)) (Spells : List ℕ → A → Type 0) → Reads read Spells → (octets : List ℕ)
    → read octets ≡ None → IsNoPart Spells octets
none_spelled read Spells reads octets e front behind part parts spells = cc (reads.only front behind part spells, ap read parts)

-- where no front spells a part, nothing is read
none_read : {A : Type 0} (read : List ℕ → Option (A × List ℕ)) (Spells : List ℕ → A → Type 0) → Reads read Spells → (octets : List ℕ)
    → AreOctets octets → IsNoPart Spells octets → read octets ≡ None
none_read read Spells reads octets are none =
    elim (read octets) as (λ o. read octets ≡ o → o ≡ None) [
      | None ↦ λ e. refl
      | Some part ↦ λ e. let found = reads.found octets part.0 part.1 are e in absurd (none found.0 part.1 part.0 found.1 found.2)
    ] refl

found_within : {A : Type 0} (read : List ℕ → Option (A × List ℕ)) (Spells : List ℕ → A → Type 0) → Shrinks read → Reads read Spells
    → (fuel : ℕ) (octets : List ℕ) → length octets ≤ fuel → AreOctets octets
    → IsWholeFront Spells octets (parts_within read fuel octets).0 (parts_within read fuel octets).1
unfolding parts_within
found_within read Spells shrinks reads zero octets enough are = (
  refl,
  λ front behind part parts spells. absurd (omega
      (arith, shrinks.shrinks octets part behind (ap read parts ∙ reads.only front behind part spells))),
)
found_within read Spells shrinks reads (suc fuel) octets enough are =
    elim (read octets) as (λ o. read octets ≡ o → IsWholeFront Spells octets (parts_within read (suc fuel) octets).0
    (parts_within read (suc fuel) octets).1) [
      | None ↦ λ e. rw (parts_within-none read fuel octets e) (refl, none_spelled read Spells reads octets e)
      | Some part ↦ λ e.
          let less = shrinks.shrinks octets part.0 part.1 e in
          let found = reads.found octets part.0 part.1 are e in
          let later =
          found_within read Spells shrinks reads fuel part.1 (omega (arith, less)) (AreOctets-behind found.0 part.1 octets found.1 are)
          in
          rw (parts_within-some read fuel octets part.0 part.1 e) ((found.0, part.1, found.1, found.2, later.0), later.1)
    ] refl

-- what is read is a whole front
pub parts_of-whole : {A : Type 0} (read : List ℕ → Option (A × List ℕ)) (Spells : List ℕ → A → Type 0) → Shrinks read → Reads read Spells
    → (octets : List ℕ) → AreOctets octets
    → IsWholeFront Spells octets (parts_of read octets).0 (parts_of read octets).1
parts_of-whole read Spells shrinks reads octets are = found_within read Spells shrinks reads (length octets) octets (omega arith) are

-- and a whole front is read: so there is one at most
pub whole-parts_of : {A : Type 0} (read : List ℕ → Option (A × List ℕ)) (Spells : List ℕ → A → Type 0) → Shrinks read → Reads read Spells
    → (octets : List ℕ) (parts : List A) (rest : List ℕ) → AreOctets octets
    → IsWholeFront Spells octets parts rest → parts_of read octets ≡ (parts, rest)
whole-parts_of read Spells shrinks reads octets [] rest are whole =
    let e : octets ≡ rest = whole.0 in
    let none : IsNoPart Spells octets = rw e whole.1 in
    parts_of-none read octets (none_read read Spells reads octets are none) ∙ ap (λ (left : List ℕ). ([], left)) e
whole-parts_of read Spells shrinks reads octets (part ∷ later) rest are whole =
    let front = whole.0.0 in
    let behind = whole.0.1 in
    let parts : octets ≡ front ++ behind = whole.0.2 in
    let found = ap read parts ∙ reads.only front behind part whole.0.3 in
    let others = whole-parts_of read Spells shrinks reads behind later rest (AreOctets-behind front behind octets parts are)
    (whole.0.4, whole.1) in
    parts_of-some read shrinks octets part behind found ∙ ap (λ left. (part ∷ left.0, left.1)) others
