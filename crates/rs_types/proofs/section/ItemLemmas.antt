-- What an attribute is spelled as is read as that attribute, and what is read is spelled so.
-- For item.rt, each loop over a section, `a_section_is_one_list_of_attributes` of laws.rt, and the lemmas of sections.
use Rattle.std.proofs.Common.{◌≡◌, ℕ, suc, ◌+◌, ◌*◌, ◌/◌, ◌%◌, ◌<◌, ◌≤◌, true, false, ltb, List, [], ◌∷◌, ◌++◌, length, take, drop, Some}
use Rattle.std.proofs.Common.{None, refl, sym, ap, arith, inl, inr}
use Rattle.std.proofs.lemmas.Bool.{cases_Bool, ltb-false, le-ltb}
use Rattle.std.proofs.lemmas.List.{take_at, drop_at, take-append-drop, length-append, length-drop, length-take-le}
use Rattle.std.proofs.lemmas.Option.{same_Some}
use Rattle.rs_types.specs.AttributeType.{is_extended}
use Rattle.rs_types.specs.Section.{Item, FitsItsLength, SpellsItem, item_at, item_with, long_item_at, short_item_at, items_of}
use Rattle.rs_types.specs.Parts.{AreOctets}
use Rattle.rs_types.specs.Spelling.{spelled_item}
use Rattle.rs_types.proofs.fields.PartsLemmas.{Shrinks, Reads, unless_some, parts_of-some, parts_of-none}

-- ---- read from its spelling

-- a value of the length that is asked for
item_with-spelled : (flags kind count : ℕ) (value rest : List ℕ) → count ≡ length value
    → item_with flags kind count (value ++ rest) ≡ Some (record { flags = flags; kind = kind; value = value }, rest)
item_with-spelled flags kind count value rest same =
    let long : ltb (length (value ++ rest)) count ≡ false = le-ltb _ _ (omega (arith, length-append value rest)) in
    rw (long, take_at value rest count (sym same), drop_at value rest count (sym same)) refl

-- two octets of a length
two_octets : (count : ℕ) → count < 65536 → count / 256 % 256 * 256 + count % 256 ≡ count
two_octets count below = omega arith

-- an attribute that fits its length is read from the front of octets
pub item_at-spelled : (item : Item) (rest : List ℕ) → FitsItsLength item → item_at (spelled_item item ++ rest) ≡ Some (item, rest)
unfolding item_at
item_at-spelled item rest fits =
    elim (cases_Bool (is_extended item.flags)) [
      | inl long ↦
          let below : length item.value < 65536 = rw long at fits in
          rw long (item_with-spelled item.flags item.kind _ item.value rest (two_octets (length item.value) below))
      | inr short ↦ rw short (item_with-spelled item.flags item.kind (length item.value) item.value rest refl)
    ]

-- ---- what is read

-- a value is the octets that it asks for
pub item_with-is : (flags kind count : ℕ) (octets : List ℕ) (split : Item × List ℕ) → item_with flags kind count octets ≡ Some split
    → (count ≤ length octets) × (split ≡ (record { flags = flags; kind = kind; value = take count octets }, drop count octets))
item_with-is flags kind count octets split e =
    let guarded = unless_some (ltb (length octets) count)
    (Some (record { flags = flags; kind = kind; value = take count octets }, drop count octets)) split e in
    (ltb-false _ _ guarded.0, sym (same_Some _ _ guarded.1))

item_with-takes : (flags kind count : ℕ) (octets : List ℕ) (split : Item × List ℕ) → item_with flags kind count octets ≡ Some split
    → length split.1 ≤ length octets
item_with-takes flags kind count octets split e =
    let is = item_with-is flags kind count octets split e in
    rw is.1 (omega (arith, length-drop count octets))

long_item_at-takes : (flags kind : ℕ) (octets : List ℕ) (split : Item × List ℕ) → long_item_at flags kind octets ≡ Some split
    → length split.1 ≤ length octets
long_item_at-takes flags kind [] split e = absurd cc
long_item_at-takes flags kind (high ∷ []) split e = absurd cc
long_item_at-takes flags kind (high ∷ low ∷ octets) split e = omega (arith, item_with-takes flags kind (high * 256 + low) octets split e)

short_item_at-takes : (flags kind : ℕ) (octets : List ℕ) (split : Item × List ℕ) → short_item_at flags kind octets ≡ Some split
    → length split.1 ≤ length octets
short_item_at-takes flags kind [] split e = absurd cc
short_item_at-takes flags kind (count ∷ octets) split e = omega (arith, item_with-takes flags kind count octets split e)

-- an attribute takes octets
pub item_at-takes : (octets : List ℕ) (split : Item × List ℕ) → item_at octets ≡ Some split → length split.1 < length octets
unfolding item_at
item_at-takes [] split e = absurd cc
item_at-takes (flags ∷ []) split e = absurd cc
item_at-takes (flags ∷ kind ∷ octets) split e =
    elim (cases_Bool (is_extended flags)) [
      | inl long ↦ omega (arith, long_item_at-takes flags kind octets split (rw long at e))
      | inr short ↦ omega (arith, short_item_at-takes flags kind octets split (rw short at e))
    ]

pub item_shrinks : Shrinks item_at
item_shrinks = record { shrinks = λ octets item rest e. item_at-takes octets (item, rest) e }

-- behind a length of two octets
long_item_at-found : (flags kind : ℕ) (octets : List ℕ) (split : Item × List ℕ) → is_extended flags ≡ true → AreOctets octets
    → long_item_at flags kind octets ≡ Some split
    → (flags ∷ kind ∷ octets ≡ spelled_item split.0 ++ split.1) × FitsItsLength split.0
long_item_at-found flags kind [] split long are e = absurd cc
long_item_at-found flags kind (high ∷ []) split long are e = absurd cc
long_item_at-found flags kind (high ∷ low ∷ octets) split long are e =
    let is = item_with-is flags kind (high * 256 + low) octets split e in
    let high_octet : high < 256 = are 0 in
    let low_octet : low < 256 = are 1 in
    let counted : length (take (high * 256 + low) octets) ≡ high * 256 + low = length-take-le _ _ is.0 in
    let first : (high * 256 + low) / 256 % 256 ≡ high = omega arith in
    let second : (high * 256 + low) % 256 ≡ low = omega arith in
    rw is.1 (rw (long, counted, first, second, take-append-drop (high * 256 + low) octets) refl, rw (long, counted) (omega arith))

-- behind a length of one octet
short_item_at-found : (flags kind : ℕ) (octets : List ℕ) (split : Item × List ℕ) → is_extended flags ≡ false → AreOctets octets
    → short_item_at flags kind octets ≡ Some split
    → (flags ∷ kind ∷ octets ≡ spelled_item split.0 ++ split.1) × FitsItsLength split.0
short_item_at-found flags kind [] split short are e = absurd cc
short_item_at-found flags kind (count ∷ octets) split short are e =
    let is = item_with-is flags kind count octets split e in
    let count_octet : count < 256 = are 0 in
    let counted : length (take count octets) ≡ count = length-take-le _ _ is.0 in
    rw is.1 (rw (short, counted, take-append-drop count octets) refl, rw (short, counted) (omega arith))

-- an attribute that is read from octets is spelled by a front of them
pub item_at-found : (octets : List ℕ) (split : Item × List ℕ) → AreOctets octets → item_at octets ≡ Some split
    → (octets ≡ spelled_item split.0 ++ split.1) × FitsItsLength split.0
unfolding item_at
item_at-found [] split are e = absurd cc
item_at-found (flags ∷ []) split are e = absurd cc
item_at-found (flags ∷ kind ∷ octets) split are e =
    elim (cases_Bool (is_extended flags)) [
      | inl long ↦ long_item_at-found flags kind octets split long (λ i. are (suc (suc i))) (rw long at e)
      | inr short ↦ short_item_at-found flags kind octets split short (λ i. are (suc (suc i))) (rw short at e)
    ]

-- so an attribute is read exactly where a front of the octets spells it
pub item_reads : Reads item_at SpellsItem
item_reads = record {
  found = λ octets item rest are e. let found = item_at-found octets (item, rest) are e in (spelled_item item, found.0, (refl, found.1));
  only = λ front rest item spells. rw spells.0 (item_at-spelled item rest spells.1);
}

-- ---- the attributes of octets, one by one

pub items_of-step : (octets : List ℕ) (split : Item × List ℕ) → item_at octets ≡ Some split → items_of octets ≡ split.0 ∷ items_of split.1
items_of-step octets split e = ap (λ (parts : List Item × List ℕ). parts.0) (parts_of-some item_at item_shrinks octets split.0 split.1 e)

pub items_of-end : (octets : List ℕ) → item_at octets ≡ None → items_of octets ≡ []
items_of-end octets e = ap (λ (parts : List Item × List ℕ). parts.0) (parts_of-none item_at octets e)
