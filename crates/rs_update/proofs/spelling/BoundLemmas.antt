-- The written form of attributes is never longer than the section that they were received in: for WrittenLemmas and AgainLemmas.
use Rattle.std.proofs.Common.{◌≡◌, ℕ, zero, suc, ◌+◌, ◌<◌, ◌≤◌, Bool, true, false, cond, List, [], ◌∷◌, ◌++◌, length, Option, Some, None}
use Rattle.std.proofs.Common.{refl, sym, ap, subst, ◌∙◌, le_trans, arith, inl, inr}
use Rattle.std.specs.List.{filter_map, range_with_len, flat_map, AllByRecursion}
use Rattle.std.proofs.lemmas.Bool.{cases_Bool, cases_lt, lt-ltb, le-ltb}
use Rattle.std.proofs.lemmas.Bool.Decides.{nat_tests}
use Rattle.std.proofs.lemmas.List.{length-append}
use Rattle.std.proofs.lemmas.Option.{same_Some}
use Rattle.rs_types.specs.declared.attribute_type.AttributeType.{AttributeType}
use Rattle.rs_types.specs.declared.attribute_type.WantedFlags.{WantedFlags}
use Rattle.rs_types.specs.declared.attribute_type.WantedFlags.TheVariants.{WellKnown, OptionalNonTransitive, OptionalTransitive, Optional}
use Rattle.rs_types.specs.declared.attribute_type.WantedFlags.TheVariants.{Any}
use Rattle.rs_types.specs.AttributeType.{type_of, row_of, is_extended, is_transitive, is_partial}
use Rattle.rs_update.specs.Found.{IsPlain, kept_by, kept_as, kept_of, kept_in, spelled_kept, spelled_section}
use Rattle.rs_types.specs.Gathered.{look, attributes_of}
use Rattle.rs_types.specs.Parts.{AreOctets}
use Rattle.rs_types.specs.PathAttributes.{PathAttributes}
use Rattle.rs_types.specs.Section.{Item, spelled_length, items_of, rest_of, section_fault}
use Rattle.rs_types.specs.Spelling.{written_flags, spelled_item, written}
use Rattle.rs_types.proofs.section.KindLemmas.{cases_Option, All-range}
use Rattle.rs_types.proofs.section.ReceivedLemmas.{IsReceived, section-is_spelled}
use Rattle.rs_types.proofs.section.SoundLemmas.{AreSound, sound_section, look_sound}
use Rattle.rs_update.proofs.gather.WholeLemmas.{written-made}

-- ---- one attribute

-- an attribute as it is written: the value as received, behind flags without a needless Extended Length
pub record IsKept (item kept : Item) : Type 0 where
  pub flags : ℕ
  pub plain : IsPlain flags
  pub is : kept ≡ record { flags = written_flags flags item.value; kind = item.kind; value = item.value }

plain_40 : IsPlain 0x40
plain_40 = record { fits = omega arith; is_short = refl; may_be_long = refl }

plain_80 : IsPlain 0x80
plain_80 = record { fits = omega arith; is_short = refl; may_be_long = refl }

plain_C0 : IsPlain 0xC0
plain_C0 = record { fits = omega arith; is_short = refl; may_be_long = refl }

plain_E0 : IsPlain 0xE0
plain_E0 = record { fits = omega arith; is_short = refl; may_be_long = refl }

plain_partial : (partial : Bool) → IsPlain (cond partial 0xE0 0xC0)
plain_partial true = plain_E0
plain_partial false = plain_C0

kept_by-is : (wanted : WantedFlags) (item kept : Item) → kept_by wanted item ≡ Some kept → IsKept item kept
kept_by-is WellKnown item kept e = record { flags = 0x40; plain = plain_40; is = sym (same_Some _ _ e) }
kept_by-is OptionalNonTransitive item kept e = record { flags = 0x80; plain = plain_80; is = sym (same_Some _ _ e) }
kept_by-is OptionalTransitive item kept e =
    record { flags = cond (is_partial item.flags) 0xE0 0xC0; plain = plain_partial (is_partial item.flags); is = sym (same_Some _ _ e) }
kept_by-is Optional item kept e =
    elim (cases_Bool (is_transitive item.flags)) [
      | inl passed ↦ record { flags = 0xE0; plain = plain_E0; is = sym (same_Some _ _ (rw passed at e)) }
      | inr dropped ↦ let none = rw dropped at e in absurd cc
    ]
kept_by-is Any item kept e = absurd cc

pub kept_as-is : (type : AttributeType) (item kept : Item) → kept_as type item ≡ Some kept → IsKept item kept
kept_as-is type item kept e = kept_by-is (row_of type).flags item kept e

-- a length takes one octet or two
short_length : (item : Item) → is_extended item.flags ≡ false → length (spelled_length item) ≡ 1
short_length item short = rw short refl

long_length : (item : Item) → is_extended item.flags ≡ true → length (spelled_length item) ≡ 2
long_length item long = rw long refl

length_above : (item : Item) → 1 ≤ length (spelled_length item)
length_above item =
    elim (cases_Bool (is_extended item.flags)) [
      | inl long ↦ omega (arith, long_length item long)
      | inr short ↦ omega (arith, short_length item short)
    ]

-- Extended Length is written only where it was received
pub written_length : (item : Item) (flags : ℕ) → IsReceived item → IsPlain flags
    → length (spelled_length (record { flags = written_flags flags item.value; kind = item.kind; value = item.value }))
    ≤ length (spelled_length item)
written_length item flags received plain =
    elim (cases_lt 255 (length item.value)) [
      | inl long ↦
          let is : written_flags flags item.value ≡ flags + 0x10 = rw (lt-ltb _ _ long) refl in
          let size : length (spelled_length (record { flags = written_flags flags item.value; kind = item.kind; value = item.value })) ≡ 2 =
          long_length (record { flags = written_flags flags item.value; kind = item.kind; value = item.value })
          (ap is_extended is ∙ plain.may_be_long) in
          elim (cases_Bool (is_extended item.flags)) [
            | inl extended ↦ omega (arith, size, long_length item extended)
            | inr not_extended ↦ let fits = rw not_extended at received.length_fits in absurd (omega (arith, fits, long))
          ]
      | inr short ↦
          let is : written_flags flags item.value ≡ flags = rw (le-ltb _ _ short) refl in
          let size : length (spelled_length (record { flags = written_flags flags item.value; kind = item.kind; value = item.value })) ≡ 1 =
          short_length (record { flags = written_flags flags item.value; kind = item.kind; value = item.value })
          (ap is_extended is ∙ plain.is_short) in
          omega (arith, size, length_above item)
    ]

pub length-spelled_item : (item : Item) → length (spelled_item item) ≡ 2 + length (spelled_length item) + length item.value
length-spelled_item item = omega (arith, length-append (spelled_length item) item.value)

pub kept_shorter : (item kept : Item) → IsReceived item → IsKept item kept → length (spelled_item kept) ≤ length (spelled_item item)
kept_shorter item kept received is =
    let made : Item = record { flags = written_flags is.flags item.value; kind = item.kind; value = item.value } in
    let shorter : length (spelled_item made) ≤ length (spelled_item item) =
    omega (arith, length-spelled_item made, length-spelled_item item, written_length item is.flags received is.plain) in
    subst (λ (k : Item). length (spelled_item k) ≤ length (spelled_item item)) (sym is.is) shorter

-- ---- all of them

total : (ℕ → ℕ) → List ℕ → ℕ
total size [] = 0
total size (k ∷ ks) = size k + total size ks

-- the octets of the attribute of a type
abbrev octets_at : List Item → ℕ → ℕ
octets_at items kind = length (spelled_kept (look kind items))

made_total : (make : ℕ → Option Item) (size : ℕ → ℕ) (ks : List ℕ) → AllByRecursion (λ k. length (spelled_kept (make k)) ≤ size k) ks
    → length (flat_map spelled_item (filter_map make ks)) ≤ total size ks
unfolding total
made_total make size [] each = omega arith
made_total make size (k ∷ ks) each =
    let later = made_total make size ks each.1 in
    let here = each.0 in
    elim (cases_Option (make k)) [
      | inl none ↦ rw none (omega (arith, later))
      | inr some ↦
          let fits = rw some.1 at here in
          rw some.1 (omega (arith, later, fits, length-append (spelled_item some.0) (flat_map spelled_item (filter_map make ks))))
    ]

nothing_total : (ks : List ℕ) → total (octets_at []) ks ≡ 0
unfolding total
nothing_total [] = refl
nothing_total (k ∷ ks) = let later = nothing_total ks in omega (arith, later)

-- an attribute of a lower type isn't in the range
lower_total : (item : Item) (items : List Item) (a n : ℕ) → item.kind < a
    → total (octets_at (item ∷ items)) (range_with_len a n) ≡ total (octets_at items) (range_with_len a n)
unfolding total
lower_total item items a zero below = refl
lower_total item items a (suc n) below = grind (arith, nat_tests, lower_total item items (a + 1) n)

one_more_total : (item : Item) (items : List Item) (a n : ℕ)
    → total (octets_at (item ∷ items)) (range_with_len a n) ≤ length (spelled_item item) + total (octets_at items) (range_with_len a n)
unfolding total
one_more_total item items a zero = omega arith
one_more_total item items a (suc n) = grind (arith, nat_tests, lower_total item items (a + 1) n, one_more_total item items (a + 1) n)

received_total : (items : List Item) (a n : ℕ) → total (octets_at items) (range_with_len a n) ≤ length (flat_map spelled_item items)
received_total [] a n = omega (arith, nothing_total (range_with_len a n))
received_total (item ∷ items) a n =
    omega (arith, one_more_total item items a n, received_total items a n, length-append (spelled_item item) (flat_map spelled_item items))

-- what is kept of a type is no longer than what was received
kept_at : (items : List Item) (kind : ℕ) → AreSound items → length (spelled_kept (kept_in items kind)) ≤ octets_at items kind
kept_at items kind sound =
    elim (cases_Option (look kind items)) [
      | inl none ↦ rw none (omega arith)
      | inr some ↦
          elim (cases_Option (kept_of some.0)) [
            | inl dropped ↦ rw (some.1, dropped) (omega arith)
            | inr kept ↦ rw (some.1, kept.1) (kept_shorter some.0 kept.0 (look_sound items kind some.0 sound some.1).received
                (kept_as-is (type_of some.0.kind) some.0 kept.0 kept.1))
          ]
    ]

kept_section : (items : List Item) → AreSound items → length (spelled_section items) ≤ length (flat_map spelled_item items)
kept_section items sound =
    le_trans
    (made_total (kept_in items) (octets_at items) (range_with_len 0 256)
    (All-range (λ k. length (spelled_kept (kept_in items k)) ≤ octets_at items k) 0 256 256 refl (λ k le lt. kept_at items k sound)))
    (received_total items 0 256)

section_length : (front rest section : List ℕ) → front ++ rest ≡ section → length front ≤ length section
section_length front rest section e = omega (arith, ap length e, length-append front rest)

pub written-shorter : (section : List ℕ) (attributes : PathAttributes) → AreOctets section → section_fault section ≡ None
    → attributes_of (items_of section) ≡ Some attributes → length (written attributes) ≤ length section
written-shorter section attributes fit faultless e =
    let items = items_of section in
    let sound = sound_section section fit faultless in
    subst (λ (octets : List ℕ). length octets ≤ length section) (sym (written-made items attributes sound e))
    (le_trans (kept_section items sound) (section_length (flat_map spelled_item items) (rest_of section) section
    (section-is_spelled section fit).0))
