-- What is written of the attributes of a section without fault is itself without fault: for AgainLemmas.
use Rattle.std.proofs.Common.{◌≡◌, ℕ, zero, suc, ◌+◌, ◌<◌, ◌&&◌, Bool, true, false, not, cond, List, [], ◌∷◌, ◌++◌, length, Option, Some}
use Rattle.std.proofs.Common.{None, refl, sym, ap, subst, ◌∙◌, arith, inl, inr}
use Rattle.std.specs.List.{filter_map, range_with_len, AllByRecursion}
use Rattle.std.proofs.lemmas.Bool.{cases_lt, lt-ltb, le-ltb}
use Rattle.std.proofs.lemmas.Bool.Decides.{nat_tests}
use Rattle.rs_types.specs.declared.attribute_type.AttributeType.{AttributeType}
use Rattle.rs_types.specs.declared.attribute_type.WantedFlags.{WantedFlags}
use Rattle.rs_types.specs.AttributeType.{type_of, flags_of, suits, is_unrecognized, is_optional, is_transitive, is_partial}
use Rattle.rs_types.specs.FirstFault.{first_fault}
use Rattle.rs_update.specs.Found.{IsPlain, kept_by, kept_of, kept_in}
use Rattle.rs_types.specs.Gathered.{look}
use Rattle.rs_types.specs.Section.{Item, FitsItsLength, tests_of, suits_length, value_tests, own_fault_of, has_type, first_item_fault}
use Rattle.rs_types.specs.Spelling.{written_flags}
use Rattle.rs_update.proofs.spelling.BoundLemmas.{kept_as-is}
use Rattle.rs_types.proofs.section.KindLemmas.{cases_Option}
use Rattle.rs_types.proofs.section.SoundLemmas.{AreSound, IsSound, look_sound, tests_passed, received_short}

-- ---- flags as they are written

-- flags with Extended Length or without it
both_ways : (P : ℕ → Type 0) (flags : ℕ) (value : List ℕ) → P flags → P (flags + 0x10) → P (written_flags flags value)
both_ways P flags value short long =
    elim (cases_lt 255 (length value)) [
      | inl above ↦ rw (lt-ltb _ _ above) long
      | inr below ↦ rw (le-ltb _ _ below) short
    ]

suited : (wanted : WantedFlags) (flags : ℕ) (value : List ℕ) → suits wanted flags ≡ true → suits wanted (flags + 0x10) ≡ true
    → suits wanted (written_flags flags value) ≡ true
suited wanted = both_ways (λ flags. suits wanted flags ≡ true)

-- the Partial bit as it was received
pub written_partial : (partial : Bool) (value : List ℕ) → is_partial (written_flags (cond partial 0xE0 0xC0) value) ≡ partial
written_partial true value = both_ways (λ flags. is_partial flags ≡ true) 0xE0 value refl refl
written_partial false value = both_ways (λ flags. is_partial flags ≡ false) 0xC0 value refl refl

pub passed_on_transitive : (value : List ℕ) → is_transitive (written_flags 0xE0 value) ≡ true
passed_on_transitive value = both_ways (λ flags. is_transitive flags ≡ true) 0xE0 value refl refl

-- ---- one attribute

-- the flags of what is kept are what they must say
kept_bits : (wanted : WantedFlags) (item kept : Item) → kept_by wanted item ≡ Some kept → suits wanted kept.flags ≡ true
kept_bits wanted item kept e = grind (arith, suited wanted)

-- so they say its class, too
suits_class : (type : AttributeType) (flags : ℕ) → suits (flags_of type) flags ≡ true
    → (is_unrecognized type && not (is_optional flags)) ≡ false
suits_class type flags bits = grind arith

no_fault : (type : AttributeType) (flags : ℕ) (value : List ℕ) → suits (flags_of type) flags ≡ true
    → suits_length type (length value) ≡ true → first_fault (value_tests type value) ≡ None → first_fault (tests_of type flags value) ≡ None
no_fault type flags value bits size tests = rw (suits_class type flags bits, bits, size) tests

-- what is written of an attribute without fault: its type, a length that can be spelled, and no fault
pub record IsWritten (kind : ℕ) (kept : Item) : Type 0 where
  pub has_kind : kept.kind ≡ kind
  pub fits : FitsItsLength kept
  pub without : own_fault_of kept ≡ None

kept_fits : (item : Item) (flags : ℕ) → IsPlain flags → length item.value < 65536
    → FitsItsLength (record { flags = written_flags flags item.value; kind = item.kind; value = item.value })
kept_fits item flags plain short = grind (arith, nat_tests, plain.is_short, plain.may_be_long)

kept_without : (kind : ℕ) (item kept : Item) → IsSound kind item → kept_of item ≡ Some kept → own_fault_of kept ≡ None
kept_without kind item kept sound e =
    let is = kept_as-is (type_of item.kind) item kept e in
    let same_kind : kept.kind ≡ item.kind = ap (λ (k : Item). k.kind) is.is in
    let same_value : kept.value ≡ item.value = ap (λ (k : Item). k.value) is.is in
    let all = tests_passed (type_of kind) item.flags item.value sound.tests in
    let type : type_of item.kind ≡ type_of kind = ap type_of sound.has_kind in
    let size : suits_length (type_of item.kind) (length item.value) ≡ true = rw type all.2 in
    let tests : first_fault (value_tests (type_of item.kind) item.value) ≡ None = rw type all.3 in
    let none : first_fault (tests_of (type_of item.kind) kept.flags item.value) ≡ None =
    no_fault (type_of item.kind) kept.flags item.value (kept_bits (flags_of (type_of item.kind)) item kept e) size tests in
    rw (same_kind, same_value) none

-- where what is written of a type comes from
pub kept_from : (items : List Item) (kind : ℕ) (kept : Item) → kept_in items kind ≡ Some kept → (item : Item)
    × (look kind items ≡ Some item) × (kept_of item ≡ Some kept)
kept_from items kind kept e =
    elim (cases_Option (look kind items)) [
      | inl none ↦ let nothing = rw none at e in absurd cc
      | inr some ↦ (some.0, some.1, rw some.1 at e)
    ]

pub kept_written : (items : List Item) → AreSound items → (kind : ℕ) (kept : Item) → kept_in items kind ≡ Some kept → IsWritten kind kept
kept_written items sound kind kept e =
    let from = kept_from items kind kept e in
    let item = from.0 in
    let sound_item = look_sound items kind item sound from.1 in
    let is = kept_as-is (type_of item.kind) item kept from.2 in
    record {
      has_kind = ap (λ (k : Item). k.kind) is.is ∙ sound_item.has_kind;
      fits = subst FitsItsLength (sym is.is) (kept_fits item is.flags is.plain (received_short item sound_item.received));
      without = kept_without kind item kept sound_item from.2;
    }

-- ---- all of them

-- a type above all others stands nowhere
not_among : (kind : ℕ) (items : List Item) → AllByRecursion (λ (item : Item). item.kind < kind) items → has_type kind items ≡ false
not_among kind [] each = refl
not_among kind (item ∷ items) each = grind (arith, nat_tests, not_among kind items each.1, each.0)

one_more : (a : ℕ) (items : List Item) (item : Item) → AllByRecursion (λ (i : Item). i.kind < a) items → item.kind < a + 1
    → AllByRecursion (λ (i : Item). i.kind < a + 1) (items ++ item ∷ [])
one_more a [] item each last = (last, tt)
one_more a (first ∷ items) item each last = (omega (arith, each.0), one_more a items item each.1 last)

wider : (a : ℕ) (items : List Item) → AllByRecursion (λ (i : Item). i.kind < a) items → AllByRecursion (λ (i : Item). i.kind < a + 1) items
wider a [] each = tt
wider a (first ∷ items) each = (omega (arith, each.0), wider a items each.1)

-- attributes made in ascending type, each without fault by its own tests, are without fault
pub ascending_without : (make : ℕ → Option Item) → ((kind : ℕ) (item : Item) → make kind ≡ Some item → IsWritten kind item)
    → (a n : ℕ) (earlier : List Item) → AllByRecursion (λ (i : Item). i.kind < a) earlier
    → first_item_fault earlier (filter_map make (range_with_len a n)) ≡ None
unfolding first_item_fault
ascending_without make is a zero earlier below = refl
ascending_without make is a (suc n) earlier below =
    elim (cases_Option (make a)) [
      | inl none ↦ rw none (ascending_without make is (a + 1) n earlier (wider a earlier below))
      | inr some ↦
          let item = some.0 in
          let written = is a item some.1 in
          let kind = written.has_kind in
          let first : has_type item.kind earlier ≡ false = rw kind (not_among a earlier below) in
          let own = written.without in
          let later = ascending_without make is (a + 1) n (earlier ++ item ∷ []) (one_more a earlier item below (omega (arith, kind))) in
          rw (some.1, first, own) later
    ]
