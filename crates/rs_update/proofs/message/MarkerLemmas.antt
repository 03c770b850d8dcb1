-- Octets are all ones exactly where the number that they spell is the greatest of their count: for `is_marked` of header.rt.
use Rattle.std.proofs.Common.{◌≡◌, ℕ, zero, suc, ◌+◌, ◌*◌, ◌-◌, ◌^◌, ◌<◌, ◌≤◌, ◌&&◌, ◌==◌, Bool, true, false, eqb, List, [], ◌∷◌, length}
use Rattle.std.proofs.Common.{take, refl, sym, ap, ◌∙◌, arith, inl, inr}
use Rattle.std.specs.List.{list_all}
use Rattle.std.proofs.Math.Nat.{mul-le-mul_right, pow-succ'}
use Rattle.std.proofs.lemmas.Bool.{cases_eq, cases_lt, eq-eqb, ne_eqb}
use Rattle.byteorder.specs.Endian.{big_number}
use Rattle.byteorder.specs.Numbers.{big_from-cons, big_from-lt}
use Rattle.rs_types.specs.Parts.{AreOctets}

-- a first octet is all ones, and so are the later ones, exactly where the number is the greatest
one_more : (first later power : ℕ) → first < 256 → later < power
    → (first * power + later == 256 * power - 1) ≡ ((first == 255) && (later == power - 1))
one_more first later power octet less =
    elim (cases_lt first 255) [
      | inl lt ↦
          let most : (first + 1) * power ≤ 255 * power = mul-le-mul_right power (omega (arith, lt)) in
          let spread : (first + 1) * power ≡ first * power + power = omega arith in
          let sum : eqb (first * power + later) (256 * power - 1) ≡ false = ne_eqb _ _ (λ e. omega (arith, e, most, spread, less)) in
          let octet_differs : eqb first 255 ≡ false = ne_eqb _ _ (λ e. omega (arith, e, lt)) in
          sum ∙ sym (ap (λ (b : Bool). b && (later == power - 1)) octet_differs)
      | inr le ↦
          let is : first ≡ 255 = omega (arith, le, octet) in
          rw is (the_rest later power less)
    ]
  where
    the_rest : (later power : ℕ) → later < power → eqb (255 * power + later) (256 * power - 1) ≡ eqb later (power - 1)
    the_rest later power less =
        elim (cases_eq later (power - 1)) [
          | inl same ↦
              let sum : eqb (255 * power + later) (256 * power - 1) ≡ true = eq-eqb _ _ (omega (arith, same, less)) in
              sum ∙ sym (eq-eqb _ _ same)
          | inr other ↦
              let sum : eqb (255 * power + later) (256 * power - 1) ≡ false = ne_eqb _ _ (λ e. other (omega (arith, e, less))) in
              sum ∙ sym (ne_eqb _ _ other)
        ]

pub all_ones : (count : ℕ) (octets : List ℕ) → count ≤ length octets → AreOctets octets
    → (big_number count octets == 256 ^ count - 1) ≡ list_all (λ octet. octet == 255) (take count octets)
all_ones zero octets long fit = refl
all_ones (suc count) [] long fit = absurd (omega (arith, long))
all_ones (suc count) (first ∷ later) long fit =
    let rest : AreOctets later = λ place. fit (suc place) in
    let less : big_number count later < 256 ^ count = big_from-lt 0 count later rest in
    let number : big_number (suc count) (first ∷ later) ≡ first * 256 ^ count + big_number count later =
    ap (λ (n : ℕ). first * 256 ^ count + n) (big_from-cons 0 count first later) in
    rw (number, pow-succ' 256 count) (one_more first (big_number count later) (256 ^ count) (fit 0) less
    ∙ ap (λ (b : Bool). (first == 255) && b) (all_ones count later (omega (arith, long)) rest))
