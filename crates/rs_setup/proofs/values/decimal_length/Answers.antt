use Rattle.std.proofs.Common.{◌≡◌, ◌∙◌, ◌<◌, ◌≤◌, ◌+◌, ◌-◌, sym, refl, arith, get_or, inl, inr}
use Rattle.std.proofs.lemmas.Fmt.{decimal_digit}
use Rattle.rs_setup.proofs.SetupLemmas.{decimal-two, one_octet, two_octets}
use Rattle.rs_setup.proofs.SlashLemmas.{decimal_places}
use Rattle.rs_setup.proofs.values.decimal_length.Goals as goal

pub returns-in-48-to-57-clause-found : goal.returns-in-48-to-57-clause-found
returns-in-48-to-57-clause-found c =
    let ones = get_or c.args.text.now 0 0 in
    let low : 48 ≤ ones = omega arith in
    let high : ones < 58 = omega arith in
    let same : 48 + (ones - 48) ≡ ones = omega arith in
    one_octet c.args.text.now (omega arith) (omega arith) ∙ sym (decimal_digit (ones - 48) (omega arith) ∙ rw same refl)

pub returns-in-49-to-57-clause-found : goal.returns-in-49-to-57-clause-found
returns-in-49-to-57-clause-found c =
    let tens = get_or c.args.text.now 0 0 in
    let ones = get_or c.args.text.now 1 0 in
    let same_tens : 48 + (tens - 48) ≡ tens = omega arith in
    let same_ones : 48 + (ones - 48) ≡ ones = omega arith in
    two_octets c.args.text.now (omega arith) (omega arith)
    ∙ sym (decimal-two (tens - 48) (ones - 48) (omega arith) (omega arith) (omega arith) ∙ rw (same_tens, same_ones) refl)

pub returns-in_default-clause-none : goal.returns-in_default-clause-none
returns-in_default-clause-none c = λ len small is.
    elim (decimal_places c.args.text.now len small is) [
      | inl one ↦ omega (arith, one.0, one.1, one.2)
      | inr two ↦ omega (arith, two.0, two.1, two.2, two.3, two.4)
    ]

pub returns-in_default-2-clause-none : goal.returns-in_default-2-clause-none
returns-in_default-2-clause-none c = λ len small is.
    elim (decimal_places c.args.text.now len small is) [
      | inl one ↦ omega (arith, one.0, one.1, one.2)
      | inr two ↦ omega (arith, two.0, two.1, two.2, two.3, two.4)
    ]

pub returns-in_default-3-clause-none : goal.returns-in_default-3-clause-none
returns-in_default-3-clause-none c = λ len small is.
    elim (decimal_places c.args.text.now len small is) [
      | inl one ↦ omega (arith, one.0, one.1, one.2)
      | inr two ↦ omega (arith, two.0, two.1, two.2, two.3, two.4)
    ]

pub returns-in_default-4-clause-none : goal.returns-in_default-4-clause-none
returns-in_default-4-clause-none c = λ len small is.
    elim (decimal_places c.args.text.now len small is) [
      | inl one ↦ omega (arith, one.0, one.1, one.2)
      | inr two ↦ omega (arith, two.0, two.1, two.2, two.3, two.4)
    ]

pub returns-in_default-5-clause-none : goal.returns-in_default-5-clause-none
returns-in_default-5-clause-none c = λ len small is.
    elim (decimal_places c.args.text.now len small is) [
      | inl one ↦ omega (arith, one.0, one.1, one.2)
      | inr two ↦ omega (arith, two.0, two.1, two.2, two.3, two.4)
    ]

pub returns-in_default-6-clause-none : goal.returns-in_default-6-clause-none
returns-in_default-6-clause-none c = λ len small is.
    elim (decimal_places c.args.text.now len small is) [
      | inl one ↦ omega (arith, one.0, one.1, one.2)
      | inr two ↦ omega (arith, two.0, two.1, two.2, two.3, two.4)
    ]

pub returns-in_default-7-clause-none : goal.returns-in_default-7-clause-none
returns-in_default-7-clause-none c = λ len small is.
    elim (decimal_places c.args.text.now len small is) [
      | inl one ↦ omega (arith, one.0, one.1, one.2)
      | inr two ↦ omega (arith, two.0, two.1, two.2, two.3, two.4)
    ]

pub returns-in_default-8-clause-none : goal.returns-in_default-8-clause-none
returns-in_default-8-clause-none c = λ len small is.
    elim (decimal_places c.args.text.now len small is) [
      | inl one ↦ omega (arith, one.0, one.1, one.2)
      | inr two ↦ omega (arith, two.0, two.1, two.2, two.3, two.4)
    ]
