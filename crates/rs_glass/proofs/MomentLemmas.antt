-- The latest of several moments, one after another.
use Rattle.std.proofs.Common.{◌≡◌, ◌∙◌, sym, ap, refl, Bool, true, false, cond, List, [], ◌∷◌, ◌++◌, arith, inl, inr}
use Rattle.std.proofs.lemmas.Bool.{cases_Bool, le-ltb, lt-ltb, ltb-false, ltb-true}
use Rattle.rs_glass.specs.FileSaid.{SaidChange, counts_at, moment_of}
use Rattle.rs_glass.specs.Moments.{in_microseconds, is_earlier, later_of}
use Rattle.rs_glass.specs.declared.moment.Moment.{Moment}

later_of-by : (one other : Moment) (b : Bool) → is_earlier other one ≡ b → later_of one other ≡ cond b one other
later_of-by one other b is = ap (λ (d : Bool). cond d one other) is

-- of three, the later of the first and the later two is the later of the first two and the last
later_of-three : (a b c : Moment) → later_of a (later_of b c) ≡ later_of (later_of a b) c
later_of-three a b c =
    let m = in_microseconds a in
    let n = in_microseconds b in
    let o = in_microseconds c in
    elim (cases_Bool (is_earlier c b)) [
      | inl second ↦ elim (cases_Bool (is_earlier b a)) [
        | inl first ↦
            let third : is_earlier c a ≡ true = lt-ltb o m (omega (arith, ltb-true o n second, ltb-true n m first)) in
            ap (later_of a) (later_of-by b c true second) ∙ later_of-by a b true first ∙ sym (later_of-by a c true third)
            ∙ sym (ap (λ (moment : Moment). later_of moment c) (later_of-by a b true first))
        | inr first ↦
            ap (later_of a) (later_of-by b c true second) ∙ later_of-by a b false first ∙ sym (later_of-by b c true second)
            ∙ sym (ap (λ (moment : Moment). later_of moment c) (later_of-by a b false first))
      ]
      | inr second ↦ elim (cases_Bool (is_earlier b a)) [
        | inl first ↦
            ap (later_of a) (later_of-by b c false second)
            ∙ sym (ap (λ (moment : Moment). later_of moment c) (later_of-by a b true first))
        | inr first ↦
            let third : is_earlier c a ≡ false = le-ltb o m (omega (arith, ltb-false o n second, ltb-false n m first)) in
            ap (later_of a) (later_of-by b c false second) ∙ later_of-by a c false third ∙ sym (later_of-by b c false second)
            ∙ sym (ap (λ (moment : Moment). later_of moment c) (later_of-by a b false first))
      ]
    ]

-- behind one change more
pub counts_at-more : (said : List SaidChange) (one next : SaidChange)
    → counts_at (said ++ one ∷ []) next ≡ later_of (counts_at said one) (moment_of next)
counts_at-more [] one next = refl
counts_at-more (first ∷ later) one next =
    ap (later_of (moment_of first)) (counts_at-more later one next)
    ∙ later_of-three (moment_of first) (counts_at later one) (moment_of next)
