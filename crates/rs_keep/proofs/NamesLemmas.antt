-- Lists of names in whatever order: two are the same where each name stands as often in both.
use Rattle.std.proofs.Common.{◌≡◌, ℕ, suc, ◌+◌, ◌≤◌, inl, inr, List, [], ◌∷◌, ◌++◌, Bool, IsPermutation, Some, None, bytes_eq, cond, refl}
use Rattle.std.proofs.Common.{sym, ap, subst, arith}
use Rattle.std.specs.List.{Contains, remove, sum_by}
use Rattle.std.proofs.lemmas.Bool.{cases_Bool}
use Rattle.std.proofs.lemmas.List.Sums.{sum_by-append, sum_by-cons}
use Rattle.std.proofs.lemmas.List.Sorted.{Contains-permutation, IsPermutation-cons, IsPermutation-refl, IsPermutation-remove}
use Rattle.std.proofs.lemmas.List.Sorted.{IsPermutation-sym, IsPermutation-trans, sum_by-IsPermutation, sum_by_popped}
use Rattle.std.proofs.lemmas.Slice.Eq.{bytes_eq-Decides}
use Rattle.rs_outlet.specs.Started.{Names, AreSameNames, ComesBack, GoesOut, IsOut}
use Rattle.rs_keep.specs.StartedDumps.{AreOutToo}

-- one name weighs 1, and every other one nothing
abbrev weight_of : List ℕ → List ℕ → ℕ
weight_of name one = cond (bytes_eq one name) 1 0

weighs : (name : List ℕ) → weight_of name name ≡ 1
weighs name = ap (λ (same : Bool). cond same 1 0) ((bytes_eq-Decides name name).1 refl)

-- a name is there where something weighs
found : (name : List ℕ) (names : List (List ℕ)) → 1 ≤ sum_by (weight_of name) names → Contains names name
found name [] some = absurd (omega (arith, some))
found name (x ∷ names) some = elim (cases_Bool (bytes_eq x name)) [
  | inl same ↦ (0, omega arith, (bytes_eq-Decides x name).0 same)
  | inr other ↦
      let none : weight_of name x ≡ 0 = ap (λ (same : Bool). cond same 1 0) other in
      let later : Contains names name = found name names (omega (arith, some, sum_by-cons (weight_of name) x names, none)) in
      (suc later.0, omega (arith, later.1), later.2)
]

-- lists that weigh the same, however names are weighed, have the same names
permuted : (xs ys : List (List ℕ)) → ((weight : List ℕ → ℕ) → sum_by weight ys ≡ sum_by weight xs) → IsPermutation xs ys
permuted [] [] same = IsPermutation-refl []
permuted [] (y ∷ ys) same = absurd (omega (arith, same (λ _. 1), sum_by-cons (λ _. 1) y ys))
permuted (x ∷ xs) ys same =
    let here : Contains ys x = found x ys (omega (arith, same (weight_of x), sum_by-cons (weight_of x) x xs, weighs x)) in
    let rest = remove ys here.0 in
    let out : IsPermutation ys (x ∷ rest) = IsPermutation-remove ys here.0 x here.1 (sym here.2) in
    let left : IsPermutation xs rest =
    permuted xs rest (λ weight. omega (arith, same weight, sum_by_popped weight x ys rest out, sum_by-cons weight x xs)) in
    IsPermutation-trans (x ∷ xs) (x ∷ rest) ys (IsPermutation-cons x xs rest left) (IsPermutation-sym ys (x ∷ rest) out)

pub same-names : (names : Names) → AreSameNames names names
same-names None = tt
same-names (Some names) = IsPermutation-refl names

-- a writer is out for no name besides
pub too-none : (names : Names) → AreOutToo names names []
too-none None = tt
too-none (Some names) = IsPermutation-refl names

pub none-too : (before now : Names) → AreOutToo before now [] → AreSameNames before now
none-too None now out = out
none-too (Some before) now out = out

-- one goes out
pub too-goes : (before now : Names) (name : List ℕ) → GoesOut before now name → AreOutToo before now (name ∷ [])
too-goes None None name out = tt
too-goes None (Some now) name out = absurd out
too-goes (Some before) None name out = absurd out
too-goes (Some before) (Some now) name out =
    subst (IsPermutation (name ∷ before)) (sym out) (IsPermutation-refl (name ∷ before))

-- some are, and then more
pub too-then : (before mid now : Names) (first second : List (List ℕ)) → AreOutToo before mid first → AreOutToo mid now second
    → AreOutToo before now (first ++ second)
too-then None None now first second out more = more
too-then None (Some mid) now first second out more = absurd out
too-then (Some before) None now first second out more = absurd out
too-then (Some before) (Some mid) None first second out more = absurd more
too-then (Some before) (Some mid) (Some now) first second out more =
    permuted ((first ++ second) ++ before) now
    (λ weight. omega (
      arith,
      sum_by-IsPermutation weight (first ++ before) mid out,
      sum_by-IsPermutation weight (second ++ mid) now more,
      sum_by-append weight first before,
      sum_by-append weight second mid,
      sum_by-append weight (first ++ second) before,
      sum_by-append weight first second,
    ))

-- a writer of the first name is out
pub is-out : (before now : Names) (name : List ℕ) (others : List (List ℕ)) → AreOutToo before now (name ∷ others) → IsOut now name
is-out before None name others out = tt
is-out None (Some now) name others out = absurd out
is-out (Some before) (Some now) name others out =
    Contains-permutation (name ∷ (others ++ before)) now name out (0, omega arith, refl)

-- it comes back
pub too-back : (before now later : Names) (name : List ℕ) (others : List (List ℕ)) → AreOutToo before now (name ∷ others)
    → ComesBack now later name → AreOutToo before later others
too-back None None None name others out back = tt
too-back None None (Some later) name others out back = absurd back
too-back None (Some now) later name others out back = absurd out
too-back (Some before) None later name others out back = absurd out
too-back (Some before) (Some now) None name others out back = absurd back
too-back (Some before) (Some now) (Some later) name others out back =
    permuted (others ++ before) later
    (λ weight. omega (
      arith,
      sum_by-IsPermutation weight (name ∷ (others ++ before)) now out,
      sum_by_popped weight name now later back,
      sum_by-cons weight name (others ++ before),
    ))
