-- Members of a list that pass a test, for the laws.
use Rattle.std.proofs.Common.{◌≡◌, ◌∙◌, sym, Bool, true, false, inl, inr, List}
use Rattle.std.specs.List.{Contains, list_any}
use Rattle.std.proofs.lemmas.Bool.{both_ways, cases_Bool, false_from_ne_true}
use Rattle.std.proofs.lemmas.List.Folds.{Any-from_list_any, list_any-from_Any}
use Rattle.std.specs.List.Sorted.{IsPermutation}
use Rattle.std.proofs.lemmas.List.Sorted.{Contains-permutation, IsPermutation-sym}
use Rattle.rs_import.specs.Alike.{HaveSameMembers}

pub any-from : {M : Type 0} (P : M → Bool) (xs : List M) → list_any P xs ≡ true → (x : M) × Contains xs x × (P x ≡ true)
any-from P xs some = let found = Any-from_list_any P xs some in (found.1, (found.0, found.2, found.3), found.4)

pub from-member : {M : Type 0} (P : M → Bool) (xs : List M) (x : M) → Contains xs x → P x ≡ true → list_any P xs ≡ true
from-member P xs x here passes = list_any-from_Any P xs (here.0, x, here.1, here.2, passes)

pub none-from : {M : Type 0} (P : M → Bool) (xs : List M) → ((x : M) → Contains xs x → P x ≡ false) → list_any P xs ≡ false
none-from P xs none = false_from_ne_true _ (λ some. let found = any-from P xs some in both_ways _ (none found.0 found.1) found.2)

pub none-at : {M : Type 0} (P : M → Bool) (xs : List M) → list_any P xs ≡ false → (x : M) → Contains xs x → P x ≡ false
none-at P xs none x here = false_from_ne_true _ (λ passes. both_ways _ none (from-member P xs x here passes))

-- lists with the same members
pub any-same : {M : Type 0} (P : M → Bool) (some others : List M) → HaveSameMembers some others → list_any P some ≡ list_any P others
any-same P some others same = elim (cases_Bool (list_any P some)) [
  | inl passes ↦ let found = any-from P some passes in passes ∙ sym (from-member P others found.0 ((same found.0).0 found.1) found.2)
  | inr fails ↦ fails ∙ sym (none-from P others (λ x here. none-at P some fails x ((same x).1 here)))
]

pub same_members-permutation : {M : Type 0} (some others : List M) → IsPermutation some others → HaveSameMembers some others
same_members-permutation some others moved x =
    (Contains-permutation some others x moved, Contains-permutation others some x (IsPermutation-sym some others moved))
