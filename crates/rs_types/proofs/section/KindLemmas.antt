-- Attributes by their types: look-ups, and lists that have one of each type at most.
-- For `is_at_fault` of concerns.rt, and the lemmas of messages and of what is found and written by type.
use Rattle.std.proofs.Common.{◌≡◌, ℕ, zero, suc, ◌+◌, ◌<◌, ◌≤◌, ◌==◌, ◌⊎◌, true, false, List, [], ◌∷◌, Option, Some, None, refl, sym, ◌∙◌}
use Rattle.std.proofs.Common.{arith, inl, inr}
use Rattle.std.specs.Prelude.{find, is_some}
use Rattle.std.specs.List.{filter_map, range_with_len, list_any, AllByRecursion}
use Rattle.std.proofs.lemmas.Bool.Decides.{nat_tests}
use Rattle.rs_types.specs.Gathered.{look, passed_on_in}
use Rattle.rs_types.specs.PathAttributes.{PassedOn}
use Rattle.rs_types.specs.Section.{Item, has_type}

-- nothing, or something
pub cases_Option : {X : Type 0} (found : Option X) → (found ≡ None) ⊎ ((x : X) × (found ≡ Some x))
cases_Option None = inl refl
cases_Option (Some x) = inr (x, refl)

-- a look-up that finds something, and one that finds nothing
pub some_there : {X : Type 0} (found : Option X) → is_some found ≡ true → (x : X) × (found ≡ Some x)
some_there None e = absurd cc
some_there (Some x) e = (x, refl)

pub none_there : {X : Type 0} (found : Option X) → is_some found ≡ false → found ≡ None
none_there None e = refl
none_there (Some x) e = absurd cc

-- what holds of each number from one on holds of a range
pub All-range : (P : ℕ → Type 0) (a n b : ℕ) → a + n ≡ b → ((k : ℕ) → a ≤ k → k < b → P k) → AllByRecursion P (range_with_len a n)
All-range P a zero b end each = tt
All-range P a (suc n) b end each =
    (each a (omega arith) (omega arith), All-range P (a + 1) n b (omega arith) (λ k le lt. each k (omega arith) lt))

-- lists made the same way of each element
pub filter_map-same : {X Y : Type 0} (f g : X → Option Y) (xs : List X) → AllByRecursion (λ x. f x ≡ g x) xs
    → filter_map f xs ≡ filter_map g xs
filter_map-same f g [] each = refl
filter_map-same f g (x ∷ xs) each = grind (arith, filter_map-same f g xs each.1, each.0)

pub filter_map-none : {X Y : Type 0} (f : X → Option Y) (xs : List X) → AllByRecursion (λ x. f x ≡ None) xs → filter_map f xs ≡ []
filter_map-none f [] each = refl
filter_map-none f (x ∷ xs) each = grind (arith, filter_map-none f xs each.1, each.0)

-- what is found has the type that is looked for
pub kind_of_found : {X : Type 0} (kind : X → ℕ) (k : ℕ) (xs : List X) (x : X) → find (λ y. kind y == k) xs ≡ Some x → kind x ≡ k
kind_of_found kind k [] x e = absurd cc
kind_of_found kind k (y ∷ ys) x e = grind (arith, nat_tests, kind_of_found kind k ys x)

-- a list with at most one element for each type, made by a function of the type
module _ {X : Type 0} (kind : X → ℕ) (make : ℕ → Option X) (is : (k : ℕ) (x : X) → make k ≡ Some x → kind x ≡ k) where
  pub find-none : (k : ℕ) (ks : List ℕ) → make k ≡ None → find (λ x. kind x == k) (filter_map make ks) ≡ None
  find-none k [] none = refl
  find-none k (j ∷ js) none = grind (arith, nat_tests, find-none k js none, is j)

  -- it is found at its type
  pub find-made : (k : ℕ) (ks : List ℕ) → list_any (λ j. j == k) ks ≡ true → find (λ x. kind x == k) (filter_map make ks) ≡ make k
  find-made k [] among = absurd cc
  find-made k (j ∷ js) among = grind (arith, nat_tests, find-made k js, find-none k (j ∷ js), is j, is k)

-- a number stands in a range
pub range-any : (a n k : ℕ) → a ≤ k → k < a + n → list_any (λ j. j == k) (range_with_len a n) ≡ true
range-any a zero k le lt = absurd (omega arith)
range-any a (suc n) k le lt = grind (arith, nat_tests, range-any (a + 1) n k)

-- ---- attributes

-- a type stands among attributes where it is found
pub has_look : (kind : ℕ) (items : List Item) → has_type kind items ≡ is_some (look kind items)
has_look kind [] = refl
has_look kind (item ∷ items) = grind (arith, has_look kind items)

pub none_of_type : (kind : ℕ) (items : List Item) → has_type kind items ≡ false → look kind items ≡ None
none_of_type kind items none = none_there (look kind items) (sym (has_look kind items) ∙ none)

-- what is passed on has the type that it is looked up by
pub passed_on_kind : (items : List Item) (kind : ℕ) (other : PassedOn) → passed_on_in items kind ≡ Some other → other.kind ≡ kind
passed_on_kind items kind other e = grind (arith, kind_of_found (λ (i : Item). i.kind) kind items)
