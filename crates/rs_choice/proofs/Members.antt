-- Members of a list, of what is made of it, and of what a test finds in it: for the lemmas of choices, clients and plans, and those of
-- rs_explain.
use Rattle.std.proofs.Common.{◌≡◌, ◌∙◌, sym, ap, subst, refl, arith, ℕ, ◌<◌, suc, zero, Bool, true, false, ◌⊎◌, inl, inr, List, [], ◌∷◌}
use Rattle.std.proofs.Common.{◌++◌, length, map, get_or, Some}
use Rattle.std.specs.Prelude.{filter, slice_get}
use Rattle.std.specs.List.{list_any, All, Contains}
use Rattle.std.proofs.lemmas.Bool.{cond_both, or_cases, or_parts}
use Rattle.std.proofs.lemmas.Option.{get_or_from_slice_get, slice_get_within}

-- x is a member of a list
abbrev pub Mem : {M : Type 0} → List M → M → Type 0
Mem [] x = ⊥
Mem (y ∷ ys) x = (y ≡ x) ⊎ Mem ys x

-- ---- where it stands

pub mem-at : {M : Type 0} (xs : List M) (x : M) → Mem xs x → (k : ℕ) × (k < length xs) × ((d : M) → get_or xs k d ≡ x)
mem-at [] x h = absurd h
mem-at (y ∷ ys) x (inl same) = (0, omega arith, λ d. same)
mem-at (y ∷ ys) x (inr h) = let found = mem-at ys x h in (suc found.0, omega (arith, found.1), found.2)

at-mem : {M : Type 0} (xs : List M) (k : ℕ) (x : M) → k < length xs → get_or xs k x ≡ x → Mem xs x
at-mem [] k x within is = absurd (omega arith)
at-mem (y ∷ ys) zero x within is = inl is
at-mem (y ∷ ys) (suc k) x within is = inr (at-mem ys k x (omega arith) is)

pub mem-contains : {M : Type 0} (xs : List M) (x : M) → Mem xs x → Contains xs x
mem-contains xs x h = let found = mem-at xs x h in (found.0, found.1, found.2 x)

pub contains-mem : {M : Type 0} (xs : List M) (x : M) → Contains xs x → Mem xs x
contains-mem xs x h = at-mem xs h.0 x h.1 h.2

pub contains_at : {M : Type 0} (xs : List M) (place : ℕ) (x : M) → slice_get xs place ≡ Some x → Contains xs x
contains_at xs place x at = (place, slice_get_within xs place x at, get_or_from_slice_get xs place x x at)

pub mem-slice_get : {M : Type 0} (xs : List M) (k : ℕ) (x : M) → slice_get xs k ≡ Some x → Mem xs x
mem-slice_get xs k x at = contains-mem xs x (contains_at xs k x at)

pub slice_get-mem : {M : Type 0} (xs : List M) (x : M) → Mem xs x → (k : ℕ) × (slice_get xs k ≡ Some x)
slice_get-mem [] x h = absurd h
slice_get-mem (y ∷ ys) x (inl same) = (0, ap Some same)
slice_get-mem (y ∷ ys) x (inr h) = let found = slice_get-mem ys x h in (suc found.0, found.1)

pub some_at : {M : Type 0} (xs : List M) (k : ℕ) → k < length xs → (x : M) × (slice_get xs k ≡ Some x)
some_at [] k within = absurd (omega arith)
some_at (x ∷ xs) zero within = (x, refl)
some_at (x ∷ xs) (suc k) within = some_at xs k (omega (arith, within))

pub all_mem : {M : Type 0} (P : M → Type 0) (xs : List M) (x : M) → All P xs → Mem xs x → P x
all_mem P xs x all h = let at = mem-contains xs x h in subst P at.2 (all at.0 x at.1)

-- ---- two lists after one another

pub mem-append_left : {M : Type 0} (xs ys : List M) (x : M) → Mem xs x → Mem (xs ++ ys) x
mem-append_left [] ys x h = absurd h
mem-append_left (y ∷ xs) ys x (inl same) = inl same
mem-append_left (y ∷ xs) ys x (inr h) = inr (mem-append_left xs ys x h)

pub mem-append_right : {M : Type 0} (xs ys : List M) (x : M) → Mem ys x → Mem (xs ++ ys) x
mem-append_right [] ys x h = h
mem-append_right (y ∷ xs) ys x h = inr (mem-append_right xs ys x h)

-- members of two lists, where those of the second are of a third
pub mem_widen : {M : Type 0} (first some others : List M) (x : M) → (Mem some x → Mem others x) → Mem (first ++ some) x
    → Mem (first ++ others) x
mem_widen [] some others x wider h = wider h
mem_widen (y ∷ ys) some others x wider (inl same) = inl same
mem_widen (y ∷ ys) some others x wider (inr h) = inr (mem_widen ys some others x wider h)

-- ---- what a function makes of the members

pub mem_map : {M N : Type 0} (f : M → N) (xs : List M) (x : M) → Mem xs x → Mem (map f xs) (f x)
mem_map f [] x h = absurd h
mem_map f (y ∷ xs) x (inl same) = inl (ap f same)
mem_map f (y ∷ xs) x (inr h) = inr (mem_map f xs x h)

pub mem_of-map : {M N : Type 0} (f : M → N) (xs : List M) (y : N) → Mem (map f xs) y → (x : M) × Mem xs x × (f x ≡ y)
mem_of-map f [] y h = absurd h
mem_of-map f (x ∷ xs) y (inl same) = (x, inl refl, same)
mem_of-map f (x ∷ xs) y (inr h) = let found = mem_of-map f xs y h in (found.0, inr found.1, found.2)

-- ---- what a filter keeps: the members that pass its test

pub mem-filter : {M : Type 0} (p : M → Bool) (xs : List M) (x : M) → Mem (filter p xs) x → Mem xs x × (p x ≡ true)
mem-filter p [] x h = absurd h
mem-filter p (y ∷ ys) x h = cond_both (p y) (y ∷ filter p ys) (filter p ys) (λ list. Mem list x → Mem (y ∷ ys) x × (p x ≡ true))
    (λ passes kept. elim kept [
      | inl same ↦ (inl same, ap p (sym same) ∙ passes)
      | inr later ↦ let found = mem-filter p ys x later in (inr found.0, found.1)
    ])
    (λ fails later. let found = mem-filter p ys x later in (inr found.0, found.1))
    h

pub mem_of-filter : {M : Type 0} (p : M → Bool) (xs : List M) (x : M) → p x ≡ true → Mem xs x → Mem (filter p xs) x
mem_of-filter p [] x passes h = absurd h
mem_of-filter p (y ∷ ys) x passes h = cond_both (p y) (y ∷ filter p ys) (filter p ys) (λ list. Mem list x)
    (λ kept. elim h [ inl same ↦ inl same | inr later ↦ inr (mem_of-filter p ys x passes later) ])
    (λ fails. elim h [ inl same ↦ absurd (cc (fails, passes, ap p same)) | inr later ↦ mem_of-filter p ys x passes later ])

-- ---- what a test finds: a member that passes, or none does

pub any_found : {M : Type 0} (p : M → Bool) (xs : List M) → list_any p xs ≡ true → (x : M) × Mem xs x × (p x ≡ true)
any_found p [] h = absurd (cc (h))
any_found p (y ∷ ys) h = elim (or_cases (p y) (list_any p ys) h) [
  | inl here ↦ (y, inl refl, here)
  | inr later ↦ let found = any_found p ys later in (found.0, inr found.1, found.2)
]

pub list_any-none : {M : Type 0} (p : M → Bool) (xs : List M) (x : M) → list_any p xs ≡ false → Mem xs x → p x ≡ false
list_any-none p [] x none h = absurd h
list_any-none p (y ∷ ys) x none (inl same) = ap p (sym same) ∙ (or_parts (p y) (list_any p ys) none).0
list_any-none p (y ∷ ys) x none (inr h) = list_any-none p ys x (or_parts (p y) (list_any p ys) none).1 h

pub none-list_any : {M : Type 0} (p : M → Bool) (xs : List M) → ((x : M) → Mem xs x → p x ≡ false) → list_any p xs ≡ false
none-list_any p [] none = refl
none-list_any p (y ∷ ys) none = rw (none y (inl refl), none-list_any p ys (λ x h. none x (inr h))) refl
