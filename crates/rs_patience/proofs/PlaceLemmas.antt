-- Lists, place by place: for CrewLemmas, and for the lemmas of routers, of shards and of floors.
use Rattle.std.proofs.Common.{◌≡◌, ◌≢◌, ◌∙◌, sym, ap, subst, refl, ℕ, ◌+◌, ◌<◌, suc, zero, arith, inl, inr, All, List, [], ◌∷◌, ◌++◌}
use Rattle.std.proofs.Common.{append_assoc, drop, get_or, length, map, take, Option, Some, None}
use Rattle.std.specs.Prelude.{slice_get, slice_set}
use Rattle.std.specs.Option.{option_map}
use Rattle.std.proofs.lemmas.List.{drop-drop, length-map, map-append, take_more}
use Rattle.std.proofs.lemmas.Option.{get_or_from_slice_get, slice_get-get_or, slice_get-map, slice_get_cases, slice_get_within}

-- ---- one place of a list changes

pub get-set_same : {X : Type 0} (xs : List X) (at : ℕ) (x : X) → at < length xs → slice_get (slice_set xs at x) at ≡ Some x
get-set_same [] at x h = absurd (omega arith)
get-set_same (y ∷ ys) zero x h = refl
get-set_same (y ∷ ys) (suc at) x h = get-set_same ys at x (omega arith)

pub get-set_other : {X : Type 0} (xs : List X) (at : ℕ) (x : X) (other : ℕ) → other ≢ at
    → slice_get (slice_set xs at x) other ≡ slice_get xs other
get-set_other [] at x other apart = refl
get-set_other (y ∷ ys) zero x zero apart = absurd (apart refl)
get-set_other (y ∷ ys) zero x (suc other) apart = refl
get-set_other (y ∷ ys) (suc at) x zero apart = refl
get-set_other (y ∷ ys) (suc at) x (suc other) apart = get-set_other ys at x other (λ e. apart (ap suc e))

-- f can't tell the new one from the old
pub map-set_same : {X Y : Type 0} (f : X → Y) (xs : List X) (at : ℕ) (old new : X) → slice_get xs at ≡ Some old → f new ≡ f old
    → map f (slice_set xs at new) ≡ map f xs
map-set_same f [] at old new e same = refl
map-set_same f (y ∷ ys) zero old new e same = let found : y ≡ old = cc in ap (λ z. z ∷ map f ys) (same ∙ ap f (sym found))
map-set_same f (y ∷ ys) (suc at) old new e same = ap (λ zs. f y ∷ zs) (map-set_same f ys at old new e same)

-- ---- what stands at a place

pub some-at : {X : Type 0} (xs : List X) (at : ℕ) → at < length xs → (x : X) × (slice_get xs at ≡ Some x)
some-at xs at h = elim (slice_get_cases xs at).1 [ inl there ↦ (there.0, there.2) | inr past ↦ absurd (omega (arith, h, past.0)) ]

pub all-at : {X : Type 0} (P : X → Type 0) (xs : List X) → All P xs → (at : ℕ) (x : X) → slice_get xs at ≡ Some x → P x
all-at P xs all at x e = subst P (get_or_from_slice_get xs at x x e) (all at x (slice_get_within xs at x e))

pub get-front : {X : Type 0} (xs ys : List X) (at : ℕ) → at < length xs → slice_get (xs ++ ys) at ≡ slice_get xs at
get-front [] ys at h = absurd (omega arith)
get-front (x ∷ xs) ys zero h = refl
get-front (x ∷ xs) ys (suc at) h = get-front xs ys at (omega arith)

pub get-seam : {X : Type 0} (xs ys : List X) (x : X) → slice_get (xs ++ x ∷ ys) (length xs) ≡ Some x
get-seam [] ys x = refl
get-seam (y ∷ xs) ys x = get-seam xs ys x

pub take-more : {X : Type 0} (xs : List X) (at : ℕ) (x : X) → slice_get xs at ≡ Some x → take (at + 1) xs ≡ take at xs ++ x ∷ []
take-more xs at x e = take_more xs at x (slice_get_within xs at x e) ∙ ap (λ y. take at xs ++ y ∷ []) (get_or_from_slice_get xs at x x e)

-- the first of what is left from a place on stands there, and the others are left behind it
pub drop-front : {X : Type 0} (xs : List X) (at : ℕ) (x : X) (later : List X) → drop at xs ≡ x ∷ later → slice_get xs at ≡ Some x
drop-front [] zero x later e = absurd cc
drop-front [] (suc at) x later e = absurd cc
drop-front (y ∷ ys) zero x later e = cc
drop-front (y ∷ ys) (suc at) x later e = drop-front ys at x later e

pub drop-later : {X : Type 0} (xs : List X) (at : ℕ) (x : X) (later : List X) → drop at xs ≡ x ∷ later → drop (at + 1) xs ≡ later
drop-later xs at x later e = sym (drop-drop 1 at xs) ∙ ap (drop 1) e

-- ---- lists that are made of others

pub get-map : {X Y : Type 0} (f : X → Y) (xs : List X) (at : ℕ) (x : X) → slice_get xs at ≡ Some x → slice_get (map f xs) at ≡ Some (f x)
get-map f xs at x e = slice_get-map f xs at ∙ ap (option_map f) e

pub map-get : {X Y : Type 0} (f : X → Y) (xs : List X) (at : ℕ) (y : Y) → slice_get (map f xs) at ≡ Some y → (x : X)
    × ((slice_get xs at ≡ Some x) × (f x ≡ y))
map-get f [] at y e = absurd cc
map-get f (x ∷ xs) zero y e = (x, (refl, cc))
map-get f (x ∷ xs) (suc at) y e = map-get f xs at y e

-- two lists that look the same have as many members, and do so at each place
pub same-counted : {X Y Z : Type 0} (f : X → Z) (g : Y → Z) (xs : List X) (ys : List Y) → map f xs ≡ map g ys → length xs ≡ length ys
same-counted f g xs ys same = sym (length-map xs f) ∙ ap length same ∙ length-map ys g

pub same-made : {X Y Z : Type 0} (f : X → Z) (g : Y → Z) (xs : List X) (ys : List Y) → map f xs ≡ map g ys → (at : ℕ) (x : X) (y : Y)
    → slice_get xs at ≡ Some x → slice_get ys at ≡ Some y → f x ≡ g y
same-made f g xs ys same at x y at_xs at_ys =
    let both : Some (f x) ≡ Some (g y) = sym (get-map f xs at x at_xs) ∙ ap (λ zs. slice_get zs at) same ∙ get-map g ys at y at_ys in
    cc

-- where one list is gone through, the other has a member at the place that looks the same as the next
pub next-made : {X Y Z : Type 0} (f : X → Z) (g : Y → Z) (xs : List X) (ys : List Y) → map f xs ≡ map g ys
    → (at : ℕ) (x : X) (later : List X) (d : Y) → drop at xs ≡ x ∷ later
    → (slice_get ys at ≡ Some (get_or ys at d)) × (f x ≡ g (get_or ys at d))
next-made f g xs ys same at x later d left =
    let here = drop-front xs at x later left in
    let there = slice_get-get_or ys at d (omega (arith, same-counted f g xs ys same, slice_get_within xs at x here)) in
    (there, same-made f g xs ys same at x (get_or ys at d) here there)

-- what is made of one list and of what is left of another stays the same where the next one moves over
pub next-moves : {X Y Z : Type 0} (f : X → Z) (g : Y → Z) (xs : List X) (x : X) (before left : List Y) (y : Y) (whole : List Z) → f x ≡ g y
    → before ≡ y ∷ left → map f xs ++ map g before ≡ whole → map f (xs ++ x ∷ []) ++ map g left ≡ whole
next-moves f g xs x before left y whole same front is =
    rw (map-append f xs (x ∷ []), append_assoc (map f xs) (f x ∷ []) (map g left), same) (rw front at is)

-- ---- one place changes as told, and all others stay

stays : {X : Type 0} (f : X → X) (o : Option X) → ((x : X) → f x ≡ x) → o ≡ option_map f o
stays f None h = refl
stays f (Some x) h = ap Some (sym (h x))

pub one-turned : {X : Type 0} (f : ℕ → X → X) (xs : List X) (at : ℕ) (x new : X) → slice_get xs at ≡ Some x → new ≡ f at x
    → ((other : ℕ) (y : X) → other ≢ at → f other y ≡ y)
    → (other : ℕ) → slice_get (slice_set xs at new) other ≡ option_map (f other) (slice_get xs other)
one-turned f [] at x new e is apart other = absurd cc
one-turned f (y ∷ ys) zero x new e is apart zero = let found : y ≡ x = cc in ap Some (is ∙ ap (λ z. f zero z) (sym found))
one-turned f (y ∷ ys) zero x new e is apart (suc other) =
    stays (f (suc other)) (slice_get ys other) (λ z. apart (suc other) z (λ h. omega (arith, h)))
one-turned f (y ∷ ys) (suc at) x new e is apart zero = ap Some (sym (apart zero y (λ h. omega (arith, h))))
one-turned f (y ∷ ys) (suc at) x new e is apart (suc other) =
    one-turned (λ n. f (suc n)) ys at x new e is (λ n z h. apart (suc n) z (λ g. h (omega (arith, g)))) other
