-- Laws of the choice: it compares standings alone, and whatever else its members carry has no effect.
use Rattle.std.specs.Prelude.{◌≡◌, ℕ, ◌+◌, Bool, true, false, cond, not, ◌||◌, refl, List, [], ◌∷◌, length, map}
use Rattle.std.specs.Prelude.{filter, Option, None, Some, MatchOption, slice_get, unwrap_or}
use Rattle.std.specs.List.{All, Contains, list_any, enumerate_from}
use Rattle.std.specs.Option.{option_map}
use Rattle.std.proofs.Common.{◌∙◌, sym, ap, subst, ◌<◌}
use Rattle.std.proofs.Math.Nat.{zero-add, zero-lt-suc}
use Rattle.std.proofs.lemmas.List.Elements.{All-contains_itself, All-filter, filter_agree}
use Rattle.std.proofs.lemmas.List.FromFn.{get_or-enumerate_from, length-enumerate_from}
use Rattle.std.proofs.lemmas.Option.{slice_get-get_or}
use Rattle.rs_choice.specs.declared.candidate.Standing.{Standing}
use Rattle.rs_choice.specs.declared.step.Step.{Step}
use Rattle.rs_choice.specs.Decision.{beats, decision_steps, unbeaten, remaining, first_member, choice, place_of_choice}
use Rattle.rs_choice.specs.Decision.{member_at}

pub list_any-map : {A B : Type 0} (f : A → B) (p : B → Bool) (xs : List A)
    → list_any p (map f xs) ≡ list_any (λ x. p (f x)) xs
list_any-map f p [] = refl
list_any-map f p (x ∷ xs) = ap (λ rest. p (f x) || rest) (list_any-map f p xs)

map_cond : {A B : Type 0} (f : A → B) (b : Bool) (x : A) (xs : List A) (ys : List B) → ys ≡ map f xs →
    cond b (f x ∷ ys) ys ≡ map f (cond b (x ∷ xs) xs)
map_cond f true x xs ys same = ap (λ rest. f x ∷ rest) same
map_cond f false x xs ys same = same

pub filter-map : {A B : Type 0} (f : A → B) (p : B → Bool) (xs : List A)
    → filter p (map f xs) ≡ map f (filter (λ x. p (f x)) xs)
filter-map f p [] = refl
filter-map f p (x ∷ xs) = map_cond f (p (f x)) x (filter (λ x. p (f x)) xs) (filter p (map f xs)) (filter-map f p xs)

pub unbeaten-map : {A B : Type 0} (f : A → B) (standing : B → Standing) (step : Step) (xs : List A) →
    unbeaten standing step (map f xs) ≡ map f (unbeaten (λ x. standing (f x)) step xs)
unfolding unbeaten
unbeaten-map f standing step xs =
    filter-map f (λ one. not (list_any (λ other. beats step (standing other) (standing one)) (map f xs))) xs
    ∙ ap (map f) (filter_agree (λ x. not (list_any (λ other. beats step (standing other) (standing (f x))) (map f xs)))
    (λ x. not (list_any (λ other. beats step (standing (f other)) (standing (f x))) xs))
    (λ x. ap not (list_any-map f (λ other. beats step (standing other) (standing (f x))) xs)) xs)

pub remaining-map : {A B : Type 0} (f : A → B) (standing : B → Standing) (steps : List Step) (xs : List A) →
    remaining standing steps (map f xs) ≡ map f (remaining (λ x. standing (f x)) steps xs)
unfolding remaining
remaining-map f standing [] xs = refl
remaining-map f standing (step ∷ later) xs =
    ap (remaining standing later) (unbeaten-map f standing step xs)
    ∙ remaining-map f standing later (unbeaten (λ x. standing (f x)) step xs)

first_member-map : {A B : Type 0} (f : A → B) (xs : List A) → first_member (map f xs) ≡ option_map f (first_member xs)
first_member-map f [] = refl
first_member-map f (x ∷ xs) = refl

-- mapping the members and then choosing gives the same as choosing and then mapping the choice
pub choice-map : {A B : Type 0} (f : A → B) (standing : B → Standing) (xs : List A) →
    choice standing (map f xs) ≡ option_map f (choice (λ x. standing (f x)) xs)
unfolding choice
choice-map f standing xs =
    ap first_member (remaining-map f standing decision_steps xs)
    ∙ first_member-map f (remaining (λ x. standing (f x)) decision_steps xs)

-- the members of a numbered list
pub map-enumerate : {M : Type 0} (n : ℕ) (xs : List M) → map (λ (place, member). member) (enumerate_from n xs) ≡ xs
map-enumerate n [] = refl
map-enumerate n (x ∷ xs) = ap (λ rest. x ∷ rest) (map-enumerate (n + 1) xs)

enumerate_from-map : {A B : Type 0} (f : A → B) (n : ℕ) (xs : List A) →
    enumerate_from n (map f xs) ≡ map (λ (place, member). (place, f member)) (enumerate_from n xs)
enumerate_from-map f n [] = refl
enumerate_from-map f n (x ∷ xs) = ap (λ rest. (n, f x) ∷ rest) (enumerate_from-map f (n + 1) xs)

pub option_map-option_map : {A B C : Type 0} (f : A → B) (g : B → C) (x : Option A)
    → option_map g (option_map f x) ≡ option_map (λ a. g (f a)) x
option_map-option_map f g None = refl
option_map-option_map f g (Some x) = refl

-- mapping the members leaves the choice at its place
pub place_of_choice-map : {A B : Type 0} (f : A → B) (standing : B → Standing) (xs : List A) →
    place_of_choice standing (map f xs) ≡ place_of_choice (λ x. standing (f x)) xs
unfolding place_of_choice
place_of_choice-map {A} {B} f standing xs =
    let renumber : ℕ × A → ℕ × B = λ (place, member). (place, f member) in
    ap (λ all. option_map (λ (place, member). place) (choice (λ (place, member). standing member) all))
    (enumerate_from-map f 0 xs)
    ∙ ap (option_map (λ (place, member). place))
    (choice-map renumber (λ (place, member). standing member) (enumerate_from 0 xs))
    ∙ option_map-option_map renumber (λ (place, member). place)
    (choice (λ (place, member). standing (f member)) (enumerate_from 0 xs))

-- what is true of all members is true of what the steps leave
remaining-All : {M : Type 0} (P : M → Type 0) (standing : M → Standing) (steps : List Step) (set : List M)
    → All P set → All P (remaining standing steps set)
unfolding remaining unbeaten
remaining-All P standing [] set all = all
remaining-All P standing (step ∷ later) set all =
    remaining-All P standing later (unbeaten standing step set)
    (All-filter (λ one. not (list_any (λ other. beats step (standing other) (standing one)) set)) P set all)

first_member-All : {M : Type 0} (P : M → Type 0) (xs : List M) (x : M) → All P xs → first_member xs ≡ Some x → P x
first_member-All P [] x all e = absurd (subst (λ o. MatchOption o (Unit {0}) (λ _. ⊥)) e tt)
first_member-All P (y ∷ ys) x all e = subst P (ap (λ o. unwrap_or o y) e) (all 0 y (zero-lt-suc (length ys)))

-- what is true of all members is true of the choice
pub choice-All : {M : Type 0} (P : M → Type 0) (standing : M → Standing) (set : List M) (chosen : M) → All P set
    → choice standing set ≡ Some chosen → P chosen
unfolding choice
choice-All P standing set chosen all e =
    first_member-All P (remaining standing decision_steps set) chosen
    (remaining-All P standing decision_steps set all) e

-- the choice is a member
pub choice-Contains : {M : Type 0} (standing : M → Standing) (set : List M) (chosen : M)
    → choice standing set ≡ Some chosen → Contains set chosen
choice-Contains standing set chosen e = choice-All (Contains set) standing set chosen (All-contains_itself set) e

-- numbered members are those at their numbers
pub numbered_at : {M : Type 0} (xs : List M)
    → All (λ numbered. slice_get xs numbered.0 ≡ Some numbered.1) (enumerate_from 0 xs)
numbered_at xs k d within =
    let within_xs = subst (λ n. k < n) (length-enumerate_from 0 xs) within in
    subst (λ numbered. slice_get xs numbered.0 ≡ Some numbered.1) (sym (get_or-enumerate_from 0 xs k d within_xs))
    (ap (slice_get xs) (zero-add k) ∙ slice_get-get_or xs k d.1 within_xs)

member_at_cases : {M : Type 0} (xs : List M) (found : Option (ℕ × M))
    → ((numbered : ℕ × M) → found ≡ Some numbered → slice_get xs numbered.0 ≡ Some numbered.1) →
    member_at xs (option_map (λ (place, member). place) found) ≡ option_map (λ (place, member). member) found
member_at_cases xs None at = refl
member_at_cases xs (Some numbered) at = at numbered refl

-- the member at the place of the choice is the choice
pub member_at-place_of_choice : {M : Type 0} (standing : M → Standing) (xs : List M)
    → member_at xs (place_of_choice standing xs) ≡ choice standing xs
unfolding place_of_choice
member_at-place_of_choice {M} standing xs =
    let numbered : ℕ × M → Standing = λ (place, member). standing member in
    member_at_cases xs (choice numbered (enumerate_from 0 xs))
    (λ chosen e. choice-All (λ numbered. slice_get xs numbered.0 ≡ Some numbered.1) numbered
    (enumerate_from 0 xs) chosen (numbered_at xs) e)
    ∙ sym (ap (choice standing) (sym (map-enumerate 0 xs))
    ∙ choice-map (λ (place, member). member) standing (enumerate_from 0 xs))
