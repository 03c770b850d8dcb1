-- What may go of a set while its choice stays: for `the_choice_stays_without_those_of_no_weight` of laws.rt, BehindLemmas and
-- GroupSettling.
use Rattle.std.proofs.Common.{◌≡◌, ◌∙◌, sym, ap, refl, arith, Bool, true, false, cond, not, inl, inr, List, [], ◌∷◌, Some}
use Rattle.std.specs.Prelude.{filter}
use Rattle.std.specs.List.{list_any}
use Rattle.std.proofs.lemmas.Bool.{both_ways, cases_Bool}
use Rattle.std.proofs.lemmas.Bool.Decides.{nat_tests}
use Rattle.rs_choice.specs.declared.candidate.Standing.{Standing}
use Rattle.rs_choice.specs.declared.step.Step.{Step}
use Rattle.rs_choice.specs.declared.step.Step.TheVariants as steps
use Rattle.rs_choice.specs.Decision.{beats, decision_steps, unbeaten, remaining, first_member, choice}
use Rattle.rs_choice.proofs.Members.{Mem, any_found, mem-filter, mem_of-filter, list_any-none, none-list_any}
use Rattle.rs_choice.proofs.Eliminations.{choice_left, is_false, unbeaten_means}

filter_swap_first : {M : Type 0} (kept p q : M → Bool) (x : M) (xs : List M) (stays passes : Bool) → kept x ≡ stays
    → (stays ≡ true → q x ≡ passes) →
    filter q (filter kept xs) ≡ filter kept (filter p xs) →
    filter q (cond stays (x ∷ filter kept xs) (filter kept xs)) ≡ filter kept (cond passes (x ∷ filter p xs) (filter p xs))
filter_swap_first kept p q x xs true true is alike later = rw (alike refl, is) (ap (λ rest. x ∷ rest) later)
filter_swap_first kept p q x xs true false is alike later = rw (alike refl) later
filter_swap_first kept p q x xs false true is alike later = rw is later
filter_swap_first kept p q x xs false false is alike later = later

-- two filters one after another, where the second says the same of all that stay
filter_swap : {M : Type 0} (kept p q : M → Bool) (xs : List M) → ((x : M) → Mem xs x → kept x ≡ true → q x ≡ p x) →
    filter q (filter kept xs) ≡ filter kept (filter p xs)
filter_swap kept p q [] alike = refl
filter_swap kept p q (x ∷ xs) alike =
    filter_swap_first kept p q x xs (kept x) (p x) refl (alike x (inl refl)) (filter_swap kept p q xs (λ y h. alike y (inr h)))

-- a test finds the same in some of a list, where for each member that passes it one of these does
any_of_some : {M : Type 0} (p : M → Bool) (some all : List M) → ((w : M) → Mem some w → Mem all w) →
    ((w : M) → Mem all w → p w ≡ true → (third : M) × Mem some third × (p third ≡ true)) →
    (b : Bool) → list_any p some ≡ b → list_any p all ≡ b
any_of_some p some all among covered true found = elim (cases_Bool (list_any p all)) [
  | inl also ↦ also
  | inr none ↦ let one = any_found p some found in absurd (both_ways (p one.0) (list_any-none p all one.0 none (among one.0 one.1)) one.2)
]
any_of_some p some all among covered false none =
    none-list_any p all
    (λ w h. is_false (p w) (λ passes. let third = covered w h passes in
    both_ways (p third.0) (list_any-none p some third.0 none third.1) third.2))

-- each member that stays and that a step removes is removed by one that stays
abbrev pub RemovedByKept : {M : Type 0} → (M → Standing) → (M → Bool) → Step → List M → Type 0
RemovedByKept {M} standing kept step set =
    (one other : M) → Mem set one → kept one ≡ true → Mem set other → beats step (standing other) (standing one) ≡ true →
    (third : M) × Mem set third × (kept third ≡ true) × (beats step (standing third) (standing one) ≡ true)

-- then it leaves of those that stay what stays of those that it leaves
unbeaten-filter : {M : Type 0} (standing : M → Standing) (kept : M → Bool) (step : Step) (set : List M)
    → RemovedByKept standing kept step set →
    unbeaten standing step (filter kept set) ≡ filter kept (unbeaten standing step set)
unfolding unbeaten
unbeaten-filter standing kept step set removed =
    filter_swap kept (λ one. not (list_any (λ other. beats step (standing other) (standing one)) set))
    (λ one. not (list_any (λ other. beats step (standing other) (standing one)) (filter kept set))) set
    (λ one h stays.
    ap not
    (sym (any_of_some (λ other. beats step (standing other) (standing one)) (filter kept set) set
    (λ w k. (mem-filter kept set w k).0)
    (λ w k beaten.
    let third = removed one w h stays k beaten in
    (third.0, mem_of-filter kept set third.0 third.2 third.1, third.3))
    (list_any (λ other. beats step (standing other) (standing one)) (filter kept set)) refl)))

-- and so at each of some steps, of what the steps before leave
abbrev RemovedByKeptAt : {M : Type 0} → (M → Standing) → (M → Bool) → List Step → List M → Type 0
RemovedByKeptAt standing kept [] set = Unit {0}
RemovedByKeptAt standing kept (step ∷ later) set =
    RemovedByKept standing kept step set × RemovedByKeptAt standing kept later (unbeaten standing step set)

remaining-filter : {M : Type 0} (standing : M → Standing) (kept : M → Bool) (steps : List Step) (set : List M)
    → RemovedByKeptAt standing kept steps set →
    remaining standing steps (filter kept set) ≡ filter kept (remaining standing steps set)
unfolding remaining
remaining-filter standing kept [] set removed = refl
remaining-filter standing kept (step ∷ later) set removed =
    ap (remaining standing later) (unbeaten-filter standing kept step set removed.0)
    ∙ remaining-filter standing kept later (unbeaten standing step set) removed.1

-- at a step, the choice removes one too where another removes that one and doesn't remove the choice
abbrev Orders : Step → Type 0
Orders step = (one other chosen : Standing) → beats step other one ≡ true → beats step other chosen ≡ false → beats step chosen one ≡ true

-- whom such a step removes, a member that it leaves removes
removed_by_chosen : {M : Type 0} (standing : M → Standing) (kept : M → Bool) (chosen : M) → kept chosen ≡ true
    → (step : Step) (set : List M) → Orders step →
    Mem (unbeaten standing step set) chosen → RemovedByKept standing kept step set
removed_by_chosen standing kept chosen stays step set orders left one other member one_stays other_member beaten =
    let means = unbeaten_means standing step set chosen left in
    (chosen, means.0, stays, orders (standing one) (standing other) (standing chosen) beaten (means.1 other other_member))

first_of_kept : {M : Type 0} (kept : M → Bool) (xs : List M) (chosen : M) → first_member xs ≡ Some chosen → kept chosen ≡ true →
    first_member (filter kept xs) ≡ Some chosen
first_of_kept kept [] chosen first stays = absurd (cc (first))
first_of_kept kept (x ∷ xs) chosen first stays =
    let same : x ≡ chosen = cc (first) in
    let x_stays : kept x ≡ true = ap kept same ∙ stays in
    rw x_stays first

-- what the steps before MED leave
abbrev pub reaching_med : {M : Type 0} → (M → Standing) → List M → List M
reaching_med standing set = remaining standing (steps.Preference ∷ steps.PathLength ∷ steps.Origin ∷ []) set

removed_at_all : {M : Type 0} (standing : M → Standing) (kept : M → Bool) (set : List M) (chosen : M) → kept chosen ≡ true →
    Mem (remaining standing decision_steps set) chosen → RemovedByKept standing kept steps.Med (reaching_med standing set) →
    RemovedByKeptAt standing kept decision_steps set
unfolding remaining
removed_at_all standing kept set chosen stays left6 by_med =
    let s1 = unbeaten standing steps.Preference set in
    let s2 = unbeaten standing steps.PathLength s1 in
    let s3 = unbeaten standing steps.Origin s2 in
    let s4 = unbeaten standing steps.Med s3 in
    let s5 = unbeaten standing steps.Identifier s4 in
    let left5 = (unbeaten_means standing steps.Address s5 chosen left6).0 in
    let left4 = (unbeaten_means standing steps.Identifier s4 chosen left5).0 in
    let left3 = (unbeaten_means standing steps.Med s3 chosen left4).0 in
    let left2 = (unbeaten_means standing steps.Origin s2 chosen left3).0 in
    let left1 = (unbeaten_means standing steps.PathLength s1 chosen left2).0 in
    let after_med : RemovedByKeptAt standing kept (steps.Identifier ∷ steps.Address ∷ []) s4 = (
      removed_by_chosen standing kept chosen stays steps.Identifier s4 (λ one other chosen h k. grind (arith, nat_tests)) left5,
      (removed_by_chosen standing kept chosen stays steps.Address s5 (λ one other chosen h k. grind (arith, nat_tests)) left6, tt),
    ) in (
      removed_by_chosen standing kept chosen stays steps.Preference set (λ one other chosen h k. grind (arith, nat_tests)) left1,
      (
        removed_by_chosen standing kept chosen stays steps.PathLength s1 (λ one other chosen h k. grind (arith, nat_tests)) left2,
        (
          removed_by_chosen standing kept chosen stays steps.Origin s2 (λ one other chosen h k. grind (arith, nat_tests)) left3,
          (by_med, after_med),
        ),
      ),
    )

-- The choice stays where it doesn't go itself, and each member that stays and that MED removes is removed by one that stays.
pub choice_stays : {M : Type 0} (standing : M → Standing) (set : List M) (kept : M → Bool) (chosen : M) →
    choice standing set ≡ Some chosen → kept chosen ≡ true → RemovedByKept standing kept steps.Med (reaching_med standing set) →
    choice standing (filter kept set) ≡ Some chosen
unfolding choice
choice_stays standing set kept chosen first stays by_med =
    let left = choice_left standing set chosen first in
    ap first_member (remaining-filter standing kept decision_steps set (removed_at_all standing kept set chosen stays left by_med))
    ∙ first_of_kept kept (remaining standing decision_steps set) chosen first stays
