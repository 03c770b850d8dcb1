-- Whom the choice of a set beats on the way to it: but for MED, who isn't beaten by it is beaten by none. For removal.rt, and for
-- removing.rt of rs_survey.
use Rattle.std.proofs.Common.{◌≡◌, ◌∙◌, sym, ap, refl, subst, arith, ℕ, Bool, true, false, not, ◌&&◌, List, [], ◌∷◌, ◌++◌, inl, inr}
use Rattle.std.specs.Prelude.{filter, nat_lt, None, Some}
use Rattle.std.specs.List.{list_any, find}
use Rattle.std.proofs.lemmas.Bool.{cases_Bool}
use Rattle.std.proofs.lemmas.Bool.Decides.{nat_tests}
use Rattle.rs_update.specs.Spelling.{origin_code}
use Rattle.rs_choice.specs.declared.candidate.Standing.{Standing}
use Rattle.rs_choice.specs.declared.step.Step.{Step}
use Rattle.rs_choice.specs.declared.step.Step.TheVariants.{Preference, PathLength, Origin, Med, Identifier, Address}
use Rattle.rs_choice.specs.Decision.{beats, choice, decision_steps, remaining, unbeaten}
use Rattle.rs_choice.proofs.Eliminations.{choice_left, remaining-append, remaining_among, unbeaten_means}
use Rattle.rs_choice.proofs.Members.{Mem, list_any-none, none-list_any}
use Rattle.rs_explain.specs.declared.contender.Contender.{Contender}
use Rattle.rs_explain.specs.Contenders.{standing_in}
use Rattle.rs_explain.specs.Removals.{beats_by_med, rival_of}

lt_follows : (a b c : ℕ) → nat_lt a b ≡ false → nat_lt b c ≡ false → nat_lt a c ≡ false
lt_follows a b c first later = grind (arith, nat_tests)

abbrev pub is_med : Step → Bool
is_med Med = true
is_med Preference = false
is_med PathLength = false
is_med Origin = false
is_med Identifier = false
is_med Address = false

pub plain_step : (step : Step) → (step ≡ Med → ⊥) → is_med step ≡ false
plain_step Med other = absurd (other refl)
plain_step Preference other = refl
plain_step PathLength other = refl
plain_step Origin other = refl
plain_step Identifier other = refl
plain_step Address other = refl

follows : (step : Step) (other best one : Standing) → is_med step ≡ false → beats step other best ≡ false → beats step best one ≡ false →
    beats step other one ≡ false
follows Preference other best one plain first later = lt_follows one.preference best.preference other.preference later first
follows PathLength other best one plain first later = lt_follows other.path_length best.path_length one.path_length first later
follows Origin other best one plain first later =
    lt_follows (origin_code other.origin) (origin_code best.origin) (origin_code one.origin) first later
follows Med other best one plain first later = absurd (cc plain)
follows Identifier other best one plain first later = lt_follows other.id best.id one.id first later
follows Address other best one plain first later = lt_follows other.address best.address one.address first later

-- no member of a set beats one of its members
pub record IsUnbeaten {M : Type 0} (standing : M → Standing) (step : Step) (set : List M) (best : M) : Type 0 where
  pub inside : Mem set best
  pub unbeaten_by : (other : M) → Mem set other → beats step (standing other) (standing best) ≡ false

pub beaten_by_best : {M : Type 0} (standing : M → Standing) (step : Step) (set : List M) (best one : M) → is_med step ≡ false →
    IsUnbeaten standing step set best →
    list_any (λ other. beats step (standing other) (standing one)) set ≡ beats step (standing best) (standing one)
beaten_by_best {M = M} standing step set best one plain is =
    let test = λ (other : M). beats step (standing other) (standing one) in
    elim (cases_Bool (test best)) [
      | inl beaten ↦ elim (cases_Bool (list_any test set)) [
        | inl some ↦ some ∙ sym beaten
        | inr none ↦ absurd (cc (sym beaten ∙ list_any-none test set best none is.inside))
      ]
      | inr safe ↦
          none-list_any test set (λ other there.
          follows step (standing other) (standing best) (standing one) plain (is.unbeaten_by other there) safe) ∙ sym safe
    ]

unbeaten_by_best : {M : Type 0} (standing : M → Standing) (step : Step) (set : List M) (best : M) → is_med step ≡ false →
    IsUnbeaten standing step set best →
    unbeaten standing step set ≡ filter (λ one. not (beats step (standing best) (standing one))) set
unfolding unbeaten
unbeaten_by_best standing step set best plain is =
    λ i. filter (λ one. not (beaten_by_best standing step set best one plain is i)) set

-- ---- at each step of a decision

module _ {M : Type 0} (standing : M → Standing) (set : List M) (best : M) (is : choice standing set ≡ Some best) where
  pub stands : (before : List Step) (step : Step) (later : List Step) → decision_steps ≡ before ++ step ∷ later →
      IsUnbeaten standing step (remaining standing before set) best
  unfolding remaining
  stands before step later order =
      let reached = remaining standing before set in
      let all : Mem (remaining standing (before ++ step ∷ later) set) best =
      subst (λ (steps : List Step). Mem (remaining standing steps set) best) order (choice_left standing set best is) in
      let here : Mem (remaining standing later (unbeaten standing step reached)) best =
      subst (λ (left : List M). Mem left best) (remaining-append standing before (step ∷ later) set) all in
      let told = unbeaten_means standing step reached best
      (remaining_among standing later (unbeaten standing step reached) best here) in
      record { inside = told.0; unbeaten_by = told.1 }

  -- those that reach the step by MED
  pub reaching : remaining standing (Preference ∷ PathLength ∷ Origin ∷ []) set
      ≡ filter (λ one. not (beats Origin (standing best) (standing one)))
      (filter (λ one. not (beats PathLength (standing best) (standing one)))
      (filter (λ one. not (beats Preference (standing best) (standing one))) set))
  unfolding remaining
  reaching =
      let first = unbeaten standing Preference set in
      let second = unbeaten standing PathLength first in
      unbeaten_by_best standing Origin second best refl
      (stands (Preference ∷ PathLength ∷ []) Origin (Med ∷ Identifier ∷ Address ∷ []) refl)
      ∙ ap (filter (λ one. not (beats Origin (standing best) (standing one))))
      (unbeaten_by_best standing PathLength first best refl
      (stands (Preference ∷ []) PathLength (Origin ∷ Med ∷ Identifier ∷ Address ∷ []) refl)
      ∙ ap (filter (λ one. not (beats PathLength (standing best) (standing one))))
      (unbeaten_by_best standing Preference set best refl
      (stands [] Preference (PathLength ∷ Origin ∷ Med ∷ Identifier ∷ Address ∷ []) refl)))

-- ---- the rival

none-find : {M : Type 0} (p : M → Bool) (xs : List M) → list_any p xs ≡ false → find p xs ≡ None
none-find p [] none = refl
none-find p (x ∷ xs) none = elim (cases_Bool (p x)) [
  | inl found ↦ absurd (cc (none, found))
  | inr fails ↦ rw fails (none-find p xs (rw fails at none))
]

find-filter : {M : Type 0} (p q : M → Bool) (xs : List M) → find p (filter q xs) ≡ find (λ x. q x && p x) xs
find-filter p q [] = refl
find-filter p q (x ∷ xs) = elim (cases_Bool (q x)) [
  | inl kept ↦ rw kept (rw (find-filter p q xs) refl)
  | inr dropped ↦ rw dropped (find-filter p q xs)
]

-- the step by MED comes after three others
before_med : (before later : List Step) → decision_steps ≡ before ++ Med ∷ later → before ≡ Preference ∷ PathLength ∷ Origin ∷ []
before_med [] later order = absurd (cc order)
before_med (a ∷ []) later order = absurd (cc order)
before_med (a ∷ b ∷ []) later order = absurd (cc order)
before_med (a ∷ b ∷ c ∷ []) later order = cc order
before_med (a ∷ b ∷ c ∷ d ∷ []) later order = absurd (cc order)
before_med (a ∷ b ∷ c ∷ d ∷ e ∷ []) later order = absurd (cc order)
before_med (a ∷ b ∷ c ∷ d ∷ e ∷ f ∷ rest) later order = absurd (no_more rest later (cc order))
  where
    no_more : (rest later : List Step) → [] ≡ rest ++ Med ∷ later → ⊥
    no_more [] later is = absurd (cc is)
    no_more (x ∷ rest) later is = absurd (cc is)

module _ (set : List Contender) (best loser : Contender) (is : choice standing_in set ≡ Some best) where
  -- one that the best one doesn't beat has none, but by MED
  pub rival-none : (step : Step) → is_med step ≡ false → beats step best.standing loser.standing ≡ false → (before later : List Step) →
      decision_steps ≡ before ++ step ∷ later → None ≡ rival_of step best (remaining standing_in before set) loser
  rival-none step plain safe before later order =
      let reached = remaining standing_in before set in
      let none = none-find (λ other. beats step other.standing loser.standing) reached
      (beaten_by_best standing_in step reached best loser plain (stands standing_in set best is before step later order) ∙ safe) in
      rw safe (sym none)

  rival-at_med : beats Med best.standing loser.standing ≡ false → (before later : List Step) → decision_steps ≡ before ++ Med ∷ later →
      find (λ other. beats_by_med best.standing loser.standing other.standing) set
      ≡ rival_of Med best (remaining standing_in before set) loser
  rival-at_med safe before later order =
      let by_med = λ (other : Contender). beats Med other.standing loser.standing in
      let at_first = λ (other : Contender). not (beats Preference best.standing other.standing) in
      let at_second = λ (other : Contender). not (beats PathLength best.standing other.standing) in
      let at_third = λ (other : Contender). not (beats Origin best.standing other.standing) in
      let found : find by_med (remaining standing_in before set)
      ≡ find (λ other. at_first other && (at_second other && (at_third other && by_med other))) set =
      ap (λ (before : List Step). find by_med (remaining standing_in before set)) (before_med before later order)
      ∙ ap (find by_med) (reaching standing_in set best is)
      ∙ find-filter by_med at_third (filter at_second (filter at_first set))
      ∙ find-filter (λ other. at_third other && by_med other) at_second (filter at_first set)
      ∙ find-filter (λ other. at_second other && (at_third other && by_med other)) at_first set in
      rw safe (sym found)

  pub rival-med : (step : Step) → step ≡ Med → beats step best.standing loser.standing ≡ false → (before later : List Step) →
      decision_steps ≡ before ++ step ∷ later →
      find (λ other. beats_by_med best.standing loser.standing other.standing) set
      ≡ rival_of step best (remaining standing_in before set) loser
  rival-med Med is = rival-at_med
  rival-med Preference is = absurd (cc is)
  rival-med PathLength is = absurd (cc is)
  rival-med Origin is = absurd (cc is)
  rival-med Identifier is = absurd (cc is)
  rival-med Address is = absurd (cc is)
