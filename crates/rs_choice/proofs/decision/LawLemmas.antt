-- Laws of the decision process: some member is left, and who is left is so at each step.
-- For laws.rt, BehindLemmas, and the lemmas of clients.
use Rattle.std.proofs.Common.{◌≡◌, ◌∙◌, sym, ap, subst, refl, arith, Bool, true, false, ◌⊎◌, inl, inr, List, [], ◌∷◌, Some, None}
use Rattle.std.specs.Prelude.{filter}
use Rattle.std.specs.List.{list_any}
use Rattle.std.proofs.lemmas.Bool.{both_ways, cases_Bool}
use Rattle.std.proofs.lemmas.Bool.Decides.{nat_tests}
use Rattle.rs_choice.specs.declared.candidate.Standing.{Standing}
use Rattle.rs_choice.specs.declared.step.Step.{Step}
use Rattle.rs_choice.specs.declared.step.Step.TheVariants as steps
use Rattle.rs_choice.specs.Policy.{is_permitted}
use Rattle.rs_choice.specs.Comparison.{Precedes, IsAheadByMed}
use Rattle.rs_choice.specs.Decision.{SentRoute, beats, decision_steps, unbeaten, remaining, choice, standing_of}
use Rattle.rs_choice.specs.Laws.{SameMembers, ChoiceIsMember, ChoiceIsUnbeaten, ChoiceIgnoresOrder, MedDecidesWithinNeighbour}
use Rattle.rs_choice.specs.Laws.{OpenPolicySharesChoice}
use Rattle.rs_choice.proofs.Members.{Mem, any_found, contains-mem, mem-contains, none-list_any}
use Rattle.rs_choice.proofs.Eliminations.{Same, same_unbeaten, Left, LeftByMed, By, same_remaining, beats_tells, choice_left, is_false}
use Rattle.rs_choice.proofs.Eliminations.{means_unbeaten, one_address, remaining-append, remaining_among, unbeaten_means}
use Rattle.rs_choice.proofs.decision.PlaceLemmas.{first_cases}

no_one_beats_itself : (step : Step) (one : Standing) → beats step one one ≡ false
no_one_beats_itself steps.Preference one = grind (arith, nat_tests)
no_one_beats_itself steps.PathLength one = grind (arith, nat_tests)
no_one_beats_itself steps.Origin one = grind (arith, nat_tests)
no_one_beats_itself steps.Med one = grind (arith, nat_tests)
no_one_beats_itself steps.Identifier one = grind (arith, nat_tests)
no_one_beats_itself steps.Address one = grind (arith, nat_tests)

beats_then : (step : Step) (a b c : Standing) → beats step a b ≡ true → beats step b c ≡ true → beats step a c ≡ true
beats_then steps.Preference a b c h k = grind (arith, nat_tests)
beats_then steps.PathLength a b c h k = grind (arith, nat_tests)
beats_then steps.Origin a b c h k = grind (arith, nat_tests)
beats_then steps.Med a b c h k = grind (arith, nat_tests)
beats_then steps.Identifier a b c h k = grind (arith, nat_tests)
beats_then steps.Address a b c h k = grind (arith, nat_tests)

module _ {M : Type 0} (standing : M → Standing) (step : Step) where
  abbrev pub beat : M → M → Bool
  beat w x = beats step (standing w) (standing x)

  some_unbeaten : (x : M) (xs : List M) → (best : M) × Mem (x ∷ xs) best × ((w : M) → Mem (x ∷ xs) w → beat w best ≡ false)
  some_unbeaten x [] =
      (x, inl refl, λ w h. elim h [ inl same ↦ rw (← same) (no_one_beats_itself step (standing x)) | inr none ↦ absurd none ])
  some_unbeaten x (y ∷ ys) =
      let best = some_unbeaten y ys in
      elim (cases_Bool (beat x best.0)) [
        | inl wins ↦ (
          x,
          inl refl,
          λ w h. elim h [
            | inl same ↦ rw (← same) (no_one_beats_itself step (standing x))
            | inr later ↦
                is_false (beat w x)
                (λ beats. both_ways (beat w best.0) (best.2 w later)
                (beats_then step (standing w) (standing x) (standing best.0) beats wins))
          ],
        )
        | inr loses ↦ (best.0, inr best.1, λ w h. elim h [ inl same ↦ rw (← same) loses | inr later ↦ best.2 w later ])
      ]

  some_left : (x : M) (xs : List M) → (best : M) × Mem (unbeaten standing step (x ∷ xs)) best
  some_left x xs =
      let found = some_unbeaten x xs in (
        found.0,
        means_unbeaten standing step (x ∷ xs) found.0 found.1
            (none-list_any (λ other. beats step (standing other) (standing found.0)) (x ∷ xs) found.2),
      )

-- some member of a set is left by all steps
pub some_remaining : {M : Type 0} (standing : M → Standing) (steps : List Step) (set : List M) (x : M) → Mem set x →
    (left : M) × Mem (remaining standing steps set) left
unfolding remaining
some_remaining standing [] set x h = (x, h)
some_remaining standing (step ∷ later) [] x h = absurd h
some_remaining standing (step ∷ later) (y ∷ ys) x h =
    let left = some_left standing step y ys in
    some_remaining standing later (unbeaten standing step (y ∷ ys)) left.0 left.1

pub choice_cases : {M : Type 0} (standing : M → Standing) (set : List M) →
    ((choice standing set ≡ None) × (set ≡ [])) ⊎ ((chosen : M) × (choice standing set ≡ Some chosen) × Left standing (Mem set) chosen)
unfolding choice remaining unbeaten
choice_cases standing [] = inl (refl, refl)
choice_cases standing (x ∷ xs) = elim (first_cases (remaining standing decision_steps (x ∷ xs))) [
  | inl none ↦ let left = some_remaining standing decision_steps (x ∷ xs) x (inl refl) in absurd (none.1 left.0 left.1)
  | inr found ↦ inr (found.0, found.1, (same_remaining standing (x ∷ xs)).to found.0 found.2)
]

-- where the set has a member, there is a choice
pub some_choice : {M : Type 0} (standing : M → Standing) (set : List M) (x : M) → Mem set x →
    (chosen : M) × (choice standing set ≡ Some chosen) × Left standing (Mem set) chosen
some_choice standing set x member = elim (choice_cases standing set) [
  | inl none ↦ absurd (subst (λ list. Mem list x) none.1 member)
  | inr found ↦ found
]

pub choice_is_member : ChoiceIsMember
choice_is_member plan set = elim (choice_cases (standing_of plan) set) [
  | inl none ↦ rw none.0 none.1
  | inr found ↦ rw found.1 (mem-contains set found.0 found.2.member.member)
]

left_at_step : {M : Type 0} (standing : M → Standing) (step : Step) (after : List Step) (reached : List M) (x : M) →
    Mem (remaining standing (step ∷ after) reached) x → Mem reached x
    × ((w : M) → Mem reached w → beats step (standing w) (standing x) ≡ false)
unfolding remaining
left_at_step standing step after reached x h =
    unbeaten_means standing step reached x (remaining_among standing after (unbeaten standing step reached) x h)

pub choice_is_unbeaten : ChoiceIsUnbeaten
choice_is_unbeaten plan set chosen e before step after all =
    let left = choice_left (standing_of plan) set chosen e in
    let split : remaining (standing_of plan) decision_steps set
    ≡ remaining (standing_of plan) (step ∷ after) (remaining (standing_of plan) before set) =
    ap (λ steps. remaining (standing_of plan) steps set) all ∙ remaining-append (standing_of plan) before (step ∷ after) set in
    let at_step : Mem (remaining (standing_of plan) (step ∷ after) (remaining (standing_of plan) before set)) chosen = rw (← split) left in
    let facts = left_at_step (standing_of plan) step after (remaining (standing_of plan) before set) chosen at_step in (
      mem-contains (remaining (standing_of plan) before set) chosen facts.0,
      λ other h. facts.1 other (contains-mem (remaining (standing_of plan) before set) other h),
    )

same_members : (some others : List SentRoute) → SameMembers some others → Same (Mem some) (Mem others)
same_members some others same = record {
  to = λ x h. contains-mem others x ((same x).0 (mem-contains some x h));
  from = λ x h. contains-mem some x ((same x).1 (mem-contains others x h));
}

pub choice_ignores_order : ChoiceIgnoresOrder
choice_ignores_order plan some others same own =
    let st = standing_of plan in
    let members = same_members some others same in
    elim (choice_cases st some) [
      | inl none ↦ elim (choice_cases st others) [
        | inl also ↦ none.0 ∙ sym also.0
        | inr found ↦ absurd (cc (none.0, (some_choice st some found.0 (members.from found.0 found.2.member.member)).1))
      ]
      | inr one ↦
          let other = some_choice st others one.0 (members.to one.0 one.2.member.member) in
          let left = (same_unbeaten (By st Precedes) (LeftByMed st (Mem some)) (LeftByMed st (Mem others))
          (same_unbeaten (By st IsAheadByMed) (Mem some) (Mem others) members)).from other.0 other.2 in
          let address = one_address st some one.0 other.0 one.2 left in
          one.1 ∙ ap Some (own one.0 other.0 (mem-contains some one.0 one.2.member.member) (mem-contains some other.0 left.member.member)
          address) ∙ sym other.1
    ]

pub med_decides : MedDecidesWithinNeighbour
med_decides plan set removed member gone =
    let beats_it = λ (other : SentRoute). beats steps.Med (standing_of plan other) (standing_of plan removed) in
    elim (cases_Bool (list_any beats_it set)) [
      | inl some ↦
          let found = any_found beats_it set some in
          let lower = (beats_tells steps.Med (standing_of plan found.0) (standing_of plan removed)).0 found.2 in
          (found.0, mem-contains set found.0 found.1, lower.0, lower.1)
      | inr none ↦
          let left = means_unbeaten (standing_of plan) steps.Med set removed (contains-mem set removed member) none in
          absurd (gone (mem-contains (unbeaten (standing_of plan) steps.Med set) removed left))
    ]

filter_all : {M : Type 0} (p : M → Bool) (xs : List M) → ((x : M) → Mem xs x → p x ≡ true) → filter p xs ≡ xs
filter_all p [] all = refl
filter_all p (x ∷ xs) all = rw (all x (inl refl), filter_all p xs (λ y h. all y (inr h))) refl

pub open_policy : OpenPolicySharesChoice
open_policy plan client set all =
    ap (choice (standing_of plan))
    (filter_all (λ route. is_permitted plan client route.peer route.attributes) set (λ route h. all route (mem-contains set route h)))
