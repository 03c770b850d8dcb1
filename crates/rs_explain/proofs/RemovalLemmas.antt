-- Steps that leave a candidate, and the step that removes it.
use Rattle.std.proofs.Common.{◌≡◌, ◌∙◌, sym, ap, refl, ℕ, ◌<◌, ◌+◌, Bool, false, List, [], ◌∷◌, ◌++◌, length, get_or, take, drop}
use Rattle.std.proofs.Common.{take-append-drop, append_assoc}
use Rattle.std.specs.Prelude.{None, Some, ◌||◌}
use Rattle.std.specs.List.{list_any, find, Contains}
use Rattle.std.proofs.lemmas.Bool.{cond_both, or_from, or_parts}
use Rattle.std.proofs.lemmas.List.{take_more}
use Rattle.rs_choice.specs.declared.step.Step.{Step}
use Rattle.rs_choice.specs.Decision.{beats, unbeaten, remaining}
use Rattle.rs_explain.specs.declared.contender.Contender.{Contender}
use Rattle.rs_explain.specs.Contenders.{standing_in}
use Rattle.rs_explain.specs.Removals.{rival_of}
use Rattle.rs_choice.proofs.Eliminations.{means_unbeaten, remaining-append}
use Rattle.rs_choice.proofs.Members.{contains-mem, mem-contains}

abbrev pub beaten_by : Step → Contender → Contender → Bool
beaten_by step loser other = beats step other.standing loser.standing

-- where nothing is found, no test holds
find-none : {M : Type 0} (p : M → Bool) (xs : List M) → find p xs ≡ None → list_any p xs ≡ false
find-none p [] none = refl
find-none p (x ∷ xs) none = cond_both (p x) (Some x) (find p xs) (λ found. found ≡ None → (p x || list_any p xs) ≡ false)
    (λ holds found. absurd (cc (found)))
    (λ fails later. or_from (p x) (list_any p xs) fails (find-none p xs later))
    none

-- who has no rival at a step is left by it
pub left_without_rival : (step : Step) (best loser : Contender) (set : List Contender) →
    rival_of step best set loser ≡ None → Contains set loser → Contains (unbeaten standing_in step set) loser
left_without_rival step best loser set none in_set =
    let by_none = find-none (beaten_by step loser) (best ∷ set) none in
    let by_set = (or_parts (beaten_by step loser best) (list_any (beaten_by step loser) set) by_none).1 in
    mem-contains (unbeaten standing_in step set) loser (means_unbeaten standing_in step set loser (contains-mem set loser in_set) by_set)

-- one step more
one_step : (step : Step) (set : List Contender) → remaining standing_in (step ∷ []) set ≡ unbeaten standing_in step set
unfolding remaining
one_step step set = refl

pub remaining-more : (steps : List Step) (i : ℕ) (d : Step) (set : List Contender) → i < length steps →
    unbeaten standing_in (get_or steps i d) (remaining standing_in (take i steps) set) ≡ remaining standing_in (take (i + 1) steps) set
remaining-more steps i d set within =
    sym (ap (λ (all : List Step). remaining standing_in all set) (take_more steps i d within)
    ∙ remaining-append standing_in (take i steps) (get_or steps i d ∷ []) set
    ∙ one_step (get_or steps i d) (remaining standing_in (take i steps) set))

pub remaining-none : (set : List Contender) → set ≡ remaining standing_in [] set
unfolding remaining
remaining-none set = refl

-- a step stands between those before it and those after it
pub steps-around : (steps : List Step) (i : ℕ) (d : Step) → i < length steps → steps ≡ take i steps ++ get_or steps i d ∷ drop (i + 1) steps
steps-around steps i d within =
    sym (take-append-drop (i + 1) steps) ∙ ap (λ (front : List Step). front ++ drop (i + 1) steps) (take_more steps i d within)
    ∙ append_assoc (take i steps) (get_or steps i d ∷ []) (drop (i + 1) steps)
