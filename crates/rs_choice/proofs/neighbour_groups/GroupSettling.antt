-- On which groups a choice rests: while what stands for them stays, it stays.
-- For ClientLemmas.
use Rattle.std.proofs.Common.{◌≡◌, ◌∙◌, sym, ap, ℕ, arith, Bool, true, ◌⊎◌, inl, inr, List, length, get_or, Some}
use Rattle.std.specs.Prelude.{IsTrue, filter, map, slice_get}
use Rattle.std.specs.Option.{option_map}
use Rattle.std.proofs.lemmas.Option.{slice_get-map, get_or_from_slice_get, slice_get-get_or, slice_get_within}
use Rattle.rs_choice.specs.declared.candidate.Placed.{Placed}
use Rattle.rs_choice.specs.declared.candidate.Standing.{Standing}
use Rattle.rs_choice.specs.declared.neighbour_groups.Group.{Group}
use Rattle.rs_choice.specs.declared.step.Step.TheVariants as steps
use Rattle.rs_choice.specs.Decision.{remaining, choice, place_of_choice, member_at, no_standing}
use Rattle.rs_choice.specs.Comparison.{IsAhead, IsLevel, HasLowerMed}
use Rattle.rs_choice.specs.Grouping.{standing_in, StandsFor, AreGroups, places_of}
use Rattle.rs_choice.specs.Naturality.{member_at-place_of_choice}
use Rattle.rs_choice.proofs.Members.{Mem, mem-slice_get, slice_get-mem, some_at}
use Rattle.rs_choice.proofs.Eliminations.{Unbeaten, By, beats_tells, equal_level, same3}
use Rattle.rs_choice.proofs.neighbour_groups.GroupMarks.{group_at, place_at}
use Rattle.rs_choice.proofs.decision.ShareLemmas.{RemovedByKept, reaching_med, choice_stays}

standing_in-map : {M : Type 0} (standing : M → Standing) (set : List M) (place : ℕ) (x : M) → slice_get set place ≡ Some x →
    standing_in (map standing set) place ≡ standing x
standing_in-map standing set place x at =
    get_or_from_slice_get (map standing set) place (standing x) no_standing (slice_get-map standing set place ∙ ap (option_map standing) at)

-- who stands for another and isn't ahead of it removes by MED whom that other removes
stands_removes : (held other one : Standing) (place other_place : ℕ) → StandsFor held place other other_place → (IsAhead held other → ⊥) →
    IsLevel one other → HasLowerMed other one → IsLevel one held × HasLowerMed held one
stands_removes held other one place other_place stands not_ahead level lower = grind arith

-- of two members that none of a set is ahead of, each is level with the other
level_pair : {M : Type 0} (standing : M → Standing) (set : List M) (one other : M) → Unbeaten (By standing IsAhead) (Mem set) one →
    Unbeaten (By standing IsAhead) (Mem set) other → IsLevel (standing one) (standing other)
level_pair standing set one other front_one front_other =
    equal_level (standing one) (standing other)
    (λ ahead. front_other.best one front_one.member ahead)
    (λ ahead. front_one.best other front_other.member ahead)

module _ {M : Type 0} (standing : M → Standing) (set : List M) (S : ℕ → Standing) (groups : List Group)
    (at_place : (k : ℕ) (x : M) → slice_get set k ≡ Some x → S k ≡ standing x) (are : AreGroups S (length set) groups) where
  -- none of the set is ahead of a member that stands for a group
  group_front : (i place : ℕ) (held : M) → slice_get (places_of groups) i ≡ Some place → slice_get set place ≡ Some held
      → Unbeaten (By standing IsAhead) (Mem set) held
  group_front i place held at at_held = record {
    member = mem-slice_get set place held at_held;
    best = λ w h ahead.
        let found = slice_get-mem set w h in
        are.grouping.front i place at found.0 (slice_get_within set found.0 w found.1)
        (rw (at_place found.0 w found.1, at_place place held at_held) ahead);
  }

  module _ (kept : M → Bool)
      (stay : (i : ℕ) (group : Group) (x : M) → slice_get groups i ≡ Some group → IsTrue group.keeps_out
      → slice_get set group.place ≡ Some x → kept x ≡ true) where
    -- whom MED removes, a member that stands for a group removes, and it stays, since this group keeps out another
    removed_by_group : (one other : M) → Unbeaten (By standing IsAhead) (Mem set) one → Unbeaten (By standing IsAhead) (Mem set) other →
        HasLowerMed (standing other) (standing one) →
        (held : M) × Unbeaten (By standing IsAhead) (Mem set) held × (kept held ≡ true) × HasLowerMed (standing held) (standing one)
    removed_by_group one other front_one front_other lower =
        let at_one = slice_get-mem set one front_one.member in
        let at_other = slice_get-mem set other front_other.member in
        let found = are.grouping.all at_other.0 (slice_get_within set at_other.0 other at_other.1) in
        let place = found.1 in
        let held = get_or set place one in
        let at_held = slice_get-get_or set place one (are.grouping.within found.0 place found.2) in
        let front = group_front found.0 place held found.2 at_held in
        let stands : StandsFor (standing held) place (standing other) at_other.0 =
        rw (at_place place held at_held, at_place at_other.0 other at_other.1) at found.3 in
        let removes =
        stands_removes (standing held) (standing other) (standing one) place at_other.0 stands
        (λ ahead. front_other.best held front.member ahead)
        (level_pair standing set one other front_one front_other) lower in
        let group = group_at groups found.0 place found.2 in
        let at_group : slice_get set group.0.place ≡ Some held = rw group.2 at_held in
        let out = are.keeps_out found.0 group.0 group.1 at_one.0 (slice_get_within set at_one.0 one at_one.1)
        (rw (at_place at_one.0 one at_one.1, at_place group.0.place held at_group) removes.0)
        (rw (at_place at_one.0 one at_one.1, at_place group.0.place held at_group) removes.1) in
        (held, front, stay found.0 group.0 held group.1 out at_group, removes.1)

    -- so whom MED removes, one that stays removes
    groups_remove : RemovedByKept standing kept steps.Med (reaching_med standing set)
    unfolding remaining
    groups_remove one other member stays other_member beaten =
        let front = same3 standing set in
        let found = removed_by_group one other (front.to one member) (front.to other other_member)
        ((beats_tells steps.Med (standing other) (standing one)).0 beaten) in
        (found.0, front.from found.0 found.1, found.2, (beats_tells steps.Med (standing found.0) (standing one)).1 found.3)

-- The choice stays where those members stay that stand for groups that keep out others, and for the group of the choice.
pub groups_settle : {M : Type 0} (standing : M → Standing) (set : List M) (groups : List Group) (first : Placed) →
    AreGroups (standing_in (map standing set)) (length set) groups → place_of_choice standing set ≡ Some first.place →
    ((i : ℕ) × (group : Group) × (slice_get groups i ≡ Some group) × (group.place ≡ first.place)) →
    (kept : M → Bool) →
    ((i : ℕ) (group : Group) (x : M) → slice_get groups i ≡ Some group → (IsTrue group.keeps_out ⊎ (group.place ≡ first.place))
    → slice_get set group.place ≡ Some x → kept x ≡ true) →
    choice standing (filter kept set) ≡ choice standing set
groups_settle standing set groups first are place known kept stay =
    let i = known.0 in
    let group = known.1 in
    let at_place = place_at groups i group known.2 ∙ ap Some known.3 in
    let chosen = some_at set first.place (are.grouping.within i first.place at_place) in
    let is_chosen : choice standing set ≡ Some chosen.0 =
    sym (member_at-place_of_choice standing set) ∙ ap (member_at set) place ∙ chosen.1 in
    let at_chosen : slice_get set group.place ≡ Some chosen.0 = ap (slice_get set) known.3 ∙ chosen.1 in
    choice_stays standing set kept chosen.0 is_chosen (stay i group chosen.0 known.2 (inr known.3) at_chosen)
    (groups_remove standing set (standing_in (map standing set)) groups (standing_in-map standing set) are kept
    (λ i group x at out at_x. stay i group x at (inl out) at_x))
    ∙ sym is_chosen
