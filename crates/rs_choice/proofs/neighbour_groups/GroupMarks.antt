-- The pass by neighbour groups: what each step keeps of the groups, with the neighbour AS of each and whom it keeps out.
-- For decision.rt and ClientLemmas.
use Rattle.std.proofs.Common.{◌≡◌, ◌≢◌, ◌∙◌, sym, ap, refl, ℕ, suc, zero, ◌+◌, ◌<◌, arith, false, inl, inr, List, [], ◌∷◌, ◌++◌, length}
use Rattle.std.proofs.Common.{Some, None, below_more}
use Rattle.std.specs.Prelude.{slice_get, slice_set, IsTrue}
use Rattle.std.specs.Option.{option_map}
use Rattle.std.proofs.lemmas.List.{length-map, map-append, map-set, set-get_or}
use Rattle.std.proofs.lemmas.Option.{get_or_from_slice_get, slice_get_within, slice_get-map}
use Rattle.std.proofs.lemmas.Bool.{cases_eq}
use Rattle.rs_choice.specs.declared.candidate.Standing.{Standing}
use Rattle.rs_choice.specs.declared.neighbour_groups.Group.{Group}
use Rattle.rs_choice.specs.Comparison.{IsAhead, IsLevel, HasLowerMed}
use Rattle.rs_choice.specs.Grouping.{places_of, AreGroups, IsGrouping, IsJoined, IsLevelWithSome, IsNeighboursGroup, LeadsAll}
use Rattle.rs_choice.proofs.Eliminations.{equal_level, follows_level}
use Rattle.rs_choice.proofs.Members.{some_at}
use Rattle.rs_choice.proofs.neighbour_groups.GroupLists.{level_ahead, level_back, level_then, single, push_cases, set_cases}
use Rattle.rs_choice.proofs.neighbour_groups.GroupLemmas.{ahead_of_all, ahead_of_none, level_itself, alone, left_behind, one_more_group}
use Rattle.rs_choice.proofs.neighbour_groups.GroupLemmas.{another_place, same_place, level_with_all}

pub place_at : (groups : List Group) (i : ℕ) (group : Group) → slice_get groups i ≡ Some group
    → slice_get (places_of groups) i ≡ Some group.place
place_at groups i group at = slice_get-map (λ (group : Group). group.place) groups i ∙ ap (option_map (λ (group : Group). group.place)) at

pub places_none : (groups : List Group) → length groups ≡ 0 → length (places_of groups) ≡ 0
places_none groups none = length-map groups (λ (group : Group). group.place) ∙ none

set_itself : (places : List ℕ) (g place : ℕ) → slice_get places g ≡ Some place → slice_set places g place ≡ places
set_itself places g place at = ap (slice_set places g) (sym (get_or_from_slice_get places g place place at)) ∙ set-get_or places g place

-- the group whose place stands at a number
pub group_at : (groups : List Group) (i place : ℕ) → slice_get (places_of groups) i ≡ Some place → (group : Group)
    × (slice_get groups i ≡ Some group) × (group.place ≡ place)
group_at [] i place at = absurd (cc (at))
group_at (group ∷ later) zero place at = (group, refl, cc (at))
group_at (group ∷ later) (suc i) place at = group_at later i place at

not_level : (a b : Standing) → IsAhead a b → IsLevel b a → ⊥
not_level a b ahead level = grind (arith, ahead, level)

module _ (S : ℕ → Standing) where
  pub place_within : (n : ℕ) (groups : List Group) → AreGroups S n groups → (i : ℕ) (group : Group) → slice_get groups i ≡ Some group
      → group.place < n
  place_within n groups are i group at = are.grouping.within i group.place (place_at groups i group at)

  -- a group of one entrant
  abbrev pub group_of : ℕ → Group
  group_of n = record { place = n; keeps_out = false; neighbour = (S n).neighbour }

  -- one that is ahead of all before it begins the groups anew
  pub alone_marked : (n : ℕ) → ((k : ℕ) → k < n → IsAhead (S n) (S k)) → AreGroups S (n + 1) (group_of n ∷ [])
  alone_marked n ahead = record {
    grouping = alone S n ahead;
    neighbours = λ i group at. let is = (single (group_of n) i group at).1 in rw is refl;
    keeps_out = λ i group at. let is = (single (group_of n) i group at).1 in rw is (below_more
        (λ k. IsLevel (S k) (S n) → HasLowerMed (S n) (S k) → IsTrue false) n
        (λ k below level lower. absurd (not_level (S n) (S k) (ahead k below) level))
        (λ level lower. absurd (omega (arith, lower.1))));
  }

  -- who is behind one of the groups is left out
  pub behind_marked : (n : ℕ) (groups : List Group) → AreGroups S n groups → (h : ℕ) (leader : Group) → slice_get groups h ≡ Some leader →
      IsAhead (S leader.place) (S n) → AreGroups S (n + 1) groups
  behind_marked n groups are h leader at_h ahead = record {
    grouping = left_behind S n (places_of groups) are.grouping h leader.place (place_at groups h leader at_h) ahead;
    neighbours = are.neighbours;
    keeps_out = λ i group at.
        below_more (λ k. IsLevel (S k) (S group.place) → HasLowerMed (S group.place) (S k) → IsTrue group.keeps_out) n
        (are.keeps_out i group at)
        (λ level lower.
        let before = follows_level (S leader.place) (S n) (S group.place) level ahead in
        absurd (are.grouping.front i group.place (place_at groups i group at) leader.place
        (are.grouping.within h leader.place (place_at groups h leader at_h)) before));
  }

  no_place_of : (groups : List Group) (n : ℕ) → AreGroups S n groups → (neighbour : ℕ) → IsNeighboursGroup groups neighbour None →
      (i place : ℕ) → slice_get (places_of groups) i ≡ Some place → (S place).neighbour ≡ neighbour → ⊥
  no_place_of groups n are neighbour none i place at same =
      let found = group_at groups i place at in
      none i found.0 found.1 (are.neighbours i found.0 found.1 ∙ ap (λ p. (S p).neighbour) found.2 ∙ same)

  -- one of a neighbour AS that no group is of adds a group
  pub one_more_marked : (n : ℕ) (groups : List Group) → AreGroups S n groups → IsLevelWithSome S n (places_of groups) →
      IsNeighboursGroup groups (S n).neighbour None → AreGroups S (n + 1) (groups ++ group_of n ∷ [])
  one_more_marked n groups are level none =
      let differ = no_place_of groups n are (S n).neighbour none in
      record {
        grouping = rw (map-append (λ (group : Group). group.place) groups (group_of n ∷ []))
            (one_more_group S n (places_of groups) are.grouping level differ);
        neighbours = λ i group at. elim (push_cases groups (group_of n) i group at) [
          | inl old ↦ are.neighbours i group old
          | inr new ↦ rw new.1 refl
        ];
        keeps_out = λ i group at. elim (push_cases groups (group_of n) i group at) [
          | inl old ↦
              below_more (λ k. IsLevel (S k) (S group.place) → HasLowerMed (S group.place) (S k) → IsTrue group.keeps_out) n
              (are.keeps_out i group old)
              (λ level lower. absurd (differ i group.place (place_at groups i group old) lower.0))
          | inr new ↦ rw new.1 (below_more (λ k. IsLevel (S k) (S n) → HasLowerMed (S n) (S k) → IsTrue false) n
              (λ k below level_k lower.
              let found = are.grouping.all k below in
              elim found.3 [
                | inl ahead ↦
                    let before = follows_level (S found.1) (S k) (S n) level_k ahead in
                    let level_found = level_with_all S n (places_of groups) are.grouping level found.0 found.1 found.2 in
                    absurd (not_level (S found.1) (S n) before level_found)
                | inr stands ↦ absurd (differ found.0 found.1 found.2 (stands.1 ∙ sym lower.0))
              ])
              (λ level lower. absurd (omega (arith, lower.1))))
        ];
      }

  -- one of the neighbour AS of a group joins it
  module _ (n : ℕ) (groups : List Group) (are : AreGroups S n groups) (level : IsLevelWithSome S n (places_of groups)) (g : ℕ)
      (held joined : Group)
      (at_g : slice_get groups g ≡ Some held) (same : held.neighbour ≡ (S n).neighbour) (is : IsJoined held (S held.place) n (S n) joined)
    where
      at_place : slice_get (places_of groups) g ≡ Some held.place
      at_place = place_at groups g held at_g

      same_held : (S held.place).neighbour ≡ (S n).neighbour
      same_held = sym (are.neighbours g held at_g) ∙ same

      level_held : IsLevel (S n) (S held.place)
      level_held = level_with_all S n (places_of groups) are.grouping level g held.place at_place

      -- what holds of both holds of the one that stands for both
      of_both : (P : ℕ → Type 0) → P n → P held.place → P joined.place
      of_both P now before = elim is.place [ inl beats ↦ rw beats.1 now | inr stays ↦ rw stays.1 before ]

      -- the other groups don't keep out one of this neighbour AS
      others_keep : (i : ℕ) (group : Group) → i ≢ g → slice_get groups i ≡ Some group →
          (k : ℕ) → k < n + 1 → IsLevel (S k) (S group.place) → HasLowerMed (S group.place) (S k) → IsTrue group.keeps_out
      others_keep i group differ at =
          below_more (λ k. IsLevel (S k) (S group.place) → HasLowerMed (S group.place) (S k) → IsTrue group.keeps_out) n
          (are.keeps_out i group at)
          (λ level lower. absurd (differ (are.grouping.apart i g group.place held.place (place_at groups i group at) at_place
          (lower.0 ∙ sym same_held))))

      -- what the group keeps out that the new entrant came to
      joined_keeps : (k : ℕ) → k < n + 1 → IsLevel (S k) (S joined.place) → HasLowerMed (S joined.place) (S k) → IsTrue joined.keeps_out
      joined_keeps k below level_k lower =
          elim (cases_eq (S n).med (S held.place).med) [
            | inl equal ↦ is.keeps_out.1 (inl (as_held equal k below level_k lower))
            | inr differ ↦ is.keeps_out.1 (inr differ)
          ]
        where
          as_held : (S n).med ≡ (S held.place).med → (k : ℕ) → k < n + 1 → IsLevel (S k) (S joined.place)
              → HasLowerMed (S joined.place) (S k)
              → IsTrue held.keeps_out
          as_held equal =
              let level_joined = of_both (λ p. IsLevel (S p) (S held.place)) level_held (refl, refl, refl) in
              let med_joined = of_both (λ p. (S p).med ≡ (S held.place).med) equal refl in
              let neighbour_joined = of_both (λ p. (S p).neighbour ≡ (S held.place).neighbour) (sym same_held) refl in
              below_more (λ k. IsLevel (S k) (S joined.place) → HasLowerMed (S joined.place) (S k) → IsTrue held.keeps_out) n
              (λ k below level_k lower.
              are.keeps_out g held at_g k below (level_then (S k) (S joined.place) (S held.place) level_k level_joined)
              (sym neighbour_joined ∙ lower.0, omega (arith, lower.1, med_joined)))
              (λ level_n lower. absurd (omega (arith, lower.1, med_joined, equal)))

      pub joined_marked : AreGroups S (n + 1) (slice_set groups g joined)
      joined_marked = record {
        grouping = rw (map-set (λ (group : Group). group.place) groups g joined) places;
        neighbours = λ i group at. elim (set_cases groups g joined i group at) [
          | inl new ↦ rw new.1 (is.neighbour ∙ of_both (λ p. held.neighbour ≡ (S p).neighbour) same (are.neighbours g held at_g))
          | inr old ↦ are.neighbours i group old.1
        ];
        keeps_out = λ i group at. elim (set_cases groups g joined i group at) [
          | inl new ↦ rw new.1 joined_keeps
          | inr old ↦ others_keep i group old.0 old.1
        ];
      }
        where
          places : IsGrouping S (n + 1) (slice_set (places_of groups) g joined.place)
          places = elim is.place [
            | inl beats ↦ rw beats.1 (another_place S n (places_of groups) are.grouping level g held.place at_place same_held beats.0)
            | inr stays ↦ rw (stays.1, set_itself (places_of groups) g held.place at_place)
                (same_place S n (places_of groups) are.grouping level g held.place at_place same_held stays.0)
          ]

  -- ---- the leader

  pub leads_alone : (n : ℕ) → LeadsAll S (group_of n ∷ []) (Some (S n))
  leads_alone n = (omega arith, λ i group at. rw (single (group_of n) i group at).1 (refl, refl, refl))

  -- who is level with the leader is level with some group
  pub level_with_leader : (n : ℕ) (groups : List Group) (leader : Standing) → LeadsAll S groups (Some leader) → IsLevel (S n) leader
      → IsLevelWithSome S n (places_of groups)
  level_with_leader n groups leader leads level =
      let found = some_at groups 0 leads.0 in
      (0, found.0.place, place_at groups 0 found.0 found.1, level_then (S n) leader (S found.0.place) level (leads.1 0 found.0 found.1))

  -- and leads the groups that it has come to
  pub leads_joined : (n : ℕ) (groups joined : List Group) (leader : Standing) → AreGroups S n groups → LeadsAll S groups (Some leader)
      → IsLevel (S n) leader →
      AreGroups S (n + 1) joined → LeadsAll S joined (Some leader)
  leads_joined n groups joined leader are leads level is = (
    (let found = is.grouping.all n (omega arith) in
        let within = slice_get_within (places_of joined) found.0 found.1 found.2 in
        let count = length-map joined (λ (group : Group). group.place) in
        omega (arith, within, count)),
    λ i group at.
        level_then leader (S n) (S group.place) (level_back (S n) leader level)
        (equal_level (S n) (S group.place)
        (λ ahead. is.grouping.front i group.place (place_at joined i group at) n (omega arith) ahead)
        (level_itself S n (places_of groups) are.grouping (level_with_leader n groups leader leads level) group.place
        (is.grouping.within i group.place (place_at joined i group at)))),
  )

  -- who is ahead of the leader is ahead of all before it
  pub ahead_of_leader : (n : ℕ) (groups : List Group) (leader : Standing) → AreGroups S n groups → LeadsAll S groups (Some leader)
      → IsAhead (S n) leader →
      (k : ℕ) → k < n → IsAhead (S n) (S k)
  ahead_of_leader n groups leader are leads ahead =
      let found = some_at groups 0 leads.0 in
      ahead_of_all S n (places_of groups) are.grouping 0 found.0.place (place_at groups 0 found.0 found.1)
      (follows_level (S n) leader (S found.0.place) (leads.1 0 found.0 found.1) ahead)

  pub ahead_of_no_leader : (n : ℕ) (groups : List Group) → AreGroups S n groups → LeadsAll S groups None → (k : ℕ) → k < n
      → IsAhead (S n) (S k)
  ahead_of_no_leader n groups are none = ahead_of_none S n (places_of groups) are.grouping (places_none groups none)

  -- who is behind the leader is left out
  pub behind_leader : (n : ℕ) (groups : List Group) (leader : Standing) → AreGroups S n groups → LeadsAll S groups (Some leader)
      → IsAhead leader (S n) → AreGroups S (n + 1) groups
  behind_leader n groups leader are leads ahead =
      let found = some_at groups 0 leads.0 in
      behind_marked n groups are 0 found.0 found.1
      (level_ahead (S found.0.place) leader (S n) (level_back leader (S found.0.place) (leads.1 0 found.0 found.1)) ahead)
