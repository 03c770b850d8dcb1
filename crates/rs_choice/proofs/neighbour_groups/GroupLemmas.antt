-- The pass by neighbour groups: what each step keeps of the places that it has seen.
-- For GroupMarks.
use Rattle.std.proofs.Common.{◌≡◌, ◌∙◌, sym, refl, ℕ, ◌+◌, ◌<◌, arith, inl, inr, List, [], ◌∷◌, ◌++◌, length, Some, below_more}
use Rattle.std.proofs.Common.{length-append}
use Rattle.std.specs.Prelude.{slice_get, slice_set}
use Rattle.std.proofs.lemmas.Option.{slice_get_within}
use Rattle.std.proofs.lemmas.Bool.{cases_eq}
use Rattle.std.proofs.lemmas.List.{length-set}
use Rattle.rs_choice.specs.declared.candidate.Standing.{Standing}
use Rattle.rs_choice.specs.Comparison.{IsAhead, IsLevel}
use Rattle.rs_choice.specs.Grouping.{BeatsInGroup, StandsFor, IsGrouping, IsLevelWithSome}
use Rattle.rs_choice.proofs.Eliminations.{equal_level, follows_level}
use Rattle.rs_choice.proofs.decision.ScanLemmas.{not_ahead_of_itself, ahead_then}
use Rattle.rs_choice.proofs.neighbour_groups.GroupLists.{level_ahead, level_back, level_then, stands_for_itself, beats_stands, held_stands}
use Rattle.rs_choice.proofs.neighbour_groups.GroupLists.{single, push_cases, push_old, push_new, set_cases, set_same, set_other}

module _ (S : ℕ → Standing) where
  -- all groups are level with one another
  pub groups_level : (n : ℕ) (groups : List ℕ) → IsGrouping S n groups → (g h p q : ℕ) → slice_get groups g ≡ Some p
      → slice_get groups h ≡ Some q → IsLevel (S p) (S q)
  groups_level n groups is g h p q at_p at_q =
      equal_level (S p) (S q) (is.front h q at_q p (is.within g p at_p)) (is.front g p at_p q (is.within h q at_q))

  -- one that is ahead of all before it begins the groups anew
  pub alone : (n : ℕ) → ((k : ℕ) → k < n → IsAhead (S n) (S k)) → IsGrouping S (n + 1) (n ∷ [])
  alone n ahead = record {
    few = omega arith;
    within = λ group place at. omega (arith, (single n group place at).1);
    front = λ group place at.
        let is = (single n group place at).1 in
        rw is (below_more (λ k. IsAhead (S k) (S n) → ⊥) n
        (λ k below before. not_ahead_of_itself (S n) (ahead_then (S n) (S k) (S n) (ahead k below) before))
        (not_ahead_of_itself (S n)));
    all = below_more (λ k. (group : ℕ) × (place : ℕ) × (slice_get (n ∷ []) group ≡ Some place) × StandsFor (S place) place (S k) k) n
        (λ k below. (0, n, refl, inl (ahead k below)))
        (0, n, refl, stands_for_itself (S n) n);
    apart = λ i j place other at_i at_j same. (single n i place at_i).0 ∙ sym (single n j other at_j).0;
  }

  -- where there is no group, nothing is before it
  pub ahead_of_none : (n : ℕ) (groups : List ℕ) → IsGrouping S n groups → length groups ≡ 0 → (k : ℕ) → k < n → IsAhead (S n) (S k)
  ahead_of_none n groups is none k below =
      let found = is.all k below in
      let within = slice_get_within groups found.0 found.1 found.2 in
      absurd (omega (arith, within, none))

  -- who is ahead of one of the groups is ahead of all before it
  pub ahead_of_all : (n : ℕ) (groups : List ℕ) → IsGrouping S n groups → (h q : ℕ) → slice_get groups h ≡ Some q → IsAhead (S n) (S q)
      → (k : ℕ) → k < n → IsAhead (S n) (S k)
  ahead_of_all n groups is h q at_q ahead k below =
      let found = is.all k below in
      let level = groups_level n groups is h found.0 q found.1 at_q found.2 in
      let ahead_found = follows_level (S n) (S q) (S found.1) level ahead in
      elim found.3 [
        | inl before ↦ ahead_then (S n) (S found.1) (S k) ahead_found before
        | inr stands ↦ follows_level (S n) (S found.1) (S k) stands.0 ahead_found
      ]

  -- who is behind one of the groups is left out
  pub left_behind : (n : ℕ) (groups : List ℕ) → IsGrouping S n groups → (h q : ℕ) → slice_get groups h ≡ Some q → IsAhead (S q) (S n)
      → IsGrouping S (n + 1) groups
  left_behind n groups is h q at_q ahead = record {
    few = omega (arith, is.few);
    within = λ group place at. omega (arith, is.within group place at);
    front = λ group place at.
        below_more (λ k. IsAhead (S k) (S place) → ⊥) n (is.front group place at)
        (λ before. is.front group place at q (is.within h q at_q) (ahead_then (S q) (S n) (S place) ahead before));
    all = below_more (λ k. (group : ℕ) × (place : ℕ) × (slice_get groups group ≡ Some place) × StandsFor (S place) place (S k) k) n is.all
        (h, q, at_q, inl ahead);
    apart = is.apart;
  }

  -- none of the groups is behind one that is level with one of them
  level_front : (n : ℕ) (groups : List ℕ) → IsGrouping S n groups → IsLevelWithSome S n groups → (group place : ℕ)
      → slice_get groups group ≡ Some place →
      (k : ℕ) → k < n + 1 → IsAhead (S k) (S place) → ⊥
  level_front n groups is level group place at =
      below_more (λ k. IsAhead (S k) (S place) → ⊥) n (is.front group place at)
      (λ before. is.front group place at level.1 (is.within level.0 level.1 level.2)
      (level_ahead (S level.1) (S n) (S place) (level_back (S n) (S level.1) level.3) before))

  -- and it is behind none
  pub level_itself : (n : ℕ) (groups : List ℕ) → IsGrouping S n groups → IsLevelWithSome S n groups → (k : ℕ) → k < n + 1
      → IsAhead (S k) (S n) → ⊥
  level_itself n groups is level =
      below_more (λ k. IsAhead (S k) (S n) → ⊥) n
      (λ k below before. is.front level.0 level.1 level.2 k below (follows_level (S k) (S n) (S level.1) level.3 before))
      (not_ahead_of_itself (S n))

  pub level_with_all : (n : ℕ) (groups : List ℕ) → IsGrouping S n groups → IsLevelWithSome S n groups → (h q : ℕ)
      → slice_get groups h ≡ Some q → IsLevel (S n) (S q)
  level_with_all n groups is level h q at_q =
      level_then (S n) (S level.1) (S q) level.3 (groups_level n groups is level.0 h level.1 q level.2 at_q)

  pub one_more_group : (n : ℕ) (groups : List ℕ) → IsGrouping S n groups → IsLevelWithSome S n groups
      → ((group place : ℕ) → slice_get groups group ≡ Some place → (S place).neighbour ≡ (S n).neighbour → ⊥) →
      IsGrouping S (n + 1) (groups ++ n ∷ [])
  one_more_group n groups is level differ = record {
    few = omega (arith, is.few, length-append groups (n ∷ []));
    within = λ group place at. elim (push_cases groups n group place at) [
      | inl old ↦ omega (arith, is.within group place old)
      | inr new ↦ omega (arith, new.1)
    ];
    front = λ group place at. elim (push_cases groups n group place at) [
      | inl old ↦ level_front n groups is level group place old
      | inr new ↦ rw new.1 (level_itself n groups is level)
    ];
    all = below_more (λ k. (group : ℕ) × (place : ℕ) × (slice_get (groups ++ n ∷ []) group ≡ Some place)
        × StandsFor (S place) place (S k) k) n
        (λ k below. let found = is.all k below in (found.0, found.1, push_old groups n found.0 found.1 found.2, found.3))
        (length groups, n, push_new groups n, stands_for_itself (S n) n);
    apart = λ i j place other at_i at_j same. elim (push_cases groups n i place at_i) [
      | inl old_i ↦ elim (push_cases groups n j other at_j) [
        | inl old_j ↦ is.apart i j place other old_i old_j same
        | inr new_j ↦ absurd (differ i place old_i (rw new_j.1 at same))
      ]
      | inr new_i ↦ elim (push_cases groups n j other at_j) [
        | inl old_j ↦ absurd (differ j other old_j (sym (rw new_i.1 at same)))
        | inr new_j ↦ new_i.0 ∙ sym new_j.0
      ]
    ];
  }

  pub another_place : (n : ℕ) (groups : List ℕ) → IsGrouping S n groups → IsLevelWithSome S n groups → (g q : ℕ)
      → slice_get groups g ≡ Some q →
      (S q).neighbour ≡ (S n).neighbour → BeatsInGroup (S n) (S q) → IsGrouping S (n + 1) (slice_set groups g n)
  another_place n groups is level g q at_q same beats =
      let known = slice_get_within groups g q at_q in
      record {
        few = omega (arith, is.few, length-set groups g n);
        within = λ group place at. elim (set_cases groups g n group place at) [
          | inl new ↦ omega (arith, new.1)
          | inr old ↦ omega (arith, is.within group place old.1)
        ];
        front = λ group place at. elim (set_cases groups g n group place at) [
          | inl new ↦ rw new.1 (level_itself n groups is level)
          | inr old ↦ level_front n groups is level group place old.1
        ];
        all = below_more (λ k. (group : ℕ) × (place : ℕ) × (slice_get (slice_set groups g n) group ≡ Some place)
            × StandsFor (S place) place (S k) k) n
            (λ k below. go k (is.all k below))
            (g, n, set_same groups g n known, stands_for_itself (S n) n);
        apart = λ i j place other at_i at_j equal. elim (set_cases groups g n i place at_i) [
          | inl new_i ↦ elim (set_cases groups g n j other at_j) [
            | inl new_j ↦ new_i.0 ∙ sym new_j.0
            | inr old_j ↦ absurd (old_j.0 (sym (is.apart g j q other at_q old_j.1 (same ∙ rw new_i.1 at equal))))
          ]
          | inr old_i ↦ elim (set_cases groups g n j other at_j) [
            | inl new_j ↦ absurd (old_i.0 (is.apart i g place q old_i.1 at_q (rw new_j.1 at equal ∙ sym same)))
            | inr old_j ↦ is.apart i j place other old_i.1 old_j.1 equal
          ]
        ];
      }
    where
      new_stands : (k p : ℕ) → slice_get groups g ≡ Some p → StandsFor (S p) p (S k) k → StandsFor (S n) n (S k) k
      new_stands k p at_p stands =
          let e : p ≡ q = cc (at_p, at_q) in
          let stands_q : StandsFor (S q) q (S k) k = rw e at stands in
          beats_stands (S n) (S q) (S k) n q k (level_with_all n groups is level g q at_q) (sym same) beats stands_q

      go : (k : ℕ) → ((group : ℕ) × (place : ℕ) × (slice_get groups group ≡ Some place) × StandsFor (S place) place (S k) k) →
          (group : ℕ) × (place : ℕ) × (slice_get (slice_set groups g n) group ≡ Some place) × StandsFor (S place) place (S k) k
      go k found = elim (cases_eq found.0 g) [
        | inl equal ↦ (g, n, set_same groups g n (slice_get_within groups g q at_q), new_stands k found.1 (rw equal at found.2) found.3)
        | inr differ ↦ (found.0, found.1, set_other groups g n found.0 found.1 differ found.2, found.3)
      ]

  pub same_place : (n : ℕ) (groups : List ℕ) → IsGrouping S n groups → IsLevelWithSome S n groups → (g q : ℕ) → slice_get groups g ≡ Some q
      →
      (S q).neighbour ≡ (S n).neighbour → (BeatsInGroup (S n) (S q) → ⊥) → IsGrouping S (n + 1) groups
  same_place n groups is level g q at_q same beats_not = record {
    few = omega (arith, is.few);
    within = λ group place at. omega (arith, is.within group place at);
    front = level_front n groups is level;
    all = below_more (λ k. (group : ℕ) × (place : ℕ) × (slice_get groups group ≡ Some place) × StandsFor (S place) place (S k) k) n is.all (
      g,
      q,
      at_q,
      held_stands (S q) (S n) q n (level_back (S n) (S q) (level_with_all n groups is level g q at_q)) same beats_not
          (is.within g q at_q),
    );
    apart = is.apart;
  }
