-- The first of the neighbour groups is the choice: for `first_of` of decision.rt and ChosenLemmas.
use Rattle.std.proofs.Common.{◌≡◌, ◌∙◌, sym, ap, subst, refl, ℕ, ◌+◌, ◌<◌, ◌≤◌, arith, ◌⊎◌, inl, inr, List, length, Option, Some, None}
use Rattle.std.proofs.Common.{below_more}
use Rattle.std.specs.Prelude.{slice_get}
use Rattle.std.specs.Option.{option_map}
use Rattle.std.proofs.lemmas.Option.{get_or_from_slice_get, slice_get-get_or, slice_get_within}
use Rattle.rs_choice.specs.declared.candidate.Standing.{Standing}
use Rattle.rs_choice.specs.declared.candidate.Placed.{Placed}
use Rattle.rs_choice.specs.Comparison.{IsAhead, IsLevel, HasLowerMed, Precedes}
use Rattle.rs_choice.specs.Decision.{no_standing, place_of_choice}
use Rattle.rs_choice.specs.Scan.{Holds}
use Rattle.rs_choice.specs.Grouping.{standing_in, GoesBefore, IsGrouping, GoesBeforeSome, IsFirstOf}
use Rattle.rs_choice.proofs.Eliminations.{LeftByMed, follows_level}
use Rattle.rs_choice.proofs.Members.{Mem, mem-slice_get, slice_get-mem}
use Rattle.rs_choice.proofs.decision.PlaceLemmas.{place_of_choice-Some, place_of_choice-None}
use Rattle.rs_choice.proofs.decision.ScanLemmas.{not_both_precede}

module _ (S : ℕ → Standing) where
  before_then : (a b c : Placed) → GoesBefore a.standing a.place b.standing b.place → GoesBefore b.standing b.place c.standing c.place
      → GoesBefore a.standing a.place c.standing c.place
  before_then a b c h k = grind arith

  -- what holds of the first groups and of one more
  one_more : (groups : List ℕ) (i place : ℕ) → slice_get groups i ≡ Some place → (P : ℕ → Type 0)
      → ((g other : ℕ) → g < i → slice_get groups g ≡ Some other → P other) → P place →
      (g other : ℕ) → g < i + 1 → slice_get groups g ≡ Some other → P other
  one_more groups i place at P before here g other below =
      below_more (λ g. (other : ℕ) → slice_get groups g ≡ Some other → P other) i (λ g below other. before g other below)
      (λ other at_other. let same : place ≡ other = cc (at, at_other) in subst P same here) g below other

  pub first_changes : (groups : List ℕ) (i place : ℕ) (best : Option Placed) → slice_get groups i ≡ Some place → IsFirstOf S groups i best →
      GoesBeforeSome (record { place = place; standing = S place }) best
      → IsFirstOf S groups (i + 1) (Some (record { place = place; standing = S place }))
  first_changes groups i place best at is before = (
    (i, at),
    refl,
    one_more groups i place at (λ other. GoesBefore (S other) other (S place) place → ⊥) (earlier best is before)
        (not_before_itself (S place) place),
  )
    where
      not_before_itself : (a : Standing) (p : ℕ) → GoesBefore a p a p → ⊥
      not_before_itself a p h = grind arith

      earlier : (best : Option Placed) → IsFirstOf S groups i best → GoesBeforeSome (record { place = place; standing = S place }) best →
          (g other : ℕ) → g < i → slice_get groups g ≡ Some other → GoesBefore (S other) other (S place) place → ⊥
      earlier None none before g other below at_other goes = absurd (omega (arith, none))
      earlier (Some first) is before g other below at_other goes =
          is.2 g other below at_other
          (before_then (record { place = other; standing = S other }) (record { place = place; standing = S place }) first goes before)

  pub first_stays : (groups : List ℕ) (i place : ℕ) (best : Option Placed) → slice_get groups i ≡ Some place → IsFirstOf S groups i best →
      (GoesBeforeSome (record { place = place; standing = S place }) best → ⊥) → IsFirstOf S groups (i + 1) best
  first_stays groups i place None at is before_not = absurd (before_not tt)
  first_stays groups i place (Some first) at is before_not =
      (is.0, is.1, one_more groups i place at (λ other. GoesBefore (S other) other first.standing first.place → ⊥) is.2 before_not)

  -- and none that is level with it has a lower MED from the same neighbour AS
  first_least_med : (n : ℕ) (groups : List ℕ) → IsGrouping S n groups → (g p : ℕ) → slice_get groups g ≡ Some p → (k : ℕ) → k < n →
      IsLevel (S k) (S p) × HasLowerMed (S k) (S p) → ⊥
  first_least_med n groups is g p at k below lower =
      let found = is.all k below in
      elim found.3 [
        | inl ahead ↦ is.front g p at found.1 (is.within found.0 found.1 found.2) (follows_level (S found.1) (S k) (S p) lower.0 ahead)
        | inr stands ↦
            let h_is_g : found.0 ≡ g = is.apart found.0 g found.1 p found.2 at (stands.1 ∙ lower.1.0) in
            let at_g : slice_get groups g ≡ Some found.1 = rw h_is_g at found.2 in
            let q_is_p : found.1 ≡ p = cc (at_g, at) in
            let med = ap (λ p. (S p).med) q_is_p in
            elim stands.2 [
              | inl less ↦ absurd (omega (arith, less, med, lower.1.1))
              | inr equal ↦ absurd (omega (arith, equal.0, med, lower.1.1))
            ]
      ]

  not_before_cases : (a : Standing) (p : ℕ) (b : Standing) (q : ℕ) → (GoesBefore b q a p → ⊥) → Precedes a b
      ⊎ ((a.id ≡ b.id) × (a.address ≡ b.address) × (p ≤ q))
  not_before_cases a p b q not_before = grind arith

  tie_then : (a b c : Standing) (p q k : ℕ) → (Precedes a b ⊎ ((a.id ≡ b.id) × (a.address ≡ b.address) × (p ≤ q))) →
      (Precedes b c ⊎ ((b.id ≡ c.id) × (b.address ≡ c.address) × (q ≤ k))) → Precedes a c
      ⊎ ((a.id ≡ c.id) × (a.address ≡ c.address) × (p ≤ k))
  tie_then a b c p q k h e = grind arith

  -- and it holds against each that the first four steps leave
  first_holds : (n : ℕ) (groups : List ℕ) → IsGrouping S n groups → (first : Placed) → IsFirstOf S groups (length groups) (Some first)
      → (k : ℕ) → k < n →
      ((j : ℕ) → j < n → IsAhead (S j) (S k) → ⊥) → ((j : ℕ) → j < n → IsLevel (S j) (S k) × HasLowerMed (S j) (S k) → ⊥)
      → Holds first k (S k)
  first_holds n groups is first is_first k below none_ahead least_med =
      let found = is.all k below in
      let q = found.1 in
      let within = is.within found.0 q found.2 in
      elim found.3 [
        | inl ahead ↦ absurd (none_ahead q within ahead)
        | inr stands ↦ elim stands.2 [
          | inl less ↦ absurd (least_med q within (stands.0, (stands.1, less)))
          | inr equal ↦
              tie_then first.standing (S q) (S k) first.place q k
              (not_before_cases first.standing first.place (S q) q
              (is_first.2 found.0 q (slice_get_within groups found.0 q found.2) found.2)) equal.1
        ]
      ]

-- the first of the groups of all entrants is the choice among them
module _ (standings : List Standing) where
  abbrev S : ℕ → Standing
  S = standing_in standings

  standing_is : (k : ℕ) (one : Standing) → slice_get standings k ≡ Some one → S k ≡ one
  standing_is k one at = get_or_from_slice_get standings k one no_standing at

  abbrev IsLeft : Standing → Type 0
  IsLeft = LeftByMed (λ one. one) (Mem standings)

  none_ahead : (one : Standing) → IsLeft one → (j : ℕ) → j < length standings → IsAhead (S j) one → ⊥
  none_ahead one left j below ahead =
      left.best (S j) (mem-slice_get standings j (S j) (slice_get-get_or standings j no_standing below)) (inl ahead)

  none_lower : (one : Standing) → IsLeft one → (j : ℕ) → j < length standings → IsLevel (S j) one × HasLowerMed (S j) one → ⊥
  none_lower one left j below lower =
      left.best (S j) (mem-slice_get standings j (S j) (slice_get-get_or standings j no_standing below)) (inr lower)

  -- the first is left by the first four steps
  first_left : (groups : List ℕ) → IsGrouping S (length standings) groups → (g p : ℕ) → slice_get groups g ≡ Some p → (one : Standing)
      → slice_get standings p ≡ Some one → IsLeft one
  first_left groups is g p at one at_one =
      let is_one = standing_is p one at_one in
      record {
        member = mem-slice_get standings p one at_one;
        best = λ w h beaten.
            let found = slice_get-mem standings w h in
            let below = slice_get_within standings found.0 w found.1 in
            let is_w = standing_is found.0 w found.1 in
            elim beaten [
              | inl ahead ↦ is.front g p at found.0 below (rw (is_w, is_one) ahead)
              | inr lower ↦ first_least_med S (length standings) groups is g p at found.0 below (rw (is_w, is_one) lower)
            ];
      }

  -- and holds against each that they leave
  holds_against : (groups : List ℕ) → IsGrouping S (length standings) groups → (first : Placed)
      → IsFirstOf S groups (length groups) (Some first) →
      (k : ℕ) (w : Standing) → slice_get standings k ≡ Some w → IsLeft w → Holds first k w
  holds_against groups is first is_first k w at_w left =
      let is_w = standing_is k w at_w in
      rw is_w at
      (first_holds S (length standings) groups is first is_first k (slice_get_within standings k w at_w)
      (λ j below ahead. none_ahead w left j below (rw is_w at ahead)) (λ j below lower. none_lower w left j below (rw is_w at lower)))

  pub first_is_choice : (groups : List ℕ) → IsGrouping S (length standings) groups → (first : Option Placed)
      → IsFirstOf S groups (length groups) first →
      place_of_choice (λ one. one) standings ≡ option_map (λ first. first.place) first
  first_is_choice groups is None none =
      place_of_choice-None (λ one. one) standings
      (λ x left.
      let found = slice_get-mem standings x left.member.member in
      let group = is.all found.0 (slice_get_within standings found.0 x found.1) in
      let within = slice_get_within groups group.0 group.1 group.2 in
      absurd (omega (arith, within, none)))
  first_is_choice groups is (Some first) is_first =
      let g = is_first.0.0 in
      let p = first.place in
      let at = is_first.0.1 in
      let one = S p in
      let at_one = slice_get-get_or standings p no_standing (is.within g p at) in
      let left_one = first_left groups is g p at one at_one in
      place_of_choice-Some (λ one. one) standings p one at_one
      (record {
        member = left_one;
        best = λ w left before.
            let found = slice_get-mem standings w left.member in
            let before_first : Precedes w first.standing = rw (sym is_first.1) at before in
            elim (holds_against groups is first is_first found.0 w found.1 left) [
              | inl after ↦ not_both_precede w first.standing before_first after
              | inr same ↦ absurd (grind (arith, same, before_first))
            ];
      })
      (λ k w at_w left.
      elim (holds_against groups is first is_first k w at_w left.member) [
        | inl before ↦ let before_one : Precedes one w = rw is_first.1 at before in absurd (left.best one left_one before_one)
        | inr same ↦ same.2
      ])
