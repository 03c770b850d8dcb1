-- Going over a list of candidates: the leader, and then the best of those that the first four steps leave.
-- For `leader`, `best` and `choose` of scan.rt, decision.rt, and `weighing` of clients.rt.
use Rattle.std.proofs.Common.{◌≡◌, subst, refl, ℕ, ◌+◌, ◌<◌, arith, ◌⊎◌, inl, inr, List, length, Option, Some, None, below_more}
use Rattle.std.specs.Prelude.{slice_get}
use Rattle.std.specs.Option.{option_map}
use Rattle.std.proofs.lemmas.Option.{slice_get_within}
use Rattle.rs_choice.specs.declared.candidate.Candidate.{Candidate}
use Rattle.rs_choice.specs.declared.candidate.Standing.{Standing}
use Rattle.rs_choice.specs.declared.candidate.Placed.{Placed}
use Rattle.rs_choice.specs.Plan.{Plan}
use Rattle.rs_choice.specs.Decision.{place_of_choice, standing_of_candidate}
use Rattle.rs_choice.specs.Comparison.{IsAhead, IsLevel, Precedes}
use Rattle.rs_choice.specs.Scan.{HasNoneAhead, Leads, IsLeader, IsLeftByMed, GoesFirst, Holds, IsBest}
use Rattle.rs_choice.proofs.Members.{Mem, mem-slice_get, slice_get-mem}
use Rattle.rs_choice.proofs.Eliminations.{LeftByMed, equal_level, follows_level}
use Rattle.rs_choice.proofs.decision.PlaceLemmas.{place_of_choice-Some, place_of_choice-None}

pub not_ahead_of_itself : (one : Standing) → IsAhead one one → ⊥
not_ahead_of_itself one h = grind arith

pub ahead_then : (a b c : Standing) → IsAhead a b → IsAhead b c → IsAhead a c
ahead_then a b c h k = grind arith

pub precedes_then : (a b c : Standing) → Precedes a b → Precedes b c → Precedes a c
precedes_then a b c h k = grind arith

pub not_both_precede : (a b : Standing) → Precedes a b → Precedes b a → ⊥
not_both_precede a b h k = grind arith

-- where one doesn't go before another, the other does, or they are the same by the last two steps
pub precedes_cases : (a b : Standing) → (Precedes a b → ⊥) → Precedes b a ⊎ ((b.id ≡ a.id) × (b.address ≡ a.address))
precedes_cases a b h = grind arith

-- who precedes the best holds against all that the best holds against
pub precedes_holds : (one best : Placed) (place : ℕ) (other : Standing) → Precedes one.standing best.standing → Holds best place other
    → Precedes one.standing other
precedes_holds one best place other h k = grind arith

-- who stands before another one that doesn't go first holds against it
holds_later : (best : Placed) (i : ℕ) (one : Standing) → best.place < i → (Precedes one best.standing → ⊥) → Holds best i one
holds_later best i one before first_not = grind arith

module _ (plan : Plan) (candidates : List Candidate) where
  abbrev st : Candidate → Standing
  st = standing_of_candidate plan

  -- what holds of the first candidates and of one more
  pub one_more : (i : ℕ) (candidate : Candidate) → slice_get candidates i ≡ Some candidate → (P : ℕ → Standing → Type 0) →
      ((k : ℕ) → k < i → (other : Candidate) → slice_get candidates k ≡ Some other → P k (st other)) → P i (st candidate) →
      (k : ℕ) → k < i + 1 → (other : Candidate) → slice_get candidates k ≡ Some other → P k (st other)
  one_more i candidate at P before here =
      below_more (λ k. (other : Candidate) → slice_get candidates k ≡ Some other → P k (st other)) i before
      (λ other at_other. let same : candidate ≡ other = cc (at, at_other) in subst (λ other. P i (st other)) same here)

  pub leader_more : (i : ℕ) (leader : Option Standing) (candidate : Candidate) → slice_get candidates i ≡ Some candidate →
      IsLeader plan candidates i leader → Leads (st candidate) leader → IsLeader plan candidates (i + 1) (Some (st candidate))
  leader_more i leader candidate at is leads = (
    (i, (candidate, at, refl)),
    one_more i candidate at (λ k other. IsAhead other (st candidate) → ⊥) (earlier leader is leads) (not_ahead_of_itself (st candidate)),
  )
    where
      earlier : (leader : Option Standing) → IsLeader plan candidates i leader → Leads (st candidate) leader →
          (k : ℕ) → k < i → (other : Candidate) → slice_get candidates k ≡ Some other → IsAhead (st other) (st candidate) → ⊥
      earlier None none leads k below other at_other ahead = none k below other at_other
      earlier (Some leader) is leads k below other at_other ahead =
          is.1 k below other at_other (ahead_then (st other) (st candidate) leader ahead leads)

  pub leader_stays : (i : ℕ) (leader : Option Standing) (candidate : Candidate) → slice_get candidates i ≡ Some candidate →
      IsLeader plan candidates i leader → (Leads (st candidate) leader → ⊥) → IsLeader plan candidates (i + 1) leader
  leader_stays i None candidate at none leads_not = absurd (leads_not tt)
  leader_stays i (Some leader) candidate at is leads_not =
      (is.0, one_more i candidate at (λ k other. IsAhead other leader → ⊥) is.1 leads_not)

  -- who is level with a leader of all has none ahead
  pub level_has_none_ahead : (leader one : Standing) → IsLeader plan candidates (length candidates) (Some leader) → IsLevel one leader
      → HasNoneAhead plan candidates one
  level_has_none_ahead leader one is level k candidate at ahead =
      is.1 k (slice_get_within candidates k candidate at) candidate at (follows_level (st candidate) one leader level ahead)

  -- and who has none ahead is level with it
  pub none_ahead_is_level : (leader one : Standing) (k : ℕ) (candidate : Candidate) → slice_get candidates k ≡ Some candidate
      → st candidate ≡ one →
      IsLeader plan candidates (length candidates) (Some leader) → HasNoneAhead plan candidates one → IsLevel one leader
  none_ahead_is_level leader one k candidate at is_one is none =
      equal_level one leader
      (λ ahead. is.1 k (slice_get_within candidates k candidate at) candidate at (rw is_one ahead))
      (λ ahead. none is.0.0 is.0.1.0 is.0.1.1 (rw is.0.1.2 ahead))

  pub best_skips : (i : ℕ) (best : Option Placed) (candidate : Candidate) → slice_get candidates i ≡ Some candidate →
      IsBest plan candidates i best → (IsLeftByMed plan candidates (st candidate) → ⊥) → IsBest plan candidates (i + 1) best
  best_skips i None candidate at none left_not = one_more i candidate at (λ k other. IsLeftByMed plan candidates other → ⊥) none left_not
  best_skips i (Some best) candidate at is left_not = (
    omega (arith, is.0),
    is.1,
    is.2,
    one_more i candidate at (λ k other. IsLeftByMed plan candidates other → Holds best k other) is.3 (λ left. absurd (left_not left)),
  )

  pub best_changes : (i : ℕ) (best : Option Placed) (candidate : Candidate) → slice_get candidates i ≡ Some candidate →
      IsBest plan candidates i best → IsLeftByMed plan candidates (st candidate) → GoesFirst (st candidate) best →
      IsBest plan candidates (i + 1) (Some (record { place = i; standing = st candidate }))
  best_changes i best candidate at is left first = (
    omega arith,
    (candidate, at, refl),
    left,
    one_more i candidate at (λ k other. IsLeftByMed plan candidates other → Holds (record { place = i; standing = st candidate }) k other)
        (earlier best is first) (λ left. inr (refl, refl, omega arith)),
  )
    where
      earlier : (best : Option Placed) → IsBest plan candidates i best → GoesFirst (st candidate) best → (k : ℕ) → k < i
          → (other : Candidate) →
          slice_get candidates k ≡ Some other → IsLeftByMed plan candidates (st other)
          → Holds (record { place = i; standing = st candidate }) k (st other)
      earlier None none first k below other at_other left_other = absurd (none k below other at_other left_other)
      earlier (Some best) is first k below other at_other left_other =
          inl (precedes_holds (record { place = i; standing = st candidate }) best k (st other) first
          (is.3 k below other at_other left_other))

  pub best_stays : (i : ℕ) (best : Option Placed) (candidate : Candidate) → slice_get candidates i ≡ Some candidate →
      IsBest plan candidates i best → (GoesFirst (st candidate) best → ⊥) → IsBest plan candidates (i + 1) best
  best_stays i None candidate at none first_not = absurd (first_not tt)
  best_stays i (Some best) candidate at is first_not = (
    omega (arith, is.0),
    is.1,
    is.2,
    one_more i candidate at (λ k other. IsLeftByMed plan candidates other → Holds best k other) is.3
        (λ left. holds_later best i (st candidate) is.0 first_not),
  )

  left_candidate : (k : ℕ) (candidate : Candidate) → slice_get candidates k ≡ Some candidate → IsLeftByMed plan candidates (st candidate)
      → LeftByMed st (Mem candidates) candidate
  left_candidate k candidate at left = record {
    member = mem-slice_get candidates k candidate at;
    best = λ w h beaten.
        let found = slice_get-mem candidates w h in
        elim beaten [
          | inl ahead ↦ left.0 found.0 w found.1 ahead
          | inr lower ↦ left.1 found.0 w found.1 lower
        ];
  }

  is_left_candidate : (candidate : Candidate) → LeftByMed st (Mem candidates) candidate → IsLeftByMed plan candidates (st candidate)
  is_left_candidate candidate left = (
    λ k other at ahead. left.best other (mem-slice_get candidates k other at) (inl ahead),
    λ k other at lower. left.best other (mem-slice_get candidates k other at) (inr lower),
  )

  -- the best of all is the choice
  pub place_of_best : (best : Option Placed) → IsBest plan candidates (length candidates) best →
      place_of_choice st candidates ≡ option_map (λ best. best.place) best
  place_of_best None none =
      place_of_choice-None st candidates
      (λ x left.
      let found = slice_get-mem candidates x left.member.member in
      none found.0 (slice_get_within candidates found.0 x found.1) x found.1 (is_left_candidate x left.member))
  place_of_best (Some best) is =
      let x = is.1.0 in
      let at = is.1.1 in
      let standing_is = is.1.2 in
      let left_x = left_candidate best.place x at (rw standing_is is.2) in
      place_of_choice-Some st candidates best.place x at
      (record {
        member = left_x;
        best = λ w left first.
            let found = slice_get-mem candidates w left.member in
            let holds = is.3 found.0 (slice_get_within candidates found.0 w found.1) w found.1 (is_left_candidate w left) in
            let first_best : Precedes (st w) best.standing = rw standing_is at first in
            elim holds [
              | inl before ↦ not_both_precede (st w) best.standing first_best before
              | inr same ↦ absurd (grind (arith, same, first_best))
            ];
      })
      (λ k w at_w left.
      let holds = is.3 k (slice_get_within candidates k w at_w) w at_w (is_left_candidate w left.member) in
      elim holds [
        | inl before ↦ absurd (left.best x left_x (rw standing_is before))
        | inr same ↦ same.2
      ])
