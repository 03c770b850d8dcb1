-- Where the route of a peer stands among routes that ascend by peer, and what is found there: for `place_of` and `place` of cell.rt.
use Rattle.std.proofs.Common.{◌≡◌, ℕ, ◌+◌, ◌<◌, ◌≤◌, suc, zero, List, [], ◌∷◌, length, map, get_or, Some, None, refl, ap, ◌∙◌, arith, inl}
use Rattle.std.proofs.Common.{inr}
use Rattle.std.specs.Prelude.{nat_lt, slice_get}
use Rattle.std.specs.List.Sorted.{IsPartitionPoint}
use Rattle.std.proofs.lemmas.Bool.{cases_Bool}
use Rattle.std.proofs.lemmas.Bool.Decides.{eqb_tells, nat_tests}
use Rattle.std.proofs.lemmas.List.{get_or_default}
use Rattle.rs_choice.specs.Held.{sent_of_held, AscendByPeer, IsAt}
use Rattle.rs_choice.specs.declared.held_route.HeldRoute.{HeldRoute}
use Rattle.rs_table.specs.ByPeer.{place_of, route_at, IsAscending}
use Rattle.rs_table.specs.Left.{RouteLeft}
use Rattle.rs_table.proofs.cell.ChangeLemmas.{from_peer, is_below, is_not_below, IsHeldRow}
use Rattle.rs_table.proofs.cell.RowLemmas.{not_below, route_at-before}

abbrev peer_of : HeldRoute → ℕ
peer_of one = one.peer

-- the peers of a row ascend
row_ascends : (from to : ℕ) (held : List HeldRoute) → IsHeldRow from to held → AscendByPeer held
row_ascends from to [] row i j one before within = absurd (omega (arith, within))
row_ascends from to (x ∷ xs) row i zero one before within = absurd (omega (arith, before))
row_ascends from to (x ∷ xs) row zero (suc j) one before within =
    let inside : j < length xs = omega (arith, within) in
    omega (arith, from_peer (x.peer + 1) to xs j (get_or xs j one) row.2 inside (get_or_default xs j (get_or xs j one) one inside))
row_ascends from to (x ∷ xs) row (suc i) (suc j) one before within =
    row_ascends (x.peer + 1) to xs row.2 i j one (omega (arith, before)) (omega (arith, within))

pub ascends : (held : List HeldRoute) → IsAscending held → AscendByPeer held
ascends held row = row_ascends 0 row.0 held row.1

-- the place that parts those of lower peers from the others is the place of a peer
pub place_parts : (held : List HeldRoute) (peer place : ℕ) → place ≤ length held →
    IsPartitionPoint (λ (one : HeldRoute). one.peer < peer) (λ (one : HeldRoute). peer ≤ one.peer) held place
    → place ≡ place_of peer_of held peer
place_parts [] peer place within parts = omega (arith, within)
place_parts (x ∷ xs) peer zero within parts =
    rw (is_not_below x.peer peer (parts.1 0 x (omega arith) (omega arith))) refl
place_parts (x ∷ xs) peer (suc place) within parts =
    rw (is_below x.peer peer (parts.0 0 x (omega arith) (omega arith)))
    (ap suc (place_parts xs peer place (omega (arith, within)) (
      λ k one low below. parts.0 (suc k) one (omega arith) (omega (arith, below)),
      λ k one above inside. parts.1 (suc k) one (omega (arith, above)) (omega (arith, inside)),
    )))

abbrev left_of : HeldRoute → RouteLeft
left_of one = record { time = one.time; attributes = one.attributes.value }

-- the one at the place of a peer's, if it is of that peer, is its route
pub route_there : (peer : ℕ) (held : List HeldRoute) (one : HeldRoute) → slice_get held (place_of peer_of held peer) ≡ Some one
    → one.peer ≡ peer →
    route_at (map sent_of_held held) peer ≡ Some (left_of one)
route_there peer [] one at same = absurd (cc (at))
route_there peer (x ∷ xs) one at same =
    elim (cases_Bool (nat_lt x.peer peer)) [
      | inl less ↦
          let there : slice_get xs (place_of peer_of xs peer) ≡ Some one = rw less at at in
          elim (eqb_tells x.peer peer) [
            | inl here ↦ absurd (grind (arith, nat_tests, here.1, less))
            | inr apart ↦ rw apart.0 (route_there peer xs one there same)
          ]
      | inr more ↦
          let here : slice_get (x ∷ xs) 0 ≡ Some one = rw more at at in
          let is : x ≡ one = cc (here) in
          elim (eqb_tells x.peer peer) [
            | inl both ↦ rw both.0 (ap (λ one. Some (left_of one)) is)
            | inr apart ↦ absurd (apart.1 (ap peer_of is ∙ same))
          ]
    ]

-- where none of a peer stands there, it has none
pub route_nowhere : (from to peer : ℕ) (held : List HeldRoute) → (IsAt held (place_of peer_of held peer) peer → ⊥) → IsHeldRow from to held
    →
    route_at (map sent_of_held held) peer ≡ None
route_nowhere from to peer [] none row = refl
route_nowhere from to peer (x ∷ xs) none row =
    elim (cases_Bool (nat_lt x.peer peer)) [
      | inl less ↦
          let nowhere : IsAt xs (place_of peer_of xs peer) peer → ⊥ = rw less at none in
          elim (eqb_tells x.peer peer) [
            | inl same ↦ absurd (grind (arith, nat_tests, same.1, less))
            | inr apart ↦ rw apart.0 (route_nowhere (x.peer + 1) to peer xs nowhere row.2)
          ]
      | inr more ↦
          let not_here : IsAt (x ∷ xs) 0 peer → ⊥ = rw more at none in
          elim (eqb_tells x.peer peer) [
            | inl same ↦ absurd (not_here (x, refl, same.1))
            | inr apart ↦ rw apart.0 (route_at-before (x.peer + 1) to peer (map sent_of_held xs) (omega (arith, not_below x.peer peer more))
                row.2)
          ]
    ]
