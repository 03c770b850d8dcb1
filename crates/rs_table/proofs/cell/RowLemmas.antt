-- The routes on one prefix, in ascending order of their peers: for HeldLemmas, ChangeLemmas, PlaceLemmas, CellsLemmas and TablesLemmas.
use Rattle.std.proofs.Common.{◌≡◌, ℕ, ◌+◌, ◌<◌, ◌≤◌, Bool, true, false, cond, not, List, [], ◌∷◌, length, Some, None, refl, ap, ◌∙◌, arith}
use Rattle.std.proofs.Common.{inl, inr}
use Rattle.std.specs.Prelude.{◌==◌, nat_lt}
use Rattle.std.proofs.lemmas.Bool.{cases_Bool}
use Rattle.std.proofs.lemmas.Bool.Decides.{eqb_tells, nat_tests}
use Rattle.rs_table.specs.Left.{RouteLeft}
use Rattle.rs_choice.specs.Decision.{SentRoute}
use Rattle.rs_table.specs.ByPeer.{IsRow, route_at, with_route, without_route}
use Rattle.rs_table.proofs.ValueLemmas.{either_way}

below : (a b : ℕ) → nat_lt a b ≡ true → a < b
below a b e = grind (arith, nat_tests)

pub not_below : (a b : ℕ) → nat_lt a b ≡ false → b ≤ a
not_below a b e = grind (arith, nat_tests)

pub IsRow-from : (from more to : ℕ) (routes : List SentRoute) → from ≤ more → IsRow more to routes → IsRow from to routes
IsRow-from from more to [] le row = tt
IsRow-from from more to (route ∷ later) le row = (omega (arith, row.0), row.1, row.2)

pub IsRow-without : (from to peer : ℕ) (routes : List SentRoute) → IsRow from to routes → IsRow from to (without_route routes peer)
IsRow-without from to peer [] row = tt
IsRow-without from to peer (route ∷ later) row =
    let rest : IsRow (route.peer + 1) to (without_route later peer) = IsRow-without (route.peer + 1) to peer later row.2 in
    elim (not (route.peer == peer)) as (λ b. IsRow from to (cond b (route ∷ without_route later peer) (without_route later peer))) [
      | true ↦ (row.0, row.1, rest)
      | false ↦ IsRow-from from (route.peer + 1) to (without_route later peer) (omega (arith, row.0)) rest
    ]

pub IsRow-with : (from to : ℕ) (routes : List SentRoute) (route : SentRoute) → from ≤ route.peer → route.peer < to → IsRow from to routes
    → IsRow from to (with_route routes route)
IsRow-with from to [] route lo hi row = (lo, hi, tt)
IsRow-with from to (first ∷ later) route lo hi row =
    elim (cases_Bool (nat_lt first.peer route.peer)) [
      | inl less ↦ rw less (
        row.0,
        row.1,
        IsRow-with (first.peer + 1) to later route (omega (arith, below first.peer route.peer less))
            hi row.2,
      )
      | inr more ↦ rw more (elim (eqb_tells first.peer route.peer) [
        | inl same ↦ rw same.0 (lo, hi, IsRow-from (route.peer + 1) (first.peer + 1) to later (omega (arith, same.1)) row.2)
        | inr apart ↦ rw apart.0 (lo, hi, (omega (arith, not_below first.peer route.peer more, apart.1), row.1, row.2))
      ])
    ]

-- no more routes than peers
pub length-row : (from to : ℕ) (routes : List SentRoute) → from ≤ to → IsRow from to routes → length routes + from ≤ to
length-row from to [] le row = omega (arith, le)
length-row from to (route ∷ later) le row = omega (arith, length-row (route.peer + 1) to later (omega (arith, row.1)) row.2, row.0)

-- the peers from one on have no route where all routes are of later ones
pub route_at-before : (from to peer : ℕ) (routes : List SentRoute) → peer < from → IsRow from to routes → route_at routes peer ≡ None
route_at-before from to peer [] less row = refl
route_at-before from to peer (route ∷ later) less row =
    elim (eqb_tells route.peer peer) [
      | inl same ↦ absurd (omega (arith, same.1, row.0, less))
      | inr apart ↦ rw apart.0 (route_at-before (route.peer + 1) to peer later (omega (arith, row.0, less)) row.2)
    ]

-- ---- what a change leaves of each peer

swap_tests : {X : Type 0} (one other : Bool) (x y z : X) → (one ≡ true → other ≡ true → ⊥)
    → cond one x (cond other y z) ≡ cond other y (cond one x z)
swap_tests true true x y z apart = absurd (apart refl refl)
swap_tests true false x y z apart = refl
swap_tests false other x y z apart = refl

abbrev left_of : SentRoute → RouteLeft
left_of route = record { time = route.time; attributes = route.attributes }

pub route_at-with : (routes : List SentRoute) (route : SentRoute) (peer : ℕ) →
    route_at (with_route routes route) peer ≡ cond (route.peer == peer) (Some (record { time = route.time; attributes = route.attributes }))
    (route_at routes peer)
route_at-with [] route peer = refl
route_at-with (first ∷ later) route peer =
    elim (cases_Bool (nat_lt first.peer route.peer)) [
      | inl less ↦ rw less (
          ap (cond (first.peer == peer) (Some (left_of first))) (route_at-with later route peer)
          ∙ swap_tests (first.peer == peer) (route.peer == peer) (Some (left_of first)) (Some (left_of route)) (route_at later peer)
          (λ one other. elim (eqb_tells first.peer peer) [
            | inl here ↦ elim (eqb_tells route.peer peer) [
              | inl there ↦ absurd (omega (arith, below first.peer route.peer less, here.1, there.1))
              | inr apart ↦ absurd (cc (apart.0, other))
            ]
            | inr apart ↦ absurd (cc (apart.0, one))
          ]))
      | inr more ↦ rw more (elim (eqb_tells first.peer route.peer) [
        | inl same ↦ rw same.0 (elim (eqb_tells route.peer peer) [
          | inl here ↦ rw here.0 refl
          | inr there ↦ rw there.0 (elim (eqb_tells first.peer peer) [
            | inl both ↦ absurd (there.1 (omega (arith, same.1, both.1)))
            | inr none ↦ rw none.0 refl
          ])
        ])
        | inr apart ↦ rw apart.0 refl
      ])
    ]

pub route_at-without : (routes : List SentRoute) (gone peer : ℕ)
    → route_at (without_route routes gone) peer ≡ cond (gone == peer) None (route_at routes peer)
route_at-without [] gone peer = either_way (gone == peer) None
route_at-without (route ∷ later) gone peer =
    elim (eqb_tells route.peer gone) [
      | inl same ↦ rw same.0 (route_at-without later gone peer ∙ elim (eqb_tells gone peer) [
        | inl here ↦ rw here.0 refl
        | inr there ↦ rw there.0 (elim (eqb_tells route.peer peer) [
          | inl both ↦ absurd (there.1 (omega (arith, same.1, both.1)))
          | inr none ↦ rw none.0 refl
        ])
      ])
      | inr apart ↦ rw apart.0 (elim (eqb_tells route.peer peer) [
        | inl here ↦ rw here.0 (elim (eqb_tells gone peer) [
          | inl both ↦ absurd (apart.1 (omega (arith, here.1, both.1)))
          | inr none ↦ rw none.0 refl
        ])
        | inr there ↦ rw there.0 (route_at-without later gone peer)
      ])
    ]
