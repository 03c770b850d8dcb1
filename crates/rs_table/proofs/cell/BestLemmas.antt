-- Which route a client gets by the place of a route, and by the number of its peer: for `decide`, `to_places`, `place_for` and
-- `place_or_none` of cell.rt.
use Rattle.std.proofs.Common.{◌≡◌, ℕ, ◌+◌, ◌<◌, ◌≤◌, List, [], ◌∷◌, length, map, get_or, cond, ◌==◌, Option, Some, None, refl, sym, ap, subst, ◌∙◌, arith}
use Rattle.std.proofs.Common.{inl, inr}
use Rattle.std.specs.List.{refill}
use Rattle.std.specs.Option.{option_map, option_and_then}
use Rattle.std.specs.Prelude.{drop, nat_lt, slice_get}
use Rattle.std.proofs.lemmas.Bool.{cases_Bool, eq-eqb, ltb-true}
use Rattle.std.proofs.lemmas.List.{length-map, take_at}
use Rattle.std.proofs.lemmas.Option.{slice_get-map, slice_get_past}
use Rattle.rs_choice.specs.Decision.{SentRoute}
use Rattle.rs_choice.specs.Held.{sent_of_held, IsAt}
use Rattle.rs_choice.specs.declared.held_route.HeldRoute.{HeldRoute}
use Rattle.rs_table.specs.ByPeer.{place_of, route_at, IsRow}
use Rattle.rs_table.specs.Cell.{got_at, got_from, unless_own, IsPlaceOf}
use Rattle.rs_table.specs.Left.{RouteLeft}
use Rattle.rs_table.specs.Table.{sent_by}
use Rattle.rs_table.proofs.ValueLemmas.{either_way}
use Rattle.rs_table.proofs.cell.ChangeLemmas.{IsHeldRow}
use Rattle.rs_table.proofs.cell.PlaceLemmas.{route_nowhere, route_there}
use Rattle.rs_table.proofs.cell.RowLemmas.{length-row, not_below}

abbrev peer_of : HeldRoute → ℕ
peer_of one = one.peer

-- ---- the place of a peer's route

pub place-there : (held : List HeldRoute) (peer place : ℕ) → place ≡ place_of peer_of held peer → IsAt held place peer
    → IsPlaceOf (map sent_of_held held) peer place
place-there held peer place is at =
    let one : HeldRoute = at.0 in
    let found : slice_get held (place_of peer_of held peer) ≡ Some one = ap (slice_get held) (sym is) ∙ at.1 in
    slice_get-map sent_of_held held place
    ∙ ap (option_map sent_of_held) at.1
    ∙ ap (λ (number : ℕ). Some (record { peer = number; time = one.time; attributes = one.attributes.value })) at.2
    ∙ sym (ap (option_map (sent_by peer)) (route_there peer held one found at.2))

pub place-first : (held : List HeldRoute) (d : HeldRoute) → 0 < length held → IsPlaceOf (map sent_of_held held) (get_or held 0 d).peer 0
place-first [] d some = absurd (omega (arith, some))
place-first (x ∷ xs) d some = sym (rw (eq-eqb x.peer x.peer refl) refl)

-- where some peer below a number has no route, there are fewer routes
fewer : (from to peer : ℕ) (held : List HeldRoute) → from ≤ peer → peer < to → (IsAt held (place_of peer_of held peer) peer → ⊥)
    → IsHeldRow from to held → length held + from < to
fewer from to peer [] lo hi none row = omega (arith, lo, hi)
fewer from to peer (x ∷ xs) lo hi none row =
    elim (cases_Bool (nat_lt x.peer peer)) [
      | inl less ↦
          let nowhere : IsAt xs (place_of peer_of xs peer) peer → ⊥ = rw less at none in
          omega (arith, row.0, fewer (x.peer + 1) to peer xs (omega (arith, ltb-true x.peer peer less)) hi nowhere row.2)
      | inr more ↦
          let not_here : IsAt (x ∷ xs) 0 peer → ⊥ = rw more at none in
          let apart : x.peer ≡ peer → ⊥ = λ same. not_here (x, refl, same) in
          omega (
            arith,
            lo,
            apart,
            not_below x.peer peer more,
            length-row (x.peer + 1) to (map sent_of_held xs) (omega (arith, row.1)) row.2,
            length-map xs sent_of_held,
          )
    ]

pub place-nowhere : (held : List HeldRoute) (peer place : ℕ) → place ≡ place_of peer_of held peer → (IsAt held place peer → ⊥)
    → peer < 256 → IsHeldRow 0 256 held → IsPlaceOf (map sent_of_held held) peer 255
place-nowhere held peer place is none hi row =
    let nowhere : IsAt held (place_of peer_of held peer) peer → ⊥ = λ at. none (subst (λ k. IsAt held k peer) (sym is) at) in
    slice_get_past (map sent_of_held held) 255
    (omega (arith, fewer 0 256 peer held (omega arith) hi nowhere row, length-map held sent_of_held))
    ∙ sym (ap (option_map (sent_by peer)) (route_nowhere 0 256 peer held nowhere row))

pub few : (to : ℕ) (held : List HeldRoute) → IsHeldRow 0 to held → length held ≤ to
few to held row = omega (arith, length-row 0 to (map sent_of_held held) (omega arith) row, length-map held sent_of_held)

pub IsRow-wider : (from to more : ℕ) (routes : List SentRoute) → to ≤ more → IsRow from to routes → IsRow from more routes
IsRow-wider from to more [] le row = tt
IsRow-wider from to more (route ∷ later) le row =
    (row.0, omega (arith, row.1, le), IsRow-wider (route.peer + 1) to more later le row.2)

-- ---- what a client gets

unless_own-sent : (client peer : ℕ) (o : Option RouteLeft)
    → option_and_then (unless_own client) (option_map (sent_by peer) o) ≡ cond (peer == client) None (option_map (sent_by peer) o)
unless_own-sent client peer None = either_way (peer == client) None
unless_own-sent client peer (Some route) = refl

pub got-place : (routes : List SentRoute) (client peer place : ℕ) → IsPlaceOf routes peer place
    → got_at routes client place ≡ got_from routes client peer
got-place routes client peer place is =
    ap (option_and_then (unless_own client)) is ∙ unless_own-sent client peer (route_at routes peer)

-- a client's own number gives no route, and no more does a place behind all routes
pub got-none : (routes : List SentRoute) (client peer place : ℕ) → peer ≡ client → length routes ≤ place
    → got_at routes client place ≡ got_from routes client peer
got-none routes client peer place own past =
    ap (option_and_then (unless_own client)) (slice_get_past routes place past) ∙ sym (rw (eq-eqb peer client own) refl)

-- ---- the octets of the clients

-- a list that replaces all of another
pub refill-all : {X : Type 0} (before after : List X) → length after ≡ length before → refill (length before) before after ≡ after
refill-all before after same = take_at after (drop (length after) before) (length before) same
