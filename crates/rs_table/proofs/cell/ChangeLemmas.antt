-- A change of one peer's route among routes that ascend by peer: for `put` and `take_out` of cell.rt, and PlaceLemmas.
use Rattle.std.proofs.Common.{◌≡◌, ℕ, ◌+◌, ◌<◌, ◌≤◌, suc, zero, true, false, List, [], ◌∷◌, length, map, get_or, refl, sym, ap, arith, inl}
use Rattle.std.proofs.Common.{inr, ◌∙◌}
use Rattle.std.specs.List.{remove}
use Rattle.std.specs.Prelude.{nat_lt}
use Rattle.std.proofs.lemmas.Bool.{cases_Bool}
use Rattle.std.proofs.lemmas.Bool.Decides.{eqb_tells, nat_tests}
use Rattle.std.proofs.lemmas.Option.{get_or_from_slice_get, slice_get-get_or, slice_get_within}
use Rattle.rs_choice.specs.Held.{sent_of_held, IsAt}
use Rattle.rs_choice.specs.declared.held_route.HeldRoute.{HeldRoute}
use Rattle.rs_table.specs.ByPeer.{place_of, without_one, IsRow}
use Rattle.rs_table.proofs.cell.RowLemmas.{not_below}

abbrev peer_of : HeldRoute → ℕ
peer_of one = one.peer

-- stored routes in ascending order of their peers
abbrev pub IsHeldRow : ℕ → ℕ → List HeldRoute → Type 0
IsHeldRow from to held = IsRow from to (map sent_of_held held)

pub from_peer : (from to : ℕ) (held : List HeldRoute) (i : ℕ) (one : HeldRoute) → IsHeldRow from to held → i < length held
    → get_or held i one ≡ one → from ≤ one.peer
from_peer from to [] i one row within is = absurd (omega (arith, within))
from_peer from to (x ∷ xs) zero one row within is = omega (arith, row.0, ap peer_of is)
from_peer from to (x ∷ xs) (suc i) one row within is =
    omega (arith, row.0, from_peer (x.peer + 1) to xs i one row.2 (omega (arith, within)) is)

pub is_below : (a b : ℕ) → a < b → nat_lt a b ≡ true
is_below a b h = grind (arith, nat_tests)

pub is_not_below : (a b : ℕ) → b ≤ a → nat_lt a b ≡ false
is_not_below a b h = grind (arith, nat_tests)

-- ---- without that of a peer

later_stay : (from to peer : ℕ) (held : List HeldRoute) → IsHeldRow from to held → peer < from → without_one peer_of held peer ≡ held
later_stay from to peer [] row below = refl
later_stay from to peer (x ∷ xs) row below =
    elim (eqb_tells x.peer peer) [
      | inl same ↦ absurd (omega (arith, same.1, row.0, below))
      | inr apart ↦ rw apart.0 (ap (λ rest. x ∷ rest) (later_stay (x.peer + 1) to peer xs row.2 (omega (arith, row.0, below))))
    ]

pub without-remove : (from to peer : ℕ) (held : List HeldRoute) → IsHeldRow from to held → IsAt held (place_of peer_of held peer) peer →
    remove held (place_of peer_of held peer) ≡ without_one peer_of held peer
without-remove from to peer [] row at = absurd (cc (at.1))
without-remove from to peer (x ∷ xs) row at =
    elim (cases_Bool (nat_lt x.peer peer)) [
      | inl less ↦
          let there : IsAt xs (place_of peer_of xs peer) peer = rw less at at in
          elim (eqb_tells x.peer peer) [
            | inl same ↦ absurd (grind (arith, nat_tests, same.1, less))
            | inr apart ↦ rw (less, apart.0) (ap (λ rest. x ∷ rest) (without-remove (x.peer + 1) to peer xs row.2 there))
          ]
      | inr more ↦
          let here : IsAt (x ∷ xs) 0 peer = rw more at at in
          let is : x ≡ here.0 = cc (here.1) in
          let same : x.peer ≡ peer = ap peer_of is ∙ here.2 in
          elim (eqb_tells x.peer peer) [
            | inl same ↦ rw (more, same.0) (sym (later_stay (x.peer + 1) to peer xs row.2 (omega (arith, same.1))))
            | inr apart ↦ absurd (apart.1 same)
          ]
    ]

pub without-none : (from to peer : ℕ) (held : List HeldRoute) → IsHeldRow from to held → (IsAt held (place_of peer_of held peer) peer → ⊥) →
    held ≡ without_one peer_of held peer
without-none from to peer [] row none = refl
without-none from to peer (x ∷ xs) row none =
    elim (cases_Bool (nat_lt x.peer peer)) [
      | inl less ↦
          let nowhere : IsAt xs (place_of peer_of xs peer) peer → ⊥ = rw less at none in
          elim (eqb_tells x.peer peer) [
            | inl same ↦ absurd (grind (arith, nat_tests, same.1, less))
            | inr apart ↦ rw apart.0 (ap (λ rest. x ∷ rest) (without-none (x.peer + 1) to peer xs row.2 nowhere))
          ]
      | inr more ↦
          let not_here : IsAt (x ∷ xs) 0 peer → ⊥ = rw more at none in
          elim (eqb_tells x.peer peer) [
            | inl same ↦ absurd (not_here (x, refl, same.1))
            | inr apart ↦ rw apart.0 (ap (λ rest. x ∷ rest)
                (sym (later_stay (x.peer + 1) to peer xs row.2 (omega (arith, apart.1, not_below x.peer peer more)))))
          ]
    ]

-- ---- who stands at a place

pub at_gives : (held : List HeldRoute) (place peer : ℕ) (d : HeldRoute) → IsAt held place peer → (place < length held)
    × ((get_or held place d).peer ≡ peer)
at_gives held place peer d at =
    (slice_get_within held place at.0 at.1, ap peer_of (get_or_from_slice_get held place at.0 d at.1) ∙ at.2)

pub at_from : (held : List HeldRoute) (place peer : ℕ) (d : HeldRoute) → place < length held → (get_or held place d).peer ≡ peer
    → IsAt held place peer
at_from held place peer d within same = (get_or held place d, slice_get-get_or held place d within, same)
