-- Routes in ascending order of their peers: for `place_of_peer` and `count_lower` of held_order.rt.
use Rattle.std.proofs.Common.{◌≡◌, ◌∙◌, ◌+◌, ap, arith, inl, inr, ℕ, ◌<◌, ◌≤◌, List, length, get_or}
use Rattle.std.specs.List.Sorted.{IsNonDecreasingBy, IsPartitionPoint}
use Rattle.std.proofs.lemmas.Bool.Decides.{eqb_tells}
use Rattle.std.proofs.lemmas.Option.{get_or_from_slice_get, slice_get_within}
use Rattle.rs_choice.specs.declared.held_route.HeldRoute.{HeldRoute}
use Rattle.rs_choice.specs.Held.{AscendByPeer, IsAt}

-- the numbers don't fall
pub rising : (held : List HeldRoute) → AscendByPeer held → IsNonDecreasingBy (λ (one : HeldRoute). one.peer) held
rising held up i j one before within =
    elim (eqb_tells i j) [
      | inl same ↦ omega (arith, ap (λ k. (get_or held k one).peer) same.1)
      | inr apart ↦ omega (arith, up i j one (omega (arith, before, apart.1)) within)
    ]

-- a peer's route parts those before it from those after it
pub parts_at : (held : List HeldRoute) (place peer : ℕ) → AscendByPeer held → IsAt held place peer →
    IsPartitionPoint (λ (one : HeldRoute). one.peer < peer) (λ (one : HeldRoute). peer ≤ one.peer) held place
parts_at held place peer up at = (
  λ k one low below. omega (arith, up k place one below within, here one),
  λ k one above inside. elim (eqb_tells k place) [
    | inl same ↦ omega (arith, ap (λ k. (get_or held k one).peer) same.1, here one)
    | inr apart ↦ omega (arith, up place k one (omega (arith, above, apart.1)) inside, here one)
  ],
)
  where
    within : place < length held
    within = slice_get_within held place at.0 at.1

    here : (one : HeldRoute) → (get_or held place one).peer ≡ peer
    here one = ap (λ (one : HeldRoute). one.peer) (get_or_from_slice_get held place at.0 one at.1) ∙ at.2

-- one route more is looked at: where it is of a lower number, so are all before it
module _ (held : List HeldRoute) (place count peer number : ℕ) (within : place < length held) (so_far : count ≤ place)
    (lower : AscendByPeer held → (k : ℕ) (one : HeldRoute) → k < count → (get_or held k one).peer < peer)
    (others : AscendByPeer held → (k : ℕ) (one : HeldRoute) → count ≤ k → k < place → peer ≤ (get_or held k one).peer)
    (here : (one : HeldRoute) → (get_or held place one).peer ≡ number) where
  all-lower : number < peer → AscendByPeer held → HeldRoute → count ≡ place
  all-lower low up one = elim (eqb_tells count place) [
    | inl same ↦ same.1
    | inr apart ↦
        let before : count < place = omega (arith, so_far, apart.1) in
        absurd (omega (arith, low, here one, others up count one (omega arith) before, up count place one before within))
  ]

  pub lower-also : number < peer → AscendByPeer held → (k : ℕ) (one : HeldRoute) → k < count + 1 → (get_or held k one).peer < peer
  lower-also low up k one below = elim (eqb_tells k count) [
    | inl same ↦ omega (arith, low, here one, ap (λ n. (get_or held n one).peer) (same.1 ∙ all-lower low up one))
    | inr apart ↦ lower up k one (omega (arith, below, apart.1))
  ]

  pub others-end : number < peer → AscendByPeer held → (k : ℕ) (one : HeldRoute) → count + 1 ≤ k → k < place + 1
      → peer ≤ (get_or held k one).peer
  others-end low up k one above below = absurd (omega (arith, above, below, all-lower low up one))

  pub others-also : peer ≤ number → AscendByPeer held → (k : ℕ) (one : HeldRoute) → count ≤ k → k < place + 1
      → peer ≤ (get_or held k one).peer
  others-also high up k one above below = elim (eqb_tells k place) [
    | inl same ↦ omega (arith, high, here one, ap (λ n. (get_or held n one).peer) same.1)
    | inr apart ↦ others up k one above (omega (arith, below, apart.1))
  ]
