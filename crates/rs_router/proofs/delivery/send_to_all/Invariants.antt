-- Those before the place were sent the item, the others not yet.
use Rattle.std.proofs.Common.{◌≡◌, ℕ, ◌≤◌, ◌++◌, ◌∷◌, [], map}
use Rattle.std.specs.Prelude.{slice_get}
use Rattle.rs_router.specs.Delivery.{item_of, sent_lists, SameSenders}
use Rattle.rs_router.proofs.PlaceLemmas.{map_from}
use Rattle.rs_router.proofs.delivery.send_to_all.Given as goal

abbrev pub invariant-loop-sender : goal.invariant-loop-sender
invariant-loop-sender g l = record {
  sent : map_from (λ sent. sent ++ item_of l.fn.shared ∷ []) l.sender-index (sent_lists l.to)
      ≡ map (λ sent. sent ++ item_of l.fn.shared ∷ []) (sent_lists l.fn.to);
  rings : SameSenders l.fn.to l.to;
  later : (shard : ℕ) → l.sender-index ≤ shard → slice_get l.to shard ≡ slice_get l.fn.to shard;
}
