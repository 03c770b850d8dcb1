-- The clients so far have places, the others still have numbers of peers; the place found last is right.
use Rattle.std.proofs.Common.{◌≡◌, ◌<◌, ◌≤◌, ℕ, length, map}
use Rattle.std.specs.Prelude.{slice_index_or}
use Rattle.rs_choice.specs.Held.{sent_of_held}
use Rattle.rs_table.specs.Cell.{got_at, got_from, IsPlaceOf}
use Rattle.rs_table.proofs.cell.to_places.Given as goal

abbrev pub invariant-loop-client : goal.invariant-loop-client
invariant-loop-client l = record {
  count : length l.bests ≡ length l.fn.bests;
  found : IsPlaceOf (map sent_of_held l.held) l.last.peer l.last.place;
  turned : (k : ℕ) → k < l.client
      → got_at (map sent_of_held l.held) k (slice_index_or l.bests k 0)
      ≡ got_from (map sent_of_held l.held) k (slice_index_or l.fn.bests k 0);
  later : (k : ℕ) → l.client ≤ k → slice_index_or l.bests k 0 ≡ slice_index_or l.fn.bests k 0;
}
