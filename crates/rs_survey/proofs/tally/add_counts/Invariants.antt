use Rattle.std.specs.Prelude.{◌≡◌, ◌+◌, ◌<◌, ◌≤◌, ℕ, length, min, slice_index_or}
use Rattle.rs_survey.specs.Tally.{most}
use Rattle.rs_survey.proofs.tally.add_counts.Given as goal

-- the places so far have sums, and the others what they had
abbrev pub invariant-loop-place : goal.invariant-loop-place
invariant-loop-place l = record {
  count : length l.counts ≡ length l.initial.counts;
  front : (place : ℕ) → place < l.place
      → slice_index_or l.counts place 0 ≡ min (slice_index_or l.initial.counts place 0 + slice_index_or l.others place 0) most;
  rest : (place : ℕ) → l.place ≤ place → slice_index_or l.counts place 0 ≡ slice_index_or l.initial.counts place 0;
}
