-- The lists before the place have no entry of the peer any more; the others are as before.
use Rattle.std.proofs.Common.{◌≡◌, ◌<◌, ◌≤◌, ℕ, [], length, get_or}
use Rattle.rs_table.specs.Gathered.{lists_of, of_others}
use Rattle.rs_table.proofs.gathering.forget.Given as goal

abbrev pub invariant-loop-log : goal.invariant-loop-log
invariant-loop-log l = record {
  count : length l.logs ≡ length l.fn.logs;
  removed : (octet : ℕ) → octet < l.log-index
      → get_or (lists_of l.logs) octet [] ≡ of_others l.fn.peer (get_or (lists_of l.fn.logs) octet []);
  later : (octet : ℕ) → l.log-index ≤ octet → get_or (lists_of l.logs) octet [] ≡ get_or (lists_of l.fn.logs) octet [];
}
