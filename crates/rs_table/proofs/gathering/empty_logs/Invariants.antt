use Rattle.std.proofs.Common.{◌≡◌, ℕ, [], length, get_or}
use Rattle.rs_table.specs.Gathered.{lists_of}
use Rattle.rs_table.proofs.gathering.empty_logs.Given as goal

abbrev pub invariant-loop : goal.invariant-loop
invariant-loop l = record { count : length l.logs.items ≡ l.counter; empty : (octet : ℕ) → get_or (lists_of l.logs.items) octet [] ≡ [] }
