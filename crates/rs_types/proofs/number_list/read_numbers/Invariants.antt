use Rattle.std.proofs.Common.{◌≡◌}
use Rattle.rs_types.specs.Numbers.{numbers_at}
use Rattle.rs_types.proofs.number_list.read_numbers.Given as goal

abbrev pub invariant-loop-place : goal.invariant-loop-place
invariant-loop-place l = l.numbers.items ≡ numbers_at l.place l.octets
