use Rattle.std.proofs.Common.{◌≡◌, ◌==◌, length}
use Rattle.std.specs.List.{list_any}
use Rattle.rs_types.specs.Numbers.{numbers_at}
use Rattle.rs_types.proofs.number_list.Numbers.contains.Given as goal

abbrev pub invariant-loop-other : goal.invariant-loop-other
invariant-loop-other l =
    list_any (λ other. other == l.number) (numbers_at l.rest.count l.rest.octets.now)
    ≡ list_any (λ other. other == l.number) (numbers_at l.self.count l.self.octets.now)

abbrev pub decreases-loop-other : goal.decreases-loop-other
decreases-loop-other l = length (numbers_at l.rest.count l.rest.octets.now)
