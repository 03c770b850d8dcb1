use Rattle.std.proofs.Common.{◌≡◌, length}
use Rattle.std.specs.List.{find}
use Rattle.rs_types.specs.Shapes.{numbers_in}
use Rattle.rs_import.specs.AsRanges.{is_in_ranges}
use Rattle.rs_import.proofs.path.first_held.Given as goal

-- no number so far is in the set
abbrev pub invariant-loop-number : goal.invariant-loop-number
invariant-loop-number l =
    find (λ asn. is_in_ranges l.set asn) (numbers_in l.rest) ≡ find (λ asn. is_in_ranges l.set asn) (numbers_in l.numbers)

abbrev pub decreases-loop-number : goal.decreases-loop-number
decreases-loop-number l = length (numbers_in l.rest)
