use Rattle.std.proofs.Common.{◌≡◌, Some, None, map, length}
use Rattle.rs_types.specs.Shapes.{numbers_in}
use Rattle.rs_import.specs.Rpki.{last_or}
use Rattle.rs_import.proofs.path.last_number.Given as goal

-- the last number is the last of those to come, or if none comes, the last so far
abbrev pub invariant-loop-number : goal.invariant-loop-number
invariant-loop-number l =
    last_or l.last (map (λ number. Some number) (numbers_in l.rest)) ≡ last_or None (map (λ number. Some number) (numbers_in l.numbers))

abbrev pub decreases-loop-number : goal.decreases-loop-number
decreases-loop-number l = length (numbers_in l.rest)
