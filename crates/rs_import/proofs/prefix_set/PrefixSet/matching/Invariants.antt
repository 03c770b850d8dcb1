use Rattle.std.proofs.Common.{◌≡◌, ◌≤◌, ◌<◌, ◌-◌, take, length, true}
use Rattle.std.specs.Prelude.{find, reverse}
use Rattle.std.specs.List.{AllWithin}
use Rattle.rs_types.specs.Covering.{covers}
use Rattle.rs_import.specs.Patterns.{is_match}
use Rattle.rs_import.proofs.prefix_set.PrefixSet.matching.Given as goal

-- no pattern so far matches the prefix, and the next one covers it
abbrev pub invariant-loop-count : goal.invariant-loop-count
invariant-loop-count l =
    (l.count ≤ length l.self)
    × (find (is_match l.prefix) (reverse (take l.count l.self)) ≡ find (is_match l.prefix) (reverse l.self))
    × (0 < l.count → AllWithin (λ pattern. covers pattern.prefix l.prefix ≡ true) l.self (l.count - 1) l.count)

abbrev pub decreases-loop-count : goal.decreases-loop-count
decreases-loop-count l = l.count
