use Rattle.std.proofs.Common.{◌≡◌, ◌≤◌, ◌<◌, ◌-◌, take, length, true}
use Rattle.std.specs.Prelude.{find, reverse}
use Rattle.std.specs.List.{AllWithin}
use Rattle.rs_import.specs.Rpki.{is_covering, is_matching}
use Rattle.rs_import.proofs.vrps.Vrps.some_matches.Given as goal

-- no VRP so far matches the route, and the next one covers its prefix
abbrev pub invariant-loop-count : goal.invariant-loop-count
invariant-loop-count l =
    (l.count ≤ length l.self)
    × (find (is_matching l.prefix l.origin) (reverse (take l.count l.self)) ≡ find (is_matching l.prefix l.origin) (reverse l.self))
    × (0 < l.count → AllWithin (λ vrp. is_covering l.prefix vrp ≡ true) l.self (l.count - 1) l.count)

abbrev pub decreases-loop-count : goal.decreases-loop-count
decreases-loop-count l = l.count
