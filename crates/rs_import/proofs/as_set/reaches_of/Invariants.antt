use Rattle.std.proofs.Common.{◌≡◌, ◌<◌, ◌+◌, ℕ, length}
use Rattle.std.specs.List.{HoldsAt}
use Rattle.rs_import.specs.Reaches.{IsReach}
use Rattle.rs_import.proofs.as_set.reaches_of.Given as goal

-- how far the ranges so far reach, and how far those up to each of them
abbrev pub invariant-loop-range : goal.invariant-loop-range
invariant-loop-range l =
    (l.range-index ≡ 0 → l.reach ≡ 0)
    × (0 < l.range-index → IsReach l.ranges l.range-index l.reach)
    × (length l.reaches.items ≡ l.range-index)
    × ((k : ℕ) → k < l.range-index → HoldsAt (λ reach. IsReach l.ranges (k + 1) reach) l.reaches.items k)
