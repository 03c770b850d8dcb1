use Rattle.std.proofs.Common.{◌≡◌, ◌+◌, ◌-◌, ◌≤◌, ◌&&◌, ◌||◌, ℕ, length, max}
use Rattle.std.specs.Prelude.{nat_le, nat_lt}
use Rattle.rs_import.specs.Bits.{has_bit}
use Rattle.rs_import.proofs.bits.Bits.fill.Given as goal

-- the bits of the numbers from the first one on that were passed are set
abbrev pub invariant-loop-next : goal.invariant-loop-next
invariant-loop-next l =
    (l.first ≤ l.next) × (l.next ≤ max l.first (l.last + 1))
    × (length l.self.words.items ≡ length l.fn.self.words.items)
    × ((number : ℕ) → has_bit l.self.words.items number
    ≡ (has_bit l.fn.self.words.items number || (nat_le l.first number && nat_lt number l.next)))

abbrev pub decreases-loop-next : goal.decreases-loop-next
decreases-loop-next l = l.last + 1 - l.next
