use Rattle.std.proofs.Common.{◌≡◌, take}
use Rattle.rs_import.proofs.prefix_set.nesting_of.Given as goal

-- the patterns so far are nested
abbrev pub invariant-loop-pattern : goal.invariant-loop-pattern
invariant-loop-pattern l = l.nesting ≡ take l.pattern-index l.patterns
