use Rattle.std.proofs.Common.{◌≡◌, ◌++◌, take}
use Rattle.rs_start.specs.Opening.{nlri_spelling}
use Rattle.rs_start.proofs.spelling.spell_prefixes.Given as goal

-- the prefixes so far are appended
abbrev pub invariant-loop-place : goal.invariant-loop-place
invariant-loop-place l = l.out.items ≡ l.initial.out.items ++ nlri_spelling (take l.place l.prefixes)
