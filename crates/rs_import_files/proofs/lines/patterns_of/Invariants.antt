use Rattle.std.proofs.Common.{map, take}
use Rattle.rs_import_files.specs.Lines.{AreEntries, is_ipv4_entry}
use Rattle.rs_import_files.specs.Texts.{IsPattern}
use Rattle.rs_import_files.proofs.lines.patterns_of.Given as goal

-- the entries so far are those of the lines so far
abbrev pub invariant-loop-index : goal.invariant-loop-index
invariant-loop-index l = AreEntries is_ipv4_entry IsPattern (map (λ line. line.now) (take l.index l.lines)) l.patterns.items
