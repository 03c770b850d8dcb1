use Rattle.std.proofs.Common.{map, take}
use Rattle.std.specs.List.{AllZip, filter}
use Rattle.json.specs.Value.{value_view}
use Rattle.rs_import_files.specs.JsonRows.{IsPatternRow, counts}
use Rattle.rs_import_files.proofs.json_lists.patterns_of.Given as goal

-- the entries so far are those of the rows so far
abbrev pub invariant-loop-index : goal.invariant-loop-index
invariant-loop-index l = AllZip IsPatternRow (filter counts (map value_view (take l.index l.rows))) l.patterns.items
