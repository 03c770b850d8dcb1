use Rattle.std.proofs.Common.{List, take}
use Rattle.std.specs.List.{AllZip, filter}
use Rattle.json.specs.Json.{Json}
use Rattle.json.specs.Value.{members_view}
use Rattle.rs_import_files.specs.JsonRows.{IsPatternRow, ListsHave, counts}
use Rattle.rs_import_files.proofs.json_lists.all_patterns.Given as goal

-- the entries so far are those of the lists so far
abbrev pub invariant-loop-member : goal.invariant-loop-member
invariant-loop-member l =
    (rows : List Json) × ListsHave (members_view (take l.member-index l.members)) rows × AllZip IsPatternRow (filter counts rows) l.patterns.items
