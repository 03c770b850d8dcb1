use Rattle.std.proofs.Common.{List, take}
use Rattle.std.specs.List.{AllZip}
use Rattle.json.specs.Json.{Json}
use Rattle.json.specs.Value.{members_view}
use Rattle.rs_import_files.specs.JsonRows.{IsRangeRow, ListsHave}
use Rattle.rs_import_files.proofs.json_lists.all_ranges.Given as goal

-- the entries so far are those of the lists so far
abbrev pub invariant-loop-member : goal.invariant-loop-member
invariant-loop-member l =
    (rows : List Json) × ListsHave (members_view (take l.member-index l.members)) rows × AllZip IsRangeRow rows l.ranges.items
