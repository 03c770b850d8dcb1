use Rattle.std.proofs.Common.{◌≡◌, ◌++◌, take, string_bytes}
use Rattle.std.specs.List.{flat_map, enumerate_from}
use Rattle.rs_keep.specs.TableLines.{table_line_of}
use Rattle.rs_keep.proofs.keeping.add_table_lines.Given as goal

-- the lines so far
abbrev pub invariant-loop-client : goal.invariant-loop-client
invariant-loop-client l =
    string_bytes l.report ≡ string_bytes l.fn.report ++ flat_map (table_line_of l.tables)
    (take l.client (enumerate_from 0 l.tables.plan.peers))
