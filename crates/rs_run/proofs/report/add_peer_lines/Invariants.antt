use Rattle.std.proofs.Common.{◌≡◌, ◌++◌, take, string_bytes}
use Rattle.std.specs.List.{zip, flat_map}
use Rattle.rs_run.specs.Report.{peer_line_of}
use Rattle.rs_run.proofs.report.add_peer_lines.Given as goal

-- the lines so far
abbrev pub invariant-loop-number : goal.invariant-loop-number
invariant-loop-number l =
    string_bytes l.report ≡ string_bytes l.fn.report ++ flat_map peer_line_of (take l.number (zip l.plan.peers l.served.ends))
