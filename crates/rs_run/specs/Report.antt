-- The report of a run, line by line. Nothing here is from a standard: all of it is our choice.
use Rattle.std.specs.Prelude.{ℕ, List, ◌++◌, codes}
use Rattle.std.specs.Fmt.{decimal}
use Rattle.std.specs.List.{zip, flat_map}
use Rattle.rs_choice.specs.Plan.{Peer, Plan}
use Rattle.rs_serve.specs.declared.ended.PeerEnd.{PeerEnd}
use Rattle.rs_keep.specs.TableLines.{table_lines}
use Rattle.rs_session.specs.ReasonText.{reason_text}
use Rattle.rs_table.specs.Content.{TablesContent}
use Rattle.rs_update.specs.declared.errors.Errors.{Errors}
use Rattle.rs_run.specs.Recorded.{tables_of_files}
use Rattle.rs_run.specs.SessionEnd.{ends_of_files}

-- the line of the report about a peer's session
abbrev pub peer_line : List ℕ → PeerEnd → List ℕ
peer_line name end =
    codes "peer " ++
    (name ++ (codes " changes "
    ++ (decimal end.changes
    ++ (codes " passed " ++ (decimal end.passed ++ (codes " close " ++ (reason_text end.reason ++ codes "\n")))))))

-- the line of a peer, by its name and the end of its session
abbrev pub peer_line_of : Peer × PeerEnd → List ℕ
peer_line_of (peer, end) = peer_line peer.name end

-- the lines of all peers' sessions, in the order of the plan
abbrev pub peer_lines : List Peer → List PeerEnd → List ℕ
peer_lines peers ends = flat_map peer_line_of (zip peers ends)

-- the report, by the ends of the sessions and the tables: one line for each session, and then one for each client's
-- table
abbrev pub report_of : Plan → List PeerEnd → TablesContent → List ℕ
report_of plan ends tables = peer_lines plan.peers ends ++ table_lines tables

-- the report about the sessions in these files, and the tables that the files leave
abbrev pub report_of_files : Errors → Plan → List (List ℕ) → List ℕ
report_of_files errors plan files = report_of plan (ends_of_files errors plan files) (tables_of_files errors plan files)
