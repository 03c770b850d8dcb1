-- What a run keeps and reports. Nothing here is from a standard: all of it is our choice.
use Rattle.std.specs.Prelude.{◌≡◌, ℕ, ⊤, ◌<◌, ◌⊎◌, List, Option, length}
use Rattle.rs_choice.specs.Plan.{Plan}
use Rattle.rs_keep.specs.Kept.{dumps_of, GrowsByBeginning}
use Rattle.rs_outlet.specs.Outlet.{KeptDump}
use Rattle.rs_outlet.specs.declared.run_fault.RunFault.{RunFault}
use Rattle.rs_outlet.specs.declared.run_fault.RunFault.TheVariants.{Memory, Unsettled, Dump, Report, Read}
use Rattle.rs_serve.specs.Served.{ServedContent}
use Rattle.rs_update.specs.declared.errors.Errors.{Errors}
use Rattle.rs_run.specs.Recorded.{tables_of_files}
use Rattle.rs_run.specs.Report.{report_of_files}
use Rattle.rs_run.specs.declared.over_octets.RunOverOctets.{RunOverOctets}

-- the dumps of the tables that the files leave
abbrev pub dumps_of_files : Errors → Plan → List (List ℕ) → ℕ → List KeptDump
dumps_of_files errors plan files time = dumps_of (tables_of_files errors plan files) time

-- the run has kept the dumps of these files, and its report is that of these files
pub record HasDumpsAndReportOf (errors : Errors) (plan : Plan) (time : ℕ) (files : List (List ℕ))
    (ran : RunOverOctets) : Type 0 where
  pub dumps : ran.dumps.kept ≡ dumps_of_files errors plan files time
  pub report : ran.report.items ≡ report_of_files errors plan files

-- why the reading of sessions ends early: memory was refused, a read failed, or a peer is unsettled
abbrev pub IsReadStop : (ℕ → Type 0) → Plan → RunFault → Type 0
IsReadStop Fails plan Memory = ⊤
IsReadStop Fails plan (Unsettled peer) = peer < length plan.peers
IsReadStop Fails plan (Dump client) = ⊥
IsReadStop Fails plan Report = ⊥
IsReadStop Fails plan (Read peer) = (peer < length plan.peers) × Fails peer

-- If memory is refused, the outlet kept nothing, or it kept the first of the dumps of what is served.
abbrev pub KeepsBeginning : ((ServedContent → Type 0) → Type 0) → ℕ → Option (List KeptDump) → Option (List KeptDump)
    → Type 0
KeepsBeginning Over time kept later =
    (later ≡ kept) ⊎ Over (λ served. GrowsByBeginning kept later (dumps_of served.tables time))
