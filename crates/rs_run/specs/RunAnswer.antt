-- What a run answers, and for each answer, which dumps the outlet has kept and which octets the report has taken.
-- Nothing here is from a standard: all of it is our choice.
use Rattle.std.specs.Prelude.{◌≡◌, ◌+◌, ◌<◌, ℕ, Bool, true, false, List, Option, Result, Ok, Err, length, take}
use Rattle.std.specs.Io.KnownBytes.{Appends}
use Rattle.rs_choice.specs.Plan.{Plan}
use Rattle.rs_keep.specs.Kept.{IsDumpFailure, dumps_of}
use Rattle.rs_mrt.specs.Stream.{AppendsBeginning}
use Rattle.rs_outlet.specs.Outlet.{Grows, KeptDump}
use Rattle.rs_outlet.specs.declared.run_fault.RunFault.{RunFault}
use Rattle.rs_outlet.specs.declared.run_fault.RunFault.TheVariants.{Memory, Unsettled, Dump, Report, Read}
use Rattle.rs_table.specs.Table.{table_of}
use Rattle.rs_run.specs.declared.runner.Ran.{Ran}
use Rattle.rs_run.specs.Report.{report_of}
use Rattle.rs_run.specs.Run.{KeepsBeginning}
use Rattle.rs_serve.specs.Served.{ServedContent}

-- A statement about a run uses these values:
-- - What is served: `Over Holds` says that `Holds` is true of something that may be served. `Fails` says of which peers
-- the reading may fail.
-- - For the outlet: the dumps that it has kept, and how many failures it has counted.
-- - For the report: the octets that it has taken, and how many failed writes it has counted.
--
-- The outlet and the report stand here twice: as they were before the run, and as they are after it.
module _ {O W : Type 0} (Over : (ServedContent → Type 0) → Type 0) (Fails : ℕ → Type 0)
    (kept : O → Option (List KeptDump)) (refusals : O → ℕ) (taken : W → Option (List ℕ)) (failures : W → ℕ)
    (plan : Plan) (time : ℕ) (outlet later_outlet : O) (report later_report : W) where
  -- Done: all dumps of what is served are kept, and its report is written. Nothing failed.
  pub record Done : Type 0 where
    pub over : Over (λ served. Grows (kept outlet) (kept later_outlet) (dumps_of served.tables time)
        × Appends (taken report) (taken later_report) (report_of plan served.ends served.tables))
    pub no_failure : refusals later_outlet ≡ refusals outlet
    pub no_failed_write : failures later_report ≡ failures report

  -- Memory was refused: only the first dumps, or none, are kept. No failure of the outlet is counted, and nothing of
  -- the report is written.
  pub record MemoryRefused : Type 0 where
    pub keeps_beginning : KeepsBeginning Over time (kept outlet) (kept later_outlet)
    pub no_failure : refusals later_outlet ≡ refusals outlet
    pub reports_nothing : later_report ≡ report

  -- The dump of a client isn't kept: of what is served the dumps of the clients before it are kept. The outlet failed,
  -- or the client's table has too many rows. Nothing of the report is written.
  pub record DumpRefused (client : ℕ) : Type 0 where
    pub known : client < length plan.peers
    pub over : Over (λ served. Grows (kept outlet) (kept later_outlet) (take client (dumps_of served.tables time))
        × IsDumpFailure (refusals outlet) (refusals later_outlet) (length (table_of served.tables client)))
    pub reports_nothing : later_report ≡ report

  -- A write of the report failed: all dumps of what is served are kept. A beginning of its report is written.
  pub record ReportFailed : Type 0 where
    pub over : Over (λ served. Grows (kept outlet) (kept later_outlet) (dumps_of served.tables time)
        × AppendsBeginning (taken report) (taken later_report) (report_of plan served.ends served.tables))
    pub no_failure : refusals later_outlet ≡ refusals outlet
    pub failed_write : failures later_report ≡ failures report + 1

  -- A read of a peer's recording failed: the reading of that peer may fail while the session is open. No dump is kept,
  -- and nothing of the report is written.
  pub record ReadFailed (peer : ℕ) : Type 0 where
    pub known : peer < length plan.peers
    pub fails : Fails peer
    pub keeps_nothing : later_outlet ≡ outlet
    pub reports_nothing : later_report ≡ report

  -- A peer is unsettled: no dump is kept, and nothing of the report is written.
  pub record PeerUnsettled (peer : ℕ) : Type 0 where
    pub known : peer < length plan.peers
    pub keeps_nothing : later_outlet ≡ outlet
    pub reports_nothing : later_report ≡ report

  -- the meaning of each answer of a run
  abbrev pub RunAnswer : {A : Type 0} → Result A RunFault → Type 0
  RunAnswer (Ok done) = Done
  RunAnswer (Err Memory) = MemoryRefused
  RunAnswer (Err (Dump client)) = DumpRefused client
  RunAnswer (Err Report) = ReportFailed
  RunAnswer (Err (Read peer)) = ReadFailed peer
  RunAnswer (Err (Unsettled peer)) = PeerUnsettled peer

  -- Dumps and report are not wanted: no dump is kept, nothing of the report is written, and nothing failed.
  pub record Declined : Type 0 where
    pub keeps_nothing : later_outlet ≡ outlet
    pub reports_nothing : later_report ≡ report

  -- the meaning of a run without fault, by whether it has written its dumps and report
  abbrev pub DoneIf : Bool → Type 0
  DoneIf true = Done
  DoneIf false = Declined

  -- the meaning of each answer of a run that first asks whether its dumps and its report are wanted
  abbrev pub RunIfAnswer : Result Ran RunFault → Type 0
  RunIfAnswer (Ok ran) = DoneIf ran.is_written
  RunIfAnswer (Err fault) = RunAnswer {A = Ran} (Err fault)
