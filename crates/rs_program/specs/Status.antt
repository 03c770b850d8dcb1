-- The statuses with which the program ends.
use Rattle.std.specs.Prelude.{ℕ, Bool, true, false}
use Rattle.rs_program.specs.declared.ended.Ended.{Ended}
use Rattle.rs_program.specs.declared.ended.Ended.TheVariants.{Words, Setup, Unread, Memory, Run}
use Rattle.rs_host.specs.Status.{done, failed, not_clean, out_of_memory, setup_status, unsettled, words_status}
use Rattle.rs_host.specs.declared.unready.Unready.{Unready}
use Rattle.rs_host.specs.declared.unready.Unready.TheVariants as unready
use Rattle.rs_options.specs.declared.options.Strictness.{Strictness}
use Rattle.rs_options.specs.declared.options.Strictness.TheVariants.{Off, BeforeWriting, AfterWriting}
use Rattle.rs_outlet.specs.declared.run_fault.RunFault.TheVariants as run

-- the status of a run that did not fail, by whether it must be clean and whether it is
abbrev pub run_status : Strictness → Bool → ℕ
run_status Off clean = done
run_status BeforeWriting true = done
run_status BeforeWriting false = not_clean
run_status AfterWriting true = done
run_status AfterWriting false = not_clean

-- the status for each reason why the program ends early
abbrev pub status_of : Ended → ℕ
status_of (Words fault) = words_status fault
status_of (Setup fault) = setup_status fault
status_of (Unread path) = failed
status_of Memory = out_of_memory
status_of (Run run.Memory) = out_of_memory
status_of (Run (run.Unsettled peer)) = unsettled
status_of (Run (run.Dump client)) = failed
status_of (Run run.Report) = failed
status_of (Run (run.Read peer)) = failed

-- the reason why the program ends early, if something isn't ready before a run
abbrev pub ended_of : Unready → Ended
ended_of (unready.Setup fault) = Setup fault
ended_of (unready.Unread path) = Unread path
ended_of unready.Memory = Memory
