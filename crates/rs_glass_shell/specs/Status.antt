-- The statuses with which the program ends if a question isn't answered (docs/LOOKING_GLASS.md, "Statuses and
-- texts").
use Rattle.std.specs.Prelude.{ℕ, ◌==◌, Bool, if◌then◌else◌}
use Rattle.rs_glass_shell.specs.declared.unanswered.Unanswered.{Unanswered}
use Rattle.rs_glass_shell.specs.declared.unanswered.Unanswered.TheVariants.{Words, Setup, NoPeer, SeveralPeers, Unread}
use Rattle.rs_glass_shell.specs.declared.unanswered.Unanswered.TheVariants.{AtFault, Unwritten, Unsettled, Closed, Output}
use Rattle.rs_glass_shell.specs.declared.unanswered.Unanswered.TheVariants.{Memory}
use Rattle.rs_host.specs.Status.{done, failed, out_of_memory, refused, setup_status, words_status}
use Rattle.rs_host.specs.declared.unready.Unready.{Unready}
use Rattle.rs_host.specs.declared.unready.Unready.TheVariants as unready

-- the status for each reason why there is no answer
abbrev pub status_of : Unanswered → ℕ
status_of (Words fault) = words_status fault
status_of (Setup fault) = setup_status fault
status_of (NoPeer name) = refused
status_of (SeveralPeers whose) = refused
status_of (Unread path) = failed
status_of (AtFault what) = failed
status_of (Unwritten path) = failed
status_of (Unsettled name) = failed
status_of Closed = done
status_of Output = failed
status_of Memory = out_of_memory

-- the status of `diff` for each reason; a refusal has another status there, since the usual one means that something
-- differs
abbrev pub diff_status_of : Unanswered → ℕ
diff_status_of unanswered = if status_of unanswered == refused then failed else status_of unanswered

abbrev pub status_in : Bool → Unanswered → ℕ
status_in of_diff unanswered = if of_diff then diff_status_of unanswered else status_of unanswered

-- the reason why there is no answer, if something isn't ready
abbrev pub unanswered_by : Unready → Unanswered
unanswered_by (unready.Setup fault) = Setup fault
unanswered_by (unready.Unread path) = Unread path
unanswered_by unready.Memory = Memory
