-- What a run answers, by what is served.
use Rattle.std.proofs.Common.{◌≡◌, ℕ, ◌+◌, ◌<◌, List, Option, length, take, sym, ap, subst, ◌∙◌, Result, Ok, Err, inl, inr}
use Rattle.std.specs.Io.KnownBytes.{Appends}
use Rattle.std.specs.Result.{IsErrAnd}
use Rattle.std.specs.List.{zip}
use Rattle.std.proofs.lemmas.List.{length-map}
use Rattle.rs_choice.specs.Plan.{Plan, id_of}
use Rattle.rs_serve.specs.declared.ended.PeerEnd.{PeerEnd}
use Rattle.rs_keep.specs.Kept.{GrowsByBeginning, IsDumpFailure, IsStop, dumps_of}
use Rattle.rs_mrt.specs.Reader.{ReadEnd}
use Rattle.rs_mrt.specs.Stream.{AppendsBeginning}
use Rattle.rs_outlet.specs.Outlet.{Grows, KeptDump}
use Rattle.rs_outlet.specs.declared.run_fault.RunFault.{RunFault}
use Rattle.rs_outlet.specs.declared.run_fault.RunFault.TheVariants.{Memory, Unsettled, Dump, Report, Read}
use Rattle.rs_table.specs.Content.{TablesContent}
use Rattle.rs_update.specs.declared.errors.Errors.{Errors}
use Rattle.rs_run.specs.Recorded.{OverFiles, OverFilesServed, served_of_files, tables_of_files}
use Rattle.rs_run.specs.Report.{report_of}
use Rattle.rs_serve.specs.Served.{ServedContent}
use Rattle.rs_table.specs.Table.{table_of}
use Rattle.rs_run.specs.RunAnswer.{Done, ReportFailed, RunAnswer, RunIfAnswer}
use Rattle.rs_run.specs.declared.runner.Ran.{Ran}
use Rattle.rs_run.specs.SessionEnd.{end_in, ends_of_files}
use Rattle.rs_serve.proofs.ListLemmas.{zip-counted}

-- one end of a session for each peer
pub length-ends : (errors : Errors) (plan : Plan) (files : List (List ℕ)) → length files ≡ length plan.peers
    → length (ends_of_files errors plan files) ≡ length plan.peers
length-ends errors plan files same =
    length-map (zip plan.peers files) (λ (peer, file). end_in errors (id_of peer) file) ∙ zip-counted plan.peers files same

-- what a run answers of one thing that is served
module _ {O W : Type 0} (kept : O → Option (List KeptDump)) (refusals : O → ℕ) (taken : W → Option (List ℕ)) (failures : W → ℕ)
    (plan : Plan) (time : ℕ) (outlet later_outlet : O) (report later_report : W) (served : ServedContent)
    (is : served.tables.plan ≡ plan) where
  abbrev Just : (ServedContent → Type 0) → Type 0
  Just Holds = Holds served

  abbrev Never : ℕ → Type 0
  Never peer = ⊥

  abbrev Stops : RunFault → Type 0
  Stops fault = IsStop served.tables time (kept outlet) (kept later_outlet) (refusals outlet) (refusals later_outlet) fault

  found-stop : (found fault : RunFault) → found ≡ fault → Stops fault → Stops found
  found-stop found fault same stop = subst Stops (sym same) stop

  -- where keeping stops, the dumps before it are kept, and nothing is reported
  pub keep-stop-answers : {A : Type 0} (fault : RunFault) (result : Result A RunFault) → IsErrAnd result (λ found. found ≡ fault)
      → Stops fault → later_report ≡ report
      → RunAnswer Just Never kept refusals taken failures plan time outlet later_outlet report later_report result
  keep-stop-answers fault (Ok value) same stop unreported = absurd same
  keep-stop-answers fault (Err Memory) same stop unreported =
      let stopped = found-stop Memory fault same stop in
      record { keeps_beginning = inr stopped.0; no_failure = stopped.1; reports_nothing = unreported }
  keep-stop-answers fault (Err (Dump client)) same stop unreported =
      let stopped = found-stop (Dump client) fault same stop in
      record {
        known = subst (λ (held : Plan). client < length held.peers) is stopped.0;
        over = (stopped.1, stopped.2);
        reports_nothing = unreported;
      }
  keep-stop-answers fault (Err (Unsettled peer)) same stop unreported = absurd (found-stop (Unsettled peer) fault same stop)
  keep-stop-answers fault (Err Report) same stop unreported = absurd (found-stop Report fault same stop)
  keep-stop-answers fault (Err (Read peer)) same stop unreported = absurd (found-stop (Read peer) fault same stop)

  module _ (text : List ℕ) (told : text ≡ report_of plan served.ends served.tables)
      (grown : Grows (kept outlet) (kept later_outlet) (dumps_of served.tables time)) where
    -- where all dumps are kept, the report is that of what is served
    pub done-answers : refusals later_outlet ≡ refusals outlet → Appends (taken report) (taken later_report) text
        → failures later_report ≡ failures report
        → Done Just Never kept refusals taken failures plan time outlet later_outlet report later_report
    done-answers no_failure appended no_failed_write =
        let P : List ℕ → Type 0 = λ octets. Appends (taken report) (taken later_report) octets in
        record { over = (grown, subst P told appended); no_failure = no_failure; no_failed_write = no_failed_write }

    pub report-failed-answers : refusals later_outlet ≡ refusals outlet → AppendsBeginning (taken report) (taken later_report) text
        → failures later_report ≡ failures report + 1
        → ReportFailed Just Never kept refusals taken failures plan time outlet later_outlet report later_report
    report-failed-answers no_failure begun failed_write =
        let P : List ℕ → Type 0 = λ octets. AppendsBeginning (taken report) (taken later_report) octets in
        record { over = (grown, subst P told begun); no_failure = no_failure; failed_write = failed_write }

-- what is answered of one is answered of all that has it
module _ {O W : Type 0} (Over Other : (ServedContent → Type 0) → Type 0) (Fails Others : ℕ → Type 0)
    (kept : O → Option (List KeptDump)) (refusals : O → ℕ) (taken : W → Option (List ℕ)) (failures : W → ℕ)
    (plan : Plan) (time : ℕ) (outlet later_outlet : O) (report later_report : W)
    (over : (Holds : ServedContent → Type 0) → Over Holds → Other Holds) (fails : (peer : ℕ) → Fails peer → Others peer) where
  pub answers-over : {A : Type 0} (result : Result A RunFault)
      → RunAnswer Over Fails kept refusals taken failures plan time outlet later_outlet report later_report result
      → RunAnswer Other Others kept refusals taken failures plan time outlet later_outlet report later_report result
  answers-over (Ok done) answer =
      record {
        over = over (λ served. Grows (kept outlet) (kept later_outlet) (dumps_of served.tables time)
            × Appends (taken report) (taken later_report) (report_of plan served.ends served.tables)) answer.over;
        no_failure = answer.no_failure;
        no_failed_write = answer.no_failed_write;
      }
  answers-over (Err Memory) answer =
      record {
        keeps_beginning = elim answer.keeps_beginning [
          | inl none ↦ inl none
          | inr some ↦ inr (over (λ served. GrowsByBeginning (kept outlet) (kept later_outlet) (dumps_of served.tables time)) some)
        ];
        no_failure = answer.no_failure;
        reports_nothing = answer.reports_nothing;
      }
  answers-over (Err (Dump client)) answer =
      record {
        known = answer.known;
        over = over (λ served. Grows (kept outlet) (kept later_outlet) (take client (dumps_of served.tables time))
            × IsDumpFailure (refusals outlet) (refusals later_outlet) (length (table_of served.tables client))) answer.over;
        reports_nothing = answer.reports_nothing;
      }
  answers-over (Err Report) answer =
      record {
        over = over (λ served. Grows (kept outlet) (kept later_outlet) (dumps_of served.tables time)
            × AppendsBeginning (taken report) (taken later_report) (report_of plan served.ends served.tables)) answer.over;
        no_failure = answer.no_failure;
        failed_write = answer.failed_write;
      }
  answers-over (Err (Read peer)) answer =
      record {
        known = answer.known;
        fails = fails peer answer.fails;
        keeps_nothing = answer.keeps_nothing;
        reports_nothing = answer.reports_nothing;
      }
  answers-over (Err (Unsettled peer)) answer =
      record { known = answer.known; keeps_nothing = answer.keeps_nothing; reports_nothing = answer.reports_nothing }

-- what holds of the tables and ends of files holds of what is served of them
pub over-files-served : {R : Type 0} (gives : R → List ℕ → ReadEnd → Type 0) (errors : Errors) (plan : Plan) (readers : List R)
    (served : ServedContent) → OverFiles gives errors plan readers
    (λ files. (served.tables ≡ tables_of_files errors plan files) × (served.ends ≡ ends_of_files errors plan files))
    → (Holds : ServedContent → Type 0) → Holds served → OverFilesServed gives errors plan readers Holds
over-files-served gives errors plan readers served read Holds holds =
    let Made : TablesContent → List PeerEnd → ServedContent = λ tables ends. record { tables = tables; ends = ends } in
    let same : served ≡ served_of_files errors plan read.0 =
    ap (λ (tables : TablesContent). Made tables served.ends) read.2.0 ∙ ap (Made (tables_of_files errors plan read.0)) read.2.1 in
    (read.0, read.1, subst Holds same holds)

-- a run that fails answers the same if it asks first whether its dumps are wanted
module _ {O W : Type 0} (Over : (ServedContent → Type 0) → Type 0) (Fails : ℕ → Type 0)
    (kept : O → Option (List KeptDump)) (refusals : O → ℕ) (taken : W → Option (List ℕ)) (failures : W → ℕ)
    (plan : Plan) (time : ℕ) (outlet later_outlet : O) (report later_report : W) where
  -- the same fault of another value
  other-value : (A B : Type 0) (fault : RunFault)
      → RunAnswer Over Fails kept refusals taken failures plan time outlet later_outlet report later_report {A = A} (Err fault)
      → RunAnswer Over Fails kept refusals taken failures plan time outlet later_outlet report later_report {A = B} (Err fault)
  other-value A B Memory answer = answer
  other-value A B (Dump client) answer = answer
  other-value A B Report answer = answer
  other-value A B (Read peer) answer = answer
  other-value A B (Unsettled peer) answer = answer

  pub if-answers : (A : Type 0) (result : Result Ran RunFault) (fault : RunFault) → IsErrAnd result (λ found. found ≡ fault)
      → RunAnswer Over Fails kept refusals taken failures plan time outlet later_outlet report later_report {A = A} (Err fault)
      → RunIfAnswer Over Fails kept refusals taken failures plan time outlet later_outlet report later_report result
  if-answers A (Ok ran) fault same answer = absurd same
  if-answers A (Err failed) fault same answer =
      subst (λ (f : RunFault). RunAnswer Over Fails kept refusals taken failures plan time outlet later_outlet report later_report
      {A = Ran} (Err f)) (sym same) (other-value A Ran fault answer)
