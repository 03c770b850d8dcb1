-- Why the sessions of recorded files can't be read, and what a run answers then.
use Rattle.std.proofs.Common.{◌≡◌, ◌<◌, ◌≤◌, ◌∙◌, ℕ, List, Option, Result, Ok, Err, inl, length, refl, sym, subst, arith}
use Rattle.std.proofs.lemmas.Bool.{false≢true}
use Rattle.std.proofs.lemmas.Grind.{common_steps}
use Rattle.std.specs.Result.{IsErrAnd}
use Rattle.rs_choice.specs.Plan.{Plan}
use Rattle.rs_outlet.specs.Outlet.{KeptDump}
use Rattle.rs_outlet.specs.declared.run_fault.RunFault.{RunFault}
use Rattle.rs_outlet.specs.declared.run_fault.RunFault.TheVariants.{Memory, Unsettled, Dump, Report, Read}
use Rattle.rs_serve.specs.ServeAnswer.{AnswersBy, WithinLimits}
use Rattle.rs_serve.specs.Served.{ServedContent}
use Rattle.rs_serve.specs.declared.fault.FloorRefused.{FloorRefused}
use Rattle.rs_serve.specs.declared.fault.FloorRefused.TheVariants as refused
use Rattle.rs_run.specs.Refusal.{IsFaultOf, IsReadRefusal}
use Rattle.rs_run.specs.Run.{IsReadStop}
use Rattle.rs_run.specs.RunAnswer.{RunAnswer}

pub limits-within : (capacity shards : ℕ) → 1 ≤ capacity → capacity ≤ 65536 → 1 ≤ shards → shards ≤ 16 → WithinLimits capacity shards
limits-within capacity shards some_room room some few = (grind (arith, common_steps), grind (arith, common_steps))

module _ (Serves : ServedContent → Type 0) (Fails : ℕ → Type 0) (plan : Plan) (capacity shards : ℕ) where
  abbrev Answer : FloorRefused → Type 0
  Answer why = AnswersBy Serves (λ peer. (peer < length plan.peers) × Fails peer) plan capacity shards (Err why)

  -- the capacity and the number of shards are not refused
  pub is-read-refusal : (why : FloorRefused) → WithinLimits capacity shards → Answer why → IsReadRefusal why
  is-read-refusal refused.Memory limits answer = tt
  is-read-refusal (refused.Read peer) limits answer = tt
  is-read-refusal (refused.Unsettled peer) limits answer = tt
  is-read-refusal refused.Capacity limits answer = absurd (false≢true (sym answer ∙ limits.0))
  is-read-refusal refused.Shards limits answer = absurd (false≢true (sym answer.1 ∙ limits.1))

  pub is-read-stop : (why : FloorRefused) (fault : RunFault) → IsFaultOf why fault → Answer why → IsReadStop Fails plan fault
  is-read-stop refused.Memory fault is answer = subst (λ (f : RunFault). IsReadStop Fails plan f) (sym is) tt
  is-read-stop (refused.Read peer) fault is answer = subst (λ (f : RunFault). IsReadStop Fails plan f) (sym is) answer.1
  is-read-stop (refused.Unsettled peer) fault is answer = subst (λ (f : RunFault). IsReadStop Fails plan f) (sym is) answer.1
  is-read-stop refused.Capacity fault is answer = absurd is
  is-read-stop refused.Shards fault is answer = absurd is

-- where reading stops, nothing is kept, and nothing is reported
module _ {O W : Type 0} (Over : (ServedContent → Type 0) → Type 0) (Fails : ℕ → Type 0)
    (kept : O → Option (List KeptDump)) (refusals : O → ℕ) (taken : W → Option (List ℕ)) (failures : W → ℕ)
    (plan : Plan) (time : ℕ) (outlet : O) (report : W) where
  found-stop : (found fault : RunFault) → found ≡ fault → IsReadStop Fails plan fault → IsReadStop Fails plan found
  found-stop found fault same stop = subst (λ (f : RunFault). IsReadStop Fails plan f) (sym same) stop

  pub read-stop-answers : {A : Type 0} (fault : RunFault) (result : Result A RunFault) → IsErrAnd result (λ found. found ≡ fault)
      → IsReadStop Fails plan fault
      → RunAnswer Over Fails kept refusals taken failures plan time outlet outlet report report result
  read-stop-answers fault (Ok value) same stop = absurd same
  read-stop-answers fault (Err Memory) same stop = record { keeps_beginning = inl refl; no_failure = refl; reports_nothing = refl }
  read-stop-answers fault (Err (Dump client)) same stop = absurd (found-stop (Dump client) fault same stop)
  read-stop-answers fault (Err (Unsettled peer)) same stop =
      let stopped = found-stop (Unsettled peer) fault same stop in
      record { known = stopped; keeps_nothing = refl; reports_nothing = refl }
  read-stop-answers fault (Err Report) same stop = absurd (found-stop Report fault same stop)
  read-stop-answers fault (Err (Read peer)) same stop =
      let stopped = found-stop (Read peer) fault same stop in
      record { known = stopped.0; fails = stopped.1; keeps_nothing = refl; reports_nothing = refl }
