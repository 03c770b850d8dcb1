-- The best one is the choice among the candidates, and whom all steps leave.
use Rattle.std.proofs.Common.{◌≡◌, ◌∙◌, ap, sym, subst, List}
use Rattle.std.specs.Prelude.{None}
use Rattle.std.specs.List.{All, Contains}
use Rattle.std.proofs.lemmas.Bool.{ne_eqb}
use Rattle.rs_choice.specs.Decision.{choice, decision_steps, remaining}
use Rattle.rs_choice.specs.Plan.{Plan, plan_fault}
use Rattle.rs_table.specs.Table.{best_of}
use Rattle.rs_explain.specs.declared.contender.Contender.{Contender}
use Rattle.rs_explain.specs.Contenders.{contender_of, contenders_of, standing_in, HasOwnAddress}
use Rattle.rs_explain.specs.Removals.{IsRemoval}
use Rattle.rs_explain.proofs.BestLemmas.{best_contender, left_is_best, made_of}
use Rattle.rs_explain.proofs.explanation.decided.Goals as goal

pub removed_by-requires-clause-chosen : goal.removed_by-requires-clause-chosen
removed_by-requires-clause-chosen c =
    ap (choice standing_in) (c.deref-2.ensures.value ∙ c.requires.candidates.all.value)
    ∙ best_contender c.args.tables.now c.args.client c.args.prefix ∙ sym c.requires.candidates.best ∙ c.in-Some.is

pub unreachable-requires-in-None : goal.unreachable-requires-in-None
unreachable-requires-in-None c =
    let tables = c.args.tables.now in
    let are = c.requires.candidates.all in
    let all : All (HasOwnAddress tables.plan) (contenders_of tables c.args.client c.args.prefix) =
    subst (All (HasOwnAddress tables.plan)) are.value are.addresses in
    let faultless : plan_fault tables.plan.local tables.plan.peers ≡ None =
    ap (λ (plan : Plan). plan_fault plan.local plan.peers) (sym c.plan-plan.ensures) ∙ c.count-count.ensures.faultless in
    let left : Contains (remaining standing_in decision_steps (contenders_of tables c.args.client c.args.prefix)) c.args.one =
    subst (λ (set : List Contender). Contains (remaining standing_in decision_steps set) c.args.one)
    (c.deref-2.ensures.value ∙ are.value) (rw c.in-None.is at c.removed_by.ensures) in
    let best = made_of (contender_of tables.plan) (best_of tables c.args.client c.args.prefix) c.in-Some.best
    (sym c.requires.candidates.best ∙ c.in-Some.is) in
    c.if-best-one.false (ap (λ (one : Contender). one.peer) (sym best.2)
    ∙ left_is_best c.peers_have_addresses_of_their_own.ensures tables c.args.client c.args.prefix best.0 c.args.one faultless all best.1
    left)

pub returns : goal.returns
returns c =
    let tables = c.args.tables.now in
    let loser = c.args.one in
    let removal = c.in-Some-removed_by.removal in
    let best = made_of (contender_of tables.plan) (best_of tables c.args.client c.args.prefix) c.in-Some.best
    (sym c.requires.candidates.best ∙ c.in-Some.is) in
    record {
      loser = loser;
      best = best.0;
      is_candidate = c.requires.candidate;
      gets = best.1;
      another = ne_eqb best.0.peer loser.peer (λ same. c.if-best-one.false (ap (λ (one : Contender). one.peer) (sym best.2) ∙ same));
      steps = subst (λ (set : List Contender). IsRemoval decision_steps set (contender_of tables.plan best.0) loser removal)
          (c.deref-2.ensures.value ∙ c.requires.candidates.all.value)
          (subst (λ (one : Contender). IsRemoval decision_steps c.deref-2.result.now one loser removal) (sym best.2)
          c.in-Some-removed_by.ensures);
    }
