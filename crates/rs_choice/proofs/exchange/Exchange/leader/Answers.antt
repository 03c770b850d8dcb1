use Rattle.std.proofs.Common.{refl, length}
use Rattle.std.proofs.lemmas.Bool.{iff_false}
use Rattle.std.proofs.lemmas.Option.{slice_get_read}
use Rattle.rs_choice.specs.Decision.{standing_of_candidate}
use Rattle.rs_choice.specs.Scan.{Leads}
use Rattle.rs_choice.proofs.decision.ScanLemmas.{leader_more, leader_stays}
use Rattle.rs_choice.proofs.exchange.Exchange.leader.Goals as goal
use Rattle.rs_choice.proofs.exchange.Exchange.leader.Goals.{then-leads, else-leads}

pub loop-candidate-preserved : goal.loop-candidate-preserved
loop-candidate-preserved c =
    let plan = c.args.self.now in
    let candidates = c.args.candidates.now in
    let i = c.loop-candidate.candidate-index in
    let candidate = c.candidate-item.result in
    let at = slice_get_read candidates (length candidates) i candidate refl c.loop-candidate-test.true c.candidate-item.is in
    elim c.if-leads.branch [
      | then-leads w ↦
          let leads : Leads (standing_of_candidate plan candidate) c.loop-candidate.leader =
          rw c.standing-standing.ensures at (c.leads.ensures.0 w.if-leads.true) in
          rw (w.leader-is, c.standing-standing.ensures) (leader_more plan candidates i c.loop-candidate.leader candidate at
          c.loop-candidate.invariant leads)
      | else-leads w ↦
          let leads_not : Leads (standing_of_candidate plan candidate) c.loop-candidate.leader → ⊥ =
          rw c.standing-standing.ensures at (iff_false c.leads.ensures w.if-leads.false) in
          rw w.leader-is (leader_stays plan candidates i c.loop-candidate.leader candidate at c.loop-candidate.invariant leads_not)
    ]
