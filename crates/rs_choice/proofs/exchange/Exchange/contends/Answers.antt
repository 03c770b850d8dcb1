use Rattle.std.proofs.Common.{◌∙◌, sym, subst, inl, inr}
use Rattle.rs_choice.specs.Contenders.{IsOutdone}
use Rattle.rs_choice.proofs.exchange.Exchange.contends.Goals as goal
use Rattle.rs_choice.proofs.exchange.Exchange.contends.Goals.{then-is_outdone-via-then-is_outdone}
use Rattle.rs_choice.proofs.exchange.Exchange.contends.Goals.{then-is_outdone-via-else-is_outdone+then-not-permits_held}

pub returns : goal.returns
returns c = (
  sym c.permits_held.ensures ∙ c.if-not-permits_held.false,
  c.held_standing.ensures ∙ c.requires.judged.standing c.requires.fit,
)

pub returns-then-is_outdone : goal.returns-then-is_outdone
returns-then-is_outdone c =
    elim c.then-is_outdone.branch [
      | then-is_outdone-via-then-is_outdone w ↦
          inr (subst (λ one. IsOutdone one c.args.last.now) (c.requires.judged.standing c.requires.fit)
          (c.is_outdone.ensures.0 w.if-is_outdone.true))
      | then-is_outdone-via-else-is_outdone+then-not-permits_held w ↦
          inl (sym w.permits_held.ensures ∙ w.if-not-permits_held.true)
    ]
