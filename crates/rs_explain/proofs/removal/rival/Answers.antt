-- One that the best doesn't beat.
use Rattle.std.proofs.Common.{◌∙◌, sym}
use Rattle.rs_explain.proofs.BeatenLemmas.{plain_step, rival-med, rival-none}
use Rattle.rs_explain.proofs.removal.rival.Goals as goal

pub returns-in-Med : goal.returns-in-Med
returns-in-Med c before later order =
    c.first_by_med.ensures
    ∙ rival-med c.args.set.now c.args.best.now c.args.loser.now c.requires.chosen c.args.step c.in-Med.is
    (sym c.beats.ensures ∙ c.if-beats.false) before later order

pub returns-in_default : goal.returns-in_default
returns-in_default c =
    rival-none c.args.set.now c.args.best.now c.args.loser.now c.requires.chosen c.args.step
    (plain_step c.args.step c.in_default.not-Med) (sym c.beats.ensures ∙ c.if-beats.false)
