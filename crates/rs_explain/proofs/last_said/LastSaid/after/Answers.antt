use Rattle.std.proofs.Common.{◌∙◌, ◌∷◌, [], sym}
use Rattle.rs_session.specs.Change.{change_of}
use Rattle.rs_explain.specs.LastSaid.{announces, EndRoute, KeepRoute}
use Rattle.rs_explain.proofs.SaidLemmas.{announced_before, announced_now, ended_before, ended_now, kept, none-append, none-one}
use Rattle.rs_explain.proofs.last_said.LastSaid.after.Goals as goal

pub returns-then-announces : goal.returns-then-announces
returns-then-announces c =
    λ changes said. announced_now c.args.prefix (change_of c.args.word.now) changes (sym c.announces.ensures ∙ c.if-announces.true)

pub returns-in-NeverAnnounced : goal.returns-in-NeverAnnounced
returns-in-NeverAnnounced c = λ changes said.
    let change = change_of c.args.word.now in
    none-append (announces c.args.prefix) changes (change ∷ []) (rw c.in-NeverAnnounced.is at said)
    (none-one (announces c.args.prefix) change (sym c.announces.ensures ∙ c.if-announces.false))

pub returns-in-Some : goal.returns-in-Some
returns-in-Some c = λ changes said.
    announced_before c.args.prefix (change_of c.args.word.now) changes c.in-Announced.time (KeepRoute c.args.prefix)
    (EndRoute c.args.prefix c.in-Some.ending)
    (sym c.announces.ensures ∙ c.if-announces.false) (ended_now c.args.prefix (change_of c.args.word.now)
    c.in-Some.ending c.in-Some.ensures) (rw c.in-Announced.is at said)

pub returns-in-None : goal.returns-in-None
returns-in-None c = λ changes said.
    announced_before c.args.prefix (change_of c.args.word.now) changes c.in-Announced.time (KeepRoute c.args.prefix)
    (KeepRoute c.args.prefix)
    (sym c.announces.ensures ∙ c.if-announces.false) (kept c.args.prefix (change_of c.args.word.now) c.in-None.ensures)
    (rw c.in-Announced.is at said)

pub returns-in-Ended : goal.returns-in-Ended
returns-in-Ended c = λ changes said.
    announced_before c.args.prefix (change_of c.args.word.now) changes c.in-Ended.time (EndRoute c.args.prefix c.in-Ended.ending)
    (EndRoute c.args.prefix c.in-Ended.ending)
    (sym c.announces.ensures ∙ c.if-announces.false) (ended_before c.args.prefix (change_of c.args.word.now) c.in-Ended.ending)
    (rw c.in-Ended.is at said)
