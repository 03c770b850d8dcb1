-- What one item makes of what is gathered.
use Rattle.std.proofs.Common.{◌∙◌, sym, subst, arith}
use Rattle.std.specs.Prelude.{OnOk}
use Rattle.std.proofs.lemmas.Result.{on_ok_weaker}
use Rattle.rs_router.specs.declared.routed.Routed.{Routed}
use Rattle.rs_serve.specs.Held.{Takes}
use Rattle.rs_serve.proofs.TakingLemmas.{took-last, took-unknown, took-closed, took-change, ok-both}
use Rattle.rs_serve.proofs.taking.take.Goals.{then-peer-count-via-then-peer-count, then-peer-count-via-else-peer-count+then-is_closed}
use Rattle.rs_serve.proofs.taking.take.Goals as goal

pub returns-in_default : goal.returns-in_default
returns-in_default c =
    let P : Routed → Type 0 = λ item. Takes item c.args.gathered.now c.args.gathered.now in
    subst P (sym c.in_default.is) (took-last c.args.gathered.now)

pub returns-then-peer-count : goal.returns-then-peer-count
returns-then-peer-count c =
    let P : Routed → Type 0 = λ item. Takes item c.args.gathered.now c.args.gathered.now in
    subst P (sym c.in-Word.is) (elim c.then-peer-count.branch [
      | then-peer-count-via-then-peer-count w ↦ took-unknown c.args.gathered.now c.in-Word.peer c.in-Word.word
          (omega (arith, w.if-peer-count.true, c.count.ensures.ribs))
      | then-peer-count-via-else-peer-count+then-is_closed w ↦ took-closed c.args.gathered.now c.in-Word.peer c.in-Word.word
          (sym w.is_closed.ensures ∙ w.if-is_closed.true)
    ])

pub returns : goal.returns
returns c =
    let P : Routed → Type 0 = λ item. OnOk c.receive.result (Takes item c.args.gathered.now c.receive.new.self) in
    let facts = ok-both c.receive.result _ _ c.receive.ensures.routes
    (ok-both c.receive.result _ _ c.receive.ensures.closed
    (ok-both c.receive.result _ _ c.receive.ensures.others
    (ok-both c.receive.result _ _ c.receive.ensures.plan c.receive.ensures.count))) in
    subst P (sym c.in-Word.is) (on_ok_weaker c.receive.result (λ all.
    took-change c.args.gathered.now c.receive.new.self c.in-Word.peer c.in-Word.word (sym c.is_closed.ensures ∙ c.if-is_closed.false)
    all.0 all.1.0 all.1.1.0 all.1.1.1.0 all.1.1.1.1) facts)
