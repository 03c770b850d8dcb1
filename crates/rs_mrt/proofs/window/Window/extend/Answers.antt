use Rattle.std.proofs.Common.{◌++◌, take, ap, subst, ◌∙◌, arith}
use Rattle.std.proofs.lemmas.Grind.{common_steps}
use Rattle.rs_mrt.specs.Inflow.{Draws}
use Rattle.rs_mrt.proofs.record_reader.WindowLemmas.{window-extended, gave-lt}
use Rattle.rs_mrt.proofs.window.Window.extend.Goals as goal

pub returns-clause-fills : goal.returns-clause-fills
returns-clause-fills g c =
    let R = g.R.Read in
    let w = c.self.inside in
    let count = c.in_ok-count.count in
    let piece = take count c.read.new.into in
    record {
      piece = piece;
      filled =
          window-extended w.buffer c.copy_within.new.self c.read.new.into _ w.start w.end count (omega (arith, c.self.invariant))
          (omega (arith, c.self.invariant, c.self.told)) c.copy_within.ensures.after c.in_ok-count.ensures.bound
          ∙ ap (λ z. z ++ piece) c.self.view_is;
      drawn = subst (λ r. Draws R.gives R.failures c.args.inlet.now c.read.new.self piece r) (gave-lt count) c.in_ok-count.ensures.draws;
    }

pub returns-clause-grows : goal.returns-clause-grows
returns-clause-grows g c = grind (arith, common_steps)

pub returns-in_err-count-clause-fills : goal.returns-in_err-count-clause-fills
returns-in_err-count-clause-fills g c = grind (arith, common_steps)

pub returns-in_err-count-clause-grows : goal.returns-in_err-count-clause-grows
returns-in_err-count-clause-grows g c = grind (arith, common_steps)
