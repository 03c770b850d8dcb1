use Rattle.std.proofs.Common.{◌-◌, ◌≤◌, length, drop, ap, ◌∙◌, arith, length-take}
use Rattle.rs_mrt.proofs.record_reader.WindowLemmas.{window-drop}
use Rattle.rs_mrt.proofs.window.Window.drop_front.Goals as goal

pub returns : goal.returns
returns c =
    let w = c.self.inside in
    let fits : c.args.count ≤ w.end - w.start =
    omega (arith, c.requires, ap length c.self.view_is, length-take (w.end - w.start) (drop w.start w.buffer)) in
    window-drop w.buffer w.start w.end c.args.count (omega (arith, fits, c.self.invariant)) ∙ ap (drop c.args.count) c.self.view_is
