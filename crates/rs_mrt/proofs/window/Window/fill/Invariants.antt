use Rattle.std.proofs.Common.{◌≡◌, ◌-◌, ◌≤◌, length, Ok, true}
use Rattle.rs_mrt.specs.Inflow.{Fills}
use Rattle.rs_mrt.proofs.window.Window.fill.Given as goal

abbrev pub invariant-loop-self : goal.invariant-loop-self
invariant-loop-self g l =
    Fills g.R.Read.gives g.R.Read.failures l.fn.inlet l.inlet l.fn.self l.self (Ok true)
    × (l.wanted ≤ length l.fn.self → l.inlet.reader ≡ l.fn.inlet.reader)

abbrev pub decreases-loop-self : goal.decreases-loop-self
decreases-loop-self g l = l.wanted - length l.self
