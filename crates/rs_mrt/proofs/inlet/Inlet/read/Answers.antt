use Rattle.std.proofs.Common.{◌≡◌, ◌+◌, ◌-◌, ◌<◌, ◌≤◌, ◌++◌, length, drop, take, Ok, refl, ap, subst, arith, ℕ, length-take}
use Rattle.std.proofs.lemmas.Grind.{common_steps}
use Rattle.rs_mrt.specs.RecordReading.{Inflow, read_limit}
use Rattle.rs_mrt.specs.Inflow.{Draws, gave_some}
use Rattle.rs_mrt.proofs.record_reader.InflowLemmas.{Draws-read, Draws-full}
use Rattle.rs_mrt.proofs.inlet.Inlet.read.Goals as goal

pub returns-then-left-eq0-clause-draws : goal.returns-then-left-eq0-clause-draws
returns-then-left-eq0-clause-draws g c =
    let R = g.R.Read in
    let inflow = c.args.self.now in
    let same : c.self.inside.came ≡ inflow.came = ap (λ d. d.came) c.self.view_is in
    let full : inflow.came ≡ read_limit = omega (arith, same, c.if-left-eq0.true, c.requires.limit) in
    Draws-full R.gives R.failures inflow (record {}) full (g.met.R.Read.may_come inflow.reader)

pub returns-clause-draws : goal.returns-clause-draws
returns-clause-draws g c =
    let R = g.R.Read in
    let old : Inflow g.row.R.Denot = record { reader = c.self.inside.reader; came = c.self.inside.came } in
    let new : Inflow g.row.R.Denot = record { reader = c.read.new.self; came = c.self.inside.came + c.in_ok-count.count } in
    let same : c.self.inside.came ≡ c.args.self.now.came = ap (λ d. d.came) c.self.view_is in
    let part = c.read.new.into in
    let rest = drop c.min-most.result c.args.into.now in
    let len : length part ≡ c.min-most.result = omega (arith, c.read.auto.into, length-take {A = ℕ}, c.min-most.ensures) in
    let fewer : c.min-most.result ≤ read_limit - c.self.inside.came = omega (arith, c.min-most.ensures) in
    let some : 0 < c.min-most.result = omega (arith, c.min-most.ensures, c.requires.some, c.if-left-eq0.false) in
    subst (λ d. Draws R.gives R.failures d new (take c.in_ok-count.count (part ++ rest)) (gave_some (Ok c.in_ok-count.count)))
    c.self.view_is
    (Draws-read R.gives R.failures old new c.in_ok-count.count part rest (omega arith) (omega arith) (omega (arith, same, c.requires.limit))
    c.in_ok-count.ensures.bound refl
    (omega (arith, c.in_ok-count.ensures.failures)) c.in_ok-count.ensures.gives)

pub returns-in_err-count-clause-draws : goal.returns-in_err-count-clause-draws
returns-in_err-count-clause-draws g c = grind (arith, common_steps)
