-- A step keeps what may come, behind what is passed over: the record that it fetches, and what that record says.
use Rattle.std.proofs.Common.{refl, Ok, Some}
use Rattle.rs_session.proofs.PassingLemmas.{steps-passed, steps-plain}
use Rattle.rs_session.proofs.StageLemmas.{closes_at_end, steps-read, fewer-read}
use Rattle.rs_session.proofs.session.Session.step.Goals as goal

pub returns-in-Some-clause-says : goal.returns-in-Some-clause-says
returns-in-Some-clause-says g c = steps-plain _ _ c.args.only.now c.args.self.now c.close.new.self (Ok (Some c.close.result)) (
  rw c.close.ensures.word (closes_at_end _ _ c.args.self.now c.fetch.new.self c.close.new.self c.in-Some.reason c.requires.closed
      c.requires.waiting c.in-Some.ensures.same c.in-Some.ensures.says c.close.ensures.closed),
  rw c.close.ensures.word refl,
  rw c.close.ensures.closed refl,
)

pub returns-then-pass_held-clause-says : goal.returns-then-pass_held-clause-says
returns-then-pass_held-clause-says g c =
    let passes = rw c.if-pass_held.true at c.pass_held.ensures in
    steps-passed _ _ c.args.only.now c.args.self.now c.fetch.new.self c.pass_held.new.self c.requires.closed c.requires.waiting
    c.in_default.ensures.same c.in_default.ensures.says passes

pub returns-clause-says : goal.returns-clause-says
returns-clause-says g c =
    let kept = rw c.if-pass_held.false at c.pass_held.ensures in
    steps-plain _ _ c.args.only.now c.args.self.now c.read_held.new.self c.read_held.result
    (steps-read _ _ c.args.self.now c.fetch.new.self c.read_held.new.self c.read_held.result c.requires.closed c.requires.waiting
    c.in_default.ensures.same c.in_default.ensures.says
    (rw kept at c.read_held.ensures.ok) (rw kept at c.read_held.ensures.err))

pub returns-clause-fewer : goal.returns-clause-fewer
returns-clause-fewer g c =
    let kept = rw c.if-pass_held.false at c.pass_held.ensures in
    fewer-read g.S.Source.room g.S.Source.shows c.args.self.now c.fetch.new.self c.read_held.new.self c.read_held.result c.requires.waiting
    c.in_default.ensures.same c.in_default.ensures.fewer
    (rw kept at c.read_held.ensures.ok) (rw kept at c.read_held.ensures.err)
