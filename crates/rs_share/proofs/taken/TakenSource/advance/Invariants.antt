-- Whatever may come now might have come before.
use Rattle.rs_share.specs.Taking.{Carries}
use Rattle.rs_share.proofs.taken.TakenSource.advance.Given as goal

abbrev pub invariant-loop : goal.invariant-loop
invariant-loop g l = Carries g.S.Source.comes g.S.Source.room l.initial.self l.self
