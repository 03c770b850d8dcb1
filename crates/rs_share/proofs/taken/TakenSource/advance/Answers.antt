use Rattle.rs_share.proofs.TakingLemmas.{carries-next}
use Rattle.rs_share.proofs.taken.TakenSource.advance.Goals as goal

pub loop-preserved : goal.loop-preserved
loop-preserved g c =
    carries-next g.S.Source.comes g.S.Source.room c.args.self.now c.loop.self c.step.new.self c.take_part.new.self c.loop.invariant
    c.in_default-step.ensures.0 c.take_part.ensures
