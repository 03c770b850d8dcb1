use Rattle.std.proofs.Common.{length}
use Rattle.rs_glass.specs.Happened.{contents_of}
use Rattle.rs_glass.proofs.HappenedLemmas.{AreListed}
use Rattle.rs_glass.proofs.happened.read_happenings.Given as goal

abbrev pub invariant-loop-list : goal.invariant-loop-list
invariant-loop-list g l =
    AreListed g.S.Source.comes g.S.Source.shows l.question l.plan l.fn.sources.items (length l.yielded) (contents_of l.all.items)
