use Rattle.std.proofs.Common.{length}
use Rattle.rs_survey.proofs.JoinLemmas.{CountsParts}
use Rattle.rs_survey.proofs.on_threads.count_on_threads.Given as goal

-- what is on the parts so far is counted
abbrev pub invariant-loop-part : goal.invariant-loop-part
invariant-loop-part g l = CountsParts l.tables l.fn.what l.quarter l.all.items (length l.yielded) l.tally
