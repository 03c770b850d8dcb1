-- A sorted copy lists the same prefixes.
use Rattle.std.proofs.Common.{◌∙◌, ap, sym}
use Rattle.rs_session.specs.UpdateChanges.{withdrawn_only}
use Rattle.rs_session.proofs.PrefixLemmas.{withdrawn_only-IsPermutation}
use Rattle.rs_session.proofs.withdrawn.keep_withdrawn_only.Goals as goal

pub returns-clause-kept : goal.returns-clause-kept
returns-clause-kept c =
    c.keep_unlisted_in_sorted.ensures
    ∙ ap (withdrawn_only c.args.withdrawn.now.items) c.deref.ensures.value
    ∙ sym (withdrawn_only-IsPermutation c.args.withdrawn.now.items c.args.nlri.now c.sort_unstable.new.self.items
    (rw c.in_ok-sorted.ensures.items at c.sort_unstable.ensures.permutation))
