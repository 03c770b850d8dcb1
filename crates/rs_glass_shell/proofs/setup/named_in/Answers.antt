-- No peer has the name, one has the word as its address or AS number, and none before or after it.
use Rattle.std.proofs.Common.{inr}
use Rattle.rs_glass_shell.proofs.setup.named_in.Goals as goal

pub returns-in-None-clause-named : goal.returns-in-None-clause-named
returns-in-None-clause-named c =
    let first = rw c.in-Some-2.is at c.in_ok-number.ensures.found in
    let after = rw c.in-None.is at c.in_ok-first_of.ensures.none in
    inr (c.in_default.ensures.none, (first, after))
