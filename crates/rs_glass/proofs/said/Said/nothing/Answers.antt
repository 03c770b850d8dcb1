-- No change is on the prefix before any change, and no change is a close.
use Rattle.std.proofs.Common.{refl}
use Rattle.rs_glass.proofs.said.Said.nothing.Goals as goal

pub returns : goal.returns
returns c = λ prefix. record { last = c.nothing.ensures prefix; close = refl }
