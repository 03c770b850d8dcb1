-- No announcements leave no routes.
use Rattle.std.proofs.Common.{◌∙◌, ap}
use Rattle.std.specs.Prelude.{map}
use Rattle.rs_session.specs.Change.{change_of}
use Rattle.rs_table.specs.Left.{left}
use Rattle.rs_table.proofs.RibLemmas.{left-nothing}
use Rattle.rs_glass.proofs.routes_left.RoutesLeft.none.Goals as goal

pub returns : goal.returns
returns c = ap (λ words. left (map change_of words)) c.new.ensures.items ∙ left-nothing
