-- The route at the place is that of the peer; a client that gets none may have a place behind all routes.
use Rattle.std.proofs.Common.{map}
use Rattle.rs_choice.specs.Held.{sent_of_held}
use Rattle.rs_table.proofs.cell.BestLemmas.{got-place}
use Rattle.rs_table.proofs.cell.place_for.Goals as goal

pub returns-clause-place : goal.returns-clause-place
returns-clause-place c =
    got-place (map sent_of_held c.args.held.now) c.args.client c.args.peer c.place_or_none-place.result
    c.place_or_none-place.ensures
