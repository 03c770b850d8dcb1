use Rattle.rs_table.proofs.cell.PlaceLemmas.{ascends, place_parts}
use Rattle.rs_table.proofs.cell.place.Goals as goal

pub returns-clause-place : goal.returns-clause-place
returns-clause-place c =
    let held = c.args.held.now in
    place_parts held c.args.peer c.place_of_peer.result c.place_of_peer.ensures.within
    (c.place_of_peer.ensures.place (ascends held c.requires))
