use Rattle.std.proofs.Common.{length, ap, arith, rules}
use Rattle.rs_table.proofs.listing.ListingLemmas.{length-stored_rows}
use Rattle.rs_table.proofs.client_rows.ClientRowsIterator.size_hint.Goals as goal

pub returns-clause-upper : goal.returns-clause-upper
returns-clause-upper c =
    (tt, omega (arith, length-stored_rows c.self.inside.client c.self.inside.cells, ap length c.self.view_is, c.len.ensures.value))

pub returns-clause-lower : goal.returns-clause-lower
returns-clause-lower g c = search rules
