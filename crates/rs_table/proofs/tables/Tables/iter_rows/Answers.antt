-- The rows are those of the prefixes of all cells, and these are all prefixes on which some peer has a route.
use Rattle.std.proofs.Common.{◌≡◌, ◌<◌, ℕ, All, List, length, map, sym, ap, subst, ◌∙◌}
use Rattle.std.specs.BTreeMap.{is_at}
use Rattle.std.specs.List.{filter_map}
use Rattle.std.proofs.lemmas.Map.Made.{is_some-lookup}
use Rattle.rs_types.specs.IpPrefix.{IpPrefix}
use Rattle.rs_types.specs.PrefixOrder.{prefix_cmp}
use Rattle.rs_table.specs.Cells.{Entries}
use Rattle.rs_table.specs.ClientRowsView.{stored_rows}
use Rattle.rs_table.specs.Table.{TableRow, IsTable, best_of}
use Rattle.rs_table.proofs.ValueLemmas.{absent}
use Rattle.rs_table.proofs.listing.KnownLemmas.{rows-known}
use Rattle.rs_table.proofs.listing.ListingLemmas.{stored_rows-listed}
use Rattle.rs_table.proofs.listing.TableLemmas.{row_on, rows-IsTable}
use Rattle.rs_table.proofs.tables.Tables.iter_rows.Goals as goal

abbrev prefixes_of : Entries → List IpPrefix
prefixes_of entries = map (λ entry. entry.0) entries

pub returns-clause-table : goal.returns-clause-table
returns-clause-table c =
    let tables = c.args.self.now in
    let client = c.args.client in
    let entries : Entries = c.cells-cells.result.now.entries in
    let all : c.iter.result ≡ entries = c.iter.ensures.rest in
    let listed : stored_rows client entries ≡ filter_map (row_on (best_of tables client)) (prefixes_of entries) =
    stored_rows-listed client tables entries (λ k d below. c.cells-cells.ensures.bests client _ _ (c.iter.ensures.found k d below)) in
    subst (IsTable tables client) (sym (ap (stored_rows client) all ∙ listed))
    (rows-IsTable tables client (prefixes_of entries) c.iter.ensures.ordered
    (λ q none. c.cells-cells.ensures.none q (absent _ (is_some-lookup (is_at (prefix_cmp q)) entries ∙ none))))

pub returns-clause-known : goal.returns-clause-known
returns-clause-known c =
    let tables = c.args.self.now in
    let client = c.args.client in
    let entries : Entries = c.cells-cells.result.now.entries in
    let all : c.iter.result ≡ entries = c.iter.ensures.rest in
    let listed : stored_rows client entries ≡ filter_map (row_on (best_of tables client)) (prefixes_of entries) =
    stored_rows-listed client tables entries (λ k d below. c.cells-cells.ensures.bests client _ _ (c.iter.ensures.found k d below)) in
    let held : length tables.ribs ≡ length tables.plan.peers = sym c.count-peers.ensures.ribs ∙ c.count-peers.ensures.peers in
    subst (λ (n : ℕ). All (λ (row : TableRow). row.route.peer < n) (stored_rows client c.iter.result)) held
    (subst (All (λ (row : TableRow). row.route.peer < length tables.ribs)) (sym (ap (stored_rows client) all ∙ listed))
    (rows-known tables client (prefixes_of entries)))
