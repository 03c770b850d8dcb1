-- The prefixes of all cells are all prefixes on which some peer has a route.
use Rattle.std.proofs.Common.{◌≡◌, All, List, Option, Some, None, refl, map, sym, ap, subst, ◌∙◌}
use Rattle.std.specs.BTreeMap.{is_at}
use Rattle.std.specs.Option.{is_some}
use Rattle.std.proofs.lemmas.Map.Made.{is_some-lookup}
use Rattle.rs_types.specs.IpPrefix.{IpPrefix}
use Rattle.rs_types.specs.PrefixOrder.{prefix_cmp}
use Rattle.rs_table.specs.Cell.{CellContent}
use Rattle.rs_table.specs.Cells.{Entries, cell_at}
use Rattle.rs_table.specs.Listing.{is_held}
use Rattle.rs_table.specs.PrefixRoutes.{AreRoutesOf}
use Rattle.rs_table.proofs.prefixes.HeldLemmas.{prefixes-held}
use Rattle.rs_table.proofs.tables.Tables.iter_prefixes.Goals as goal

abbrev prefixes_of : Entries → List IpPrefix
prefixes_of entries = map (λ entry. entry.0) entries

pub returns-clause-prefixes : goal.returns-clause-prefixes
returns-clause-prefixes c =
    let ribs = c.args.self.now.ribs in
    let entries : Entries = c.cells-cells.result.now.entries in
    let by_cell : (q : IpPrefix) (o : Option CellContent) → cell_at entries q ≡ o → is_some o ≡ is_held ribs q = λ q. elim [
      | None ↦ λ none. sym (c.cells-cells.ensures.none q none)
      | Some cell ↦ λ some. sym (c.cells-cells.ensures.some q cell some)
    ] in
    ap prefixes_of c.iter.ensures.rest
    ∙ prefixes-held (prefixes_of entries) ribs c.iter.ensures.ordered
    (λ q. sym (is_some-lookup (is_at (prefix_cmp q)) entries) ∙ by_cell q (cell_at entries q) refl)

pub returns-clause-routes : goal.returns-clause-routes
returns-clause-routes c =
    let tables = c.args.self.now in
    let entries : Entries = c.cells-cells.result.now.entries in
    subst (All (AreRoutesOf tables)) (sym c.iter.ensures.rest)
    (λ k d below. record {
      routes = λ peer known. c.cells-cells.ensures.routes peer _ _ known (c.iter.ensures.found k d below);
      bests = λ client. c.cells-cells.ensures.bests client _ _ (c.iter.ensures.found k d below);
    })
