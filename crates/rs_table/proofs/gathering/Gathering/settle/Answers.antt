-- Each peer has the same routes in the cells and in the lists.
use Rattle.std.proofs.Common.{◌≡◌, ◌∙◌, Bool, ap, subst, inl, inr, List}
use Rattle.std.proofs.lemmas.Bool.{cases_Bool}
use Rattle.std.proofs.lemmas.Result.{IfOk-weaker}
use Rattle.rs_table.specs.Cells.{routes_from, AreKeptCells}
use Rattle.rs_table.specs.Content.{RibContent, TablesContent}
use Rattle.rs_table.specs.Gathered.{routes_gathered}
use Rattle.rs_table.specs.TablesView.{ribs_from, AllClosed}
use Rattle.rs_table.proofs.cells.CellsLemmas.{kept-cells}
use Rattle.rs_table.proofs.gathering.GatheringLemmas.{same-ribs, settled-routes}
use Rattle.rs_table.proofs.gathering.Gathering.settle.Goals as goal

pub returns : goal.returns
returns c =
    let inside = c.self.inside in
    let losses = inside.losses.items in
    let logs = inside.logs.items in
    let entries = c.in_ok-cells.cells.entries in
    let tables : TablesContent = record { plan = inside.plan.value; ribs = ribs_from entries 0 inside.closed.items } in
    let same : tables ≡ c.args.self =
    ap (λ (ribs : List RibContent). let tables : TablesContent = record { plan = inside.plan.value; ribs = ribs } in tables)
    (same-ribs (routes_from entries) (routes_gathered losses logs)
    (settled-routes losses logs entries (rw c.deref-3.ensures.value at c.in_ok-cells.ensures.routes)) 0 inside.closed.items)
    ∙ c.self.view_is in
    IfOk-weaker c.of_cells.result (λ t. t ≡ tables) (λ t. t ≡ c.args.self) (λ t e. e ∙ same) c.of_cells.ensures

-- the cells keep room where a session is open
pub of_cells-requires-clause-cells : goal.of_cells-requires-clause-cells
of_cells-requires-clause-cells c =
    let entries = c.in_ok-cells.cells.entries in
    let keeps = c.is_some_open-keeps_room.result in
    kept-cells keeps c.self.inside.plan.value entries (subst (λ plan. AreKeptCells keeps plan entries)
    c.deref-2.ensures c.in_ok-cells.ensures.cells)

pub of_cells-requires-clause-room : goal.of_cells-requires-clause-room
of_cells-requires-clause-room c =
    let plan = c.self.inside.plan.value in
    let entries = c.in_ok-cells.cells.entries in
    let keeps = c.is_some_open-keeps_room.result in
    elim (cases_Bool keeps) [
      | inl keeping ↦ inr (subst (λ (b : Bool). AreKeptCells b plan entries) keeping
          (subst (λ plan. AreKeptCells keeps plan entries) c.deref-2.ensures c.in_ok-cells.ensures.cells))
      | inr not_keeping ↦ inl (subst AllClosed c.deref.ensures.value (c.is_some_open-keeps_room.ensures not_keeping))
    ]
