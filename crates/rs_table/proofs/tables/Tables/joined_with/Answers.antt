use Rattle.std.proofs.Common.{◌≡◌, ℕ, true, false, length, arith, sym, ap, subst, ◌∙◌, inl, inr, rules}
use Rattle.std.proofs.lemmas.List.Elements.{All-from_get_or}
use Rattle.std.proofs.lemmas.Result.{IfOk-weaker}
use Rattle.rs_table.specs.declared.tables.Tables.TheInside.{Inside}
use Rattle.rs_table.specs.Cell.{IsCellOn, IsKeptCellOn}
use Rattle.rs_table.specs.Content.{TablesContent, rib_of}
use Rattle.rs_table.specs.TablesView.{tables_view, AllClosed, AreTables}
use Rattle.rs_table.specs.Merge.{IsJoined}
use Rattle.rs_table.specs.Cells.{AreCells, AreKeptCells}
use Rattle.rs_table.proofs.MergeLemmas.{each-joined, joined-IsJoined}
use Rattle.rs_table.proofs.tables.TablesLemmas.{rib-closed, tables}
use Rattle.rs_table.proofs.tables.Tables.joined_with.Goals as goal

-- sessions are closed that are closed in the other part
closed-too : (one other : Inside) → AreTables one → AreTables other → AllClosed other.closed.items
    → ((peer : ℕ) → (rib_of (tables_view one) peer).closed ≡ (rib_of (tables_view other) peer).closed)
    → length other.plan.value.peers ≡ length one.plan.value.peers → AllClosed one.closed.items
closed-too one other is others all same long =
    All-from_get_or (λ is_closed. is_closed ≡ true) one.closed.items false
    (λ peer known. sym (rib-closed one.plan.value one.cells.entries one.closed.items peer)
    ∙ same peer
    ∙ rib-closed other.plan.value other.cells.entries other.closed.items peer
    ∙ all peer false (omega (arith, known, is.peers, others.peers, long)))

-- the other part is over the same plan
same-plan : (one other : Inside) (t u : TablesContent) → tables_view one ≡ t → tables_view other ≡ u → t.plan ≡ u.plan
    → other.plan.value ≡ one.plan.value
same-plan one other t u one_is other_is plans =
    ap (λ t. t.plan) other_is ∙ sym plans ∙ sym (ap (λ t. t.plan) one_is)

pub of_cells-requires-clause-cells : goal.of_cells-requires-clause-cells
of_cells-requires-clause-cells c =
    let one = c.self.inside in
    let other = c.other.inside in
    let plans = same-plan one other c.args.self c.args.other c.self.view_is c.other.view_is c.requires.plan in
    each-joined (IsCellOn one.plan.value) one.cells.entries other.cells.entries c.in_ok-cells.cells.entries c.self.invariant.cells
    (subst (λ plan. AreCells plan other.cells.entries) plans c.other.invariant.cells)
    c.in_ok-cells.ensures.cells c.in_ok-cells.ensures.ordered

pub of_cells-requires-clause-room : goal.of_cells-requires-clause-room
of_cells-requires-clause-room c =
    let one = c.self.inside in
    let other = c.other.inside in
    let plans = same-plan one other c.args.self c.args.other c.self.view_is c.other.view_is c.requires.plan in
    elim c.self.invariant.open_or_not [
      | inl closed ↦ inl closed
      | inr takes ↦ elim c.other.invariant.open_or_not [
        | inl closed ↦ inl (closed-too one other c.self.invariant c.other.invariant closed
            (λ peer. ap (λ t. (rib_of t peer).closed) c.self.view_is ∙ c.requires.closed peer
            ∙ sym (ap (λ t. (rib_of t peer).closed) c.other.view_is))
            (ap (λ plan. length plan.peers) plans))
        | inr others ↦ inr (each-joined (IsKeptCellOn true one.plan.value) one.cells.entries other.cells.entries
            c.in_ok-cells.cells.entries takes.room
            (subst (λ plan. AreKeptCells true plan other.cells.entries) plans others.room)
            c.in_ok-cells.ensures.cells c.in_ok-cells.ensures.ordered)
      ]
    ]

pub returns : goal.returns
returns c =
    let one = c.self.inside in
    let other = c.other.inside in
    let plans = same-plan one other c.args.self c.args.other c.self.view_is c.other.view_is c.requires.plan in
    let joined : TablesContent = tables one.plan.value c.in_ok-cells.cells.entries one.closed.items in
    let is : IsJoined (tables one.plan.value one.cells.entries one.closed.items)
    (tables one.plan.value other.cells.entries other.closed.items) joined =
    joined-IsJoined one.plan.value one.cells.entries other.cells.entries c.in_ok-cells.cells.entries one.closed.items other.closed.items
    c.self.invariant.peers (c.other.invariant.peers ∙ ap (λ plan. length plan.peers) plans)
    c.self.invariant.cells (subst (λ plan. AreCells plan other.cells.entries) plans c.other.invariant.cells)
    c.in_ok-cells.ensures.cells c.in_ok-cells.ensures.ordered in
    let parts : IsJoined c.args.self c.args.other joined =
    subst (λ t. IsJoined t c.args.other joined) c.self.view_is
    (subst (λ t. IsJoined (tables one.plan.value one.cells.entries one.closed.items) t joined)
    (ap (λ plan. tables plan other.cells.entries other.closed.items) (sym plans) ∙ c.other.view_is) is) in
    IfOk-weaker c.of_cells.result (λ t. t ≡ joined) (IsJoined c.args.self c.args.other)
    (λ t e. subst (IsJoined c.args.self c.args.other) (sym e) parts) c.of_cells.ensures

pub returns-in_err-cells : goal.returns-in_err-cells
returns-in_err-cells c = search rules
