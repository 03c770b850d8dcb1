use Rattle.std.proofs.Common.{◌≡◌, ◌++◌, ◌<◌, All, length, map, sym, ap, subst, ◌∙◌, rules}
use Rattle.std.proofs.lemmas.List.{append-nil}
use Rattle.rs_table.specs.RouteView.{row_of}
use Rattle.rs_table.specs.Table.{TableRow, IsTable}
use Rattle.rs_table.proofs.listing.ListingLemmas.{rows-one_more}
use Rattle.rs_table.proofs.tables.Tables.rows.Goals as goal

pub loop-row-init : goal.loop-row-init
loop-row-init c = ap (λ rows. map row_of rows ++ c.into_iter-row-iterator.result) c.new-rows.ensures.items

pub loop-row-preserved : goal.loop-row-preserved
loop-row-preserved c =
    subst (λ rows. map row_of rows ++ c.next.new.self ≡ c.into_iter-row-iterator.result) (sym c.in-Ok.ensures.items)
    (rows-one_more c.loop-row.rows.items c.in-Some.row c.next.new.self _
    (ap (λ later. map row_of c.loop-row.rows.items ++ later) (sym c.in-Some.ensures.steps) ∙ c.loop-row.invariant))

pub returns-clause-table : goal.returns-clause-table
returns-clause-table c =
    let listed : map row_of c.loop-row.rows.items ≡ c.iter_rows-row-items.result =
    sym (append-nil _) ∙ ap (λ later. map row_of c.loop-row.rows.items ++ later) (sym c.in-None.ensures.steps.0) ∙ c.loop-row.invariant
    ∙ c.into_iter-row-iterator.ensures.into_iter_gives in
    subst (IsTable c.args.self.now c.args.client) (sym listed) c.iter_rows-row-items.ensures.table

pub returns-clause-known : goal.returns-clause-known
returns-clause-known c =
    let listed : map row_of c.loop-row.rows.items ≡ c.iter_rows-row-items.result =
    sym (append-nil _) ∙ ap (λ later. map row_of c.loop-row.rows.items ++ later) (sym c.in-None.ensures.steps.0) ∙ c.loop-row.invariant
    ∙ c.into_iter-row-iterator.ensures.into_iter_gives in
    subst (All (λ (row : TableRow). row.route.peer < length c.args.self.now.plan.peers)) (sym listed) c.iter_rows-row-items.ensures.known

pub loop-row-init-derived : goal.loop-row-init-derived
loop-row-init-derived c = search rules

pub loop-row-preserved-derived : goal.loop-row-preserved-derived
loop-row-preserved-derived c = search rules

pub loop-row-smaller : goal.loop-row-smaller
loop-row-smaller c = search rules
