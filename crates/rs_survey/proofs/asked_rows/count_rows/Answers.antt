-- One row more is counted where it is asked for.
use Rattle.std.proofs.Common.{◌≡◌, ◌∙◌, ◌+◌, sym, ap, cond, arith, min, List}
use Rattle.std.specs.Prelude.{count_by}
use Rattle.rs_table.specs.RouteView.{row_of}
use Rattle.rs_table.specs.Table.{TableRow, table_of}
use Rattle.rs_survey.specs.Asked.{is_asked}
use Rattle.rs_survey.specs.Tally.{most}
use Rattle.rs_survey.proofs.AskedLemmas.{count_first, count_more, counted_all, counted_bound, counted_none}
use Rattle.rs_survey.proofs.asked_rows.count_rows.Goals as goal

pub loop-row-init : goal.loop-row-init
loop-row-init c =
    let tables = c.args.tables.now in
    let p = is_asked c.args.asked.now in
    let table : c.into_iter-row-iterator.result ≡ table_of tables c.args.client =
    c.into_iter-row-iterator.ensures.into_iter_gives
    ∙ (c.table_is_computed.ensures tables c.args.client c.iter_rows-row-items.result).0 c.iter_rows-row-items.ensures.table in
    record {
      bound = omega arith;
      all = counted_none (count_by p c.into_iter-row-iterator.result) ∙ ap (λ (rows : List TableRow). min (count_by p rows) most) table;
    }

pub loop-row-preserved : goal.loop-row-preserved
loop-row-preserved c =
    let p = is_asked c.args.asked.now in
    let count = c.loop-row.count in
    let rest = c.next.new.self in
    let row = row_of c.in-Some.row in
    let sum : c.counted-count.result ≡ min (count + cond (p row) 1 0) most =
    c.counted-count.ensures ∙ ap (λ b. min (count + cond b 1 0) most) c.asks_for.ensures in
    record {
      bound = counted_bound count (p row) c.counted-count.result sum;
      all = count_more count (count_by p rest) (p row) c.counted-count.result sum
          ∙ ap (λ n. min (count + n) most) (sym (count_first p row rest))
          ∙ ap (λ (rows : List TableRow). min (count + count_by p rows) most) (sym c.in-Some.ensures.steps) ∙ c.loop-row.invariant.all;
    }

pub returns : goal.returns
returns c =
    let p = is_asked c.args.asked.now in
    let count = c.loop-row.count in
    counted_all count c.loop-row.invariant.bound
    ∙ ap (λ (rows : List TableRow). min (count + count_by p rows) most) (sym c.in-None.ensures.steps.0) ∙ c.loop-row.invariant.all
