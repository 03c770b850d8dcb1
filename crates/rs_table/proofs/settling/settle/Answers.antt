-- The cells of one list more come to the others; in the end all lists have theirs.
use Rattle.std.proofs.Common.{◌≡◌, ◌∙◌, ◌+◌, ◌∷◌, ◌++◌, [], ℕ, List, length, length-append, get_or, ap, sym, subst}
use Rattle.std.proofs.lemmas.Iterator.Adapters.{YieldsList-from_vec}
use Rattle.std.proofs.lemmas.Iterator.Consumers.{YieldsList-turn, YieldsList-end}
use Rattle.rs_table.specs.Logged.{Logged}
use Rattle.rs_table.specs.declared.log.Log.{Log}
use Rattle.rs_table.specs.Cell.{IsKeptCellOn}
use Rattle.rs_table.specs.Cells.{AreKeptCells}
use Rattle.rs_table.specs.Gathered.{left_in, lists_of}
use Rattle.rs_table.proofs.MergeLemmas.{each-joined}
use Rattle.rs_table.proofs.cells.CellsLemmas.{kept-cells}
use Rattle.rs_table.proofs.gathering.GatheredLemmas.{entered-list}
use Rattle.rs_table.proofs.settling.SettlingLemmas.{IsReplayed, replayed-all, replayed-more, replayed-none}
use Rattle.rs_table.proofs.settling.settle.Goals as goal

pub loop-log-init : goal.loop-log-init
loop-log-init c = record {
  cells = subst (AreKeptCells c.args.keeps_room c.args.plan.now) (sym c.new-cells.ensures.empty) tt;
  replayed = replayed-none c.args.losses.now c.args.logs.items c.new-cells.result.entries c.new-cells.ensures.empty;
}

pub loop-log-preserved : goal.loop-log-preserved
loop-log-preserved c =
    let plan = c.args.plan.now in
    let losses = c.args.losses.now in
    let logs = c.args.logs.items in
    let gives = c.into_iter-log-iterator.ensures.into_iter_gives in
    let all = YieldsList-from_vec logs gives.0 (gives.1 ∙ c.args.logs.ok.0) in
    let t = YieldsList-turn all c.loop-log.yielded c.loop-log.log-iterator c.loop-log.yielded_by c.next.result c.next.new.self c.in-Some.log
    c.in-Some.is c.next.ensures.steps in
    let count = length c.loop-log.yielded in
    let list : get_or (lists_of logs) count [] ≡ c.in-Some.log.entries.items =
    entered-list logs count c.in-Some.log t.0 ∙ ap (λ (log : Log). log.entries.items) (sym t.1) in
    let more : length (c.loop-log.yielded ++ c.in-Some.log ∷ []) ≡ count + 1 = length-append c.loop-log.yielded (c.in-Some.log ∷ []) in
    let before = c.loop-log.cells.entries in
    let others = c.in_ok-more.more.entries in
    let joined = c.in_ok-cells.cells.entries in
    record {
      cells = each-joined (IsKeptCellOn c.args.keeps_room plan)
          before others joined c.loop-log.invariant.cells c.in_ok-more.ensures.cells c.in_ok-cells.ensures.cells
          c.in_ok-cells.ensures.ordered;
      replayed = subst (λ (n : ℕ). IsReplayed losses logs n joined) (sym more)
          (replayed-more losses logs c.requires.logs plan count before others joined c.loop-log.invariant.replayed
          (kept-cells c.args.keeps_room plan others c.in_ok-more.ensures.cells) c.in_ok-cells.ensures.cells
          (λ peer prefix. c.in_ok-more.ensures.routes peer prefix
          ∙ ap (λ (entries : List Logged). left_in losses entries peer prefix) (sym list)));
    }

pub returns-clause-routes : goal.returns-clause-routes
returns-clause-routes c = λ peer prefix.
    let losses = c.args.losses.now in
    let logs = c.args.logs.items in
    let gives = c.into_iter-log-iterator.ensures.into_iter_gives in
    let all = YieldsList-from_vec logs gives.0 (gives.1 ∙ c.args.logs.ok.0) in
    let t = YieldsList-end all c.loop-log.yielded c.loop-log.log-iterator c.loop-log.yielded_by c.next.result c.next.new.self c.in-None.is
    c.next.ensures.steps in
    replayed-all losses logs c.requires.logs c.loop-log.cells.entries
    (subst (λ (n : ℕ). IsReplayed losses logs n c.loop-log.cells.entries) t.1 c.loop-log.invariant.replayed) peer prefix
