-- The end of the lanes, lane by lane.
use Rattle.std.proofs.Common.{◌≡◌, arith, map}
use Rattle.std.proofs.lemmas.Result.{IfOk-weaker}
use Rattle.rs_floor.specs.Steps.{IsEnd}
use Rattle.rs_floor.proofs.schedule.ReplayLemmas.{ended}
use Rattle.rs_floor.proofs.steps.run_turns.Goals as goal

pub returns-clause-end : goal.returns-clause-end
returns-clause-end c =
    IfOk-weaker c.all_counts.result (λ counts. counts.items ≡ map (λ lane. lane.counts) c.take_turns.new.lanes)
    (λ counts. IsEnd c.args.turns.now c.args.lanes.now counts.items c.take_turns.new.tables)
    (λ counts counted. ended c.args.turns.now c.args.lanes.now c.take_turns.new.lanes counts.items c.take_turns.new.tables (omega arith)
    c.in_ok-take_turns.ensures.turns c.in_ok-take_turns.ensures.held counted)
    c.all_counts.ensures
