use Rattle.std.specs.Prelude.{◌≡◌}
use Rattle.std.specs.List.{list_any, range_with_len}
use Rattle.rs_table.specs.Table.{accepted_on}
use Rattle.rs_survey.specs.Summary.{is_hidden_from}
use Rattle.rs_survey.proofs.hidden.is_hiding.Given as goal

-- whether it is so of one of the clients so far
abbrev pub invariant-loop-client : goal.invariant-loop-client
invariant-loop-client l =
    l.hides ≡ list_any (is_hidden_from l.tables.plan (accepted_on l.tables l.on.prefix)) (range_with_len 0 l.client)
