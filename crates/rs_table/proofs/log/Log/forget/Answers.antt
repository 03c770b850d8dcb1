-- What `retain` leaves is what passes the closure's test.
use Rattle.std.proofs.Common.{rules, not}
use Rattle.std.specs.Prelude.{◌==◌}
use Rattle.std.proofs.lemmas.Fn.{filter_same}
use Rattle.rs_table.proofs.log.Log.forget.Goals as goal

pub returns : goal.returns
returns c = filter_same _ (λ entry. not (entry.peer == c.args.peer)) _ (λ x b f' k. search rules) _ _ c.retain.ensures.filtered
