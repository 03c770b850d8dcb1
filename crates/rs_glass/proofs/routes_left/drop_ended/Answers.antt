-- What `retain` leaves is what passes the closure's test.
use Rattle.std.proofs.Common.{rules, not}
use Rattle.std.proofs.lemmas.Fn.{filter_same}
use Rattle.rs_session.specs.Change.{change_of}
use Rattle.rs_glass.specs.RoutesLeftView.{ends_route}
use Rattle.rs_glass.proofs.routes_left.drop_ended.Goals as goal

pub returns : goal.returns
returns c = filter_same _ (λ kept. not (ends_route (change_of c.args.word.now) (change_of kept))) _ (λ x b f' k. search rules)
    _ _ c.retain.ensures.filtered
