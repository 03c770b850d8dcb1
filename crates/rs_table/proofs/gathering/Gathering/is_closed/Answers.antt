use Rattle.std.proofs.Common.{◌≡◌, false, get_or, rules, sym, ap, ◌∙◌}
use Rattle.rs_table.specs.Content.{rib_of}
use Rattle.rs_table.specs.Gathered.{routes_gathered}
use Rattle.rs_table.proofs.gathering.GatheringLemmas.{held-closed}
use Rattle.rs_table.proofs.gathering.Gathering.is_closed.Goals as goal

pub returns-in-Some : goal.returns-in-Some
returns-in-Some c =
    let inside = c.self.inside in
    let here : c.in-Some.closed.now ≡ get_or inside.closed.items c.args.peer false = search rules in
    here
    ∙ sym (held-closed inside.plan.value (routes_gathered inside.losses.items inside.logs.items) inside.closed.items c.args.peer)
    ∙ ap (λ tables. (rib_of tables c.args.peer).closed) c.self.view_is

pub returns-in-None : goal.returns-in-None
returns-in-None c =
    let inside = c.self.inside in
    let here : false ≡ get_or inside.closed.items c.args.peer false = search rules in
    here
    ∙ sym (held-closed inside.plan.value (routes_gathered inside.losses.items inside.logs.items) inside.closed.items c.args.peer)
    ∙ ap (λ tables. (rib_of tables c.args.peer).closed) c.self.view_is
