use Rattle.std.proofs.Common.{◌≡◌, ◌∙◌, List, true, refl, ap, sym, subst, arith, length, map}
use Rattle.rs_table.specs.ByPeer.{without_route}
use Rattle.std.specs.Prelude.{vec_capacity}
use Rattle.rs_table.specs.Cell.{IsCell, IsKeptCell}
use Rattle.rs_choice.specs.Held.{sent_of_held}
use Rattle.rs_choice.specs.declared.held_route.HeldRoute.{HeldRoute}
use Rattle.rs_table.specs.CellView.{cell_view}
use Rattle.rs_table.proofs.cell.HeldLemmas.{held-without, routes-without}
use Rattle.rs_table.proofs.cell.Cell.withdraw.Goals as goal

pub take_out-requires : goal.take_out-requires
take_out-requires c =
    let plan = c.args.plan.now in
    let cell : IsKeptCell true plan (cell_view c.self.inside) = subst (IsKeptCell true plan) (sym c.self.view_is) c.requires in
    (length plan.peers, cell.is_cell.held.row)

pub settle-requires : goal.settle-requires
settle-requires c =
    let plan = c.args.plan.now in
    let cell : IsKeptCell true plan (cell_view c.self.inside) = subst (IsKeptCell true plan) (sym c.self.view_is) c.requires in
    record {
      held = held-without plan c.self.inside.held.items c.take_out.new.held.items c.args.peer cell.is_cell.held
          c.take_out.ensures.held;
      count = cell.is_cell.count;
      room = omega (arith, cell.room refl, c.take_out.ensures.capacity);
    }

pub returns-then-not-take_out-clause-routes : goal.returns-then-not-take_out-clause-routes
returns-then-not-take_out-clause-routes c =
    routes-without c.self.inside.held.items c.take_out.new.held.items c.args.peer c.take_out.ensures.held
    ∙ ap (λ cell. without_route (map sent_of_held cell.held) c.args.peer) c.self.view_is

pub returns-then-not-take_out-clause-some : goal.returns-then-not-take_out-clause-some
returns-then-not-take_out-clause-some c kept =
    let plan = c.args.plan.now in
    let cell : IsKeptCell true plan (cell_view c.self.inside) = subst (IsKeptCell true plan) (sym c.self.view_is) c.requires in
    let same : c.take_out.new.held.items ≡ c.self.inside.held.items = c.take_out.ensures.same c.if-not-take_out.true in
    let room = vec_capacity c.take_out.new.held in
    record {
      is_cell = subst (λ (held : List HeldRoute). IsCell plan (record { held = held; bests = c.self.inside.bests.items; room = room }))
          (sym same)
          (record { held = cell.is_cell.held; some = cell.is_cell.some; count = cell.is_cell.count; best = cell.is_cell.best });
      room = λ keeps. omega (arith, cell.room refl, c.take_out.ensures.capacity);
    }

pub returns-clause-routes : goal.returns-clause-routes
returns-clause-routes c =
    c.settle.ensures.routes
    ∙ routes-without c.self.inside.held.items c.take_out.new.held.items c.args.peer c.take_out.ensures.held
    ∙ ap (λ cell. without_route (map sent_of_held cell.held) c.args.peer) c.self.view_is

pub invariant_of-self-2 : goal.invariant_of-self-2
invariant_of-self-2 c =
    let plan = c.args.plan.now in
    let cell : IsKeptCell true plan (cell_view c.self.inside) = subst (IsKeptCell true plan) (sym c.self.view_is) c.requires in (
      length plan.peers,
      (held-without plan c.self.inside.held.items c.take_out.new.held.items c.args.peer cell.is_cell.held
          c.take_out.ensures.held).row,
    )
