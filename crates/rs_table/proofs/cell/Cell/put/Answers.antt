use Rattle.std.proofs.Common.{◌∙◌, ap, sym, refl, subst, arith, length, map}
use Rattle.rs_table.specs.ByPeer.{with_route}
use Rattle.rs_table.specs.Cell.{IsUndecided}
use Rattle.rs_choice.specs.Held.{sent_of_held}
use Rattle.rs_table.specs.CellView.{cell_view}
use Rattle.rs_table.proofs.cell.HeldLemmas.{few-held, held-with, routes-with}
use Rattle.rs_table.proofs.cell.Cell.put.Goals as goal

pub put-requires-clause-room : goal.put-requires-clause-room
put-requires-clause-room c =
    let plan = c.args.plan.now in
    let cell : IsUndecided plan (cell_view c.self.inside) = subst (IsUndecided plan) (sym c.self.view_is) c.requires.cell in
    omega (arith, few-held plan _ (held-with plan c.self.inside.held.items _ c.args.route cell.held c.requires.judged refl), cell.room)

pub returns-clause-routes : goal.returns-clause-routes
returns-clause-routes c =
    routes-with c.self.inside.held.items c.put.new.held.items c.args.route c.put.ensures.held
    ∙ ap (λ cell. with_route (map sent_of_held cell.held) (sent_of_held c.args.route)) c.self.view_is

pub returns-clause-cell : goal.returns-clause-cell
returns-clause-cell c =
    let plan = c.args.plan.now in
    let cell : IsUndecided plan (cell_view c.self.inside) = subst (IsUndecided plan) (sym c.self.view_is) c.requires.cell in
    record {
      held = held-with plan c.self.inside.held.items c.put.new.held.items c.args.route cell.held c.requires.judged
          c.put.ensures.held;
      count = cell.count;
      room = omega (arith, cell.room, c.put.ensures.capacity);
    }

pub invariant_of-self : goal.invariant_of-self
invariant_of-self c =
    let plan = c.args.plan.now in
    let cell : IsUndecided plan (cell_view c.self.inside) = subst (IsUndecided plan) (sym c.self.view_is) c.requires.cell in (
      length plan.peers,
      (held-with plan c.self.inside.held.items c.put.new.held.items c.args.route cell.held c.requires.judged
          c.put.ensures.held).row,
    )
