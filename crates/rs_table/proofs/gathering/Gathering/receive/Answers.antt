-- A change makes of its peer's routes what it makes of a list's, and those of other peers stay.
use Rattle.std.proofs.Common.{◌<◌, ◌∙◌, true, false, length, length-set, get_or-set_same, set, arith, refl, sym, ap, subst}
use Rattle.std.proofs.lemmas.List.{get_or-set_other}
use Rattle.rs_change.specs.Change.{change_of}
use Rattle.rs_table.specs.Content.{rib_of}
use Rattle.rs_table.specs.Gathered.{AreLogs, GathersTo, routes_gathered}
use Rattle.rs_table.proofs.cells.CellsLemmas.{by-length}
use Rattle.rs_table.proofs.gathering.GatheringLemmas.{held-closed, then-gathering, then-others, then-own, then-routes}
use Rattle.rs_table.proofs.gathering.Gathering.receive.Goals as goal

pub returns-then-closes-clause-routes : goal.returns-then-closes-clause-routes
returns-then-closes-clause-routes c =
    let inside = c.self.inside in
    let to : GathersTo c.args.peer (change_of c.args.word) inside.losses.items inside.logs.items c.take_in.new.losses c.take_in.new.logs =
    subst (λ losses. GathersTo c.args.peer (change_of c.args.word) losses inside.logs.items c.take_in.new.losses c.take_in.new.logs)
    c.deref_mut-2.ensures.value
    (subst (λ logs. GathersTo c.args.peer (change_of c.args.word) c.deref_mut-2.result.now logs c.take_in.new.losses c.take_in.new.logs)
    c.deref_mut.ensures.value c.in_ok-take_in.ensures.routes) in
    let known : c.args.peer < length inside.closed.items =
    omega (arith, c.requires.known, c.self.invariant.peers, ap (λ tables. length tables.plan.peers) c.self.view_is) in
    λ changes unclosed left_is.
    then-own inside c.self.invariant c.take_in.new.losses c.take_in.new.logs
    (c.take_in.ensures.count ∙ ap length c.deref_mut-2.ensures.value) c.take_in.ensures.logs c.args.peer (change_of c.args.word) to
    inside.closed.items (set inside.closed.items c.args.peer true) known (length-set inside.closed.items c.args.peer true)
    changes unclosed (left_is ∙ sym (ap (λ tables. (rib_of tables c.args.peer).routes) c.self.view_is))

pub returns-then-closes-clause-closed : goal.returns-then-closes-clause-closed
returns-then-closes-clause-closed c =
    let inside = c.self.inside in
    let known : c.args.peer < length inside.closed.items =
    omega (arith, c.requires.known, c.self.invariant.peers, ap (λ tables. length tables.plan.peers) c.self.view_is) in
    held-closed inside.plan.value (then-routes inside c.self.invariant c.take_in.new.losses c.take_in.new.logs
    (c.take_in.ensures.count ∙ ap length c.deref_mut-2.ensures.value) c.take_in.ensures.logs) (set inside.closed.items c.args.peer true)
    c.args.peer
    ∙ get_or-set_same inside.closed.items c.args.peer true false known
    ∙ sym c.if-closes.true ∙ c.closes-closes.ensures

pub returns-then-closes-clause-others : goal.returns-then-closes-clause-others
returns-then-closes-clause-others c = λ other apart.
    let inside = c.self.inside in
    let to : GathersTo c.args.peer (change_of c.args.word) inside.losses.items inside.logs.items c.take_in.new.losses c.take_in.new.logs =
    subst (λ losses. GathersTo c.args.peer (change_of c.args.word) losses inside.logs.items c.take_in.new.losses c.take_in.new.logs)
    c.deref_mut-2.ensures.value
    (subst (λ logs. GathersTo c.args.peer (change_of c.args.word) c.deref_mut-2.result.now logs c.take_in.new.losses c.take_in.new.logs)
    c.deref_mut.ensures.value c.in_ok-take_in.ensures.routes) in
    then-others inside c.self.invariant c.take_in.new.losses c.take_in.new.logs
    (c.take_in.ensures.count ∙ ap length c.deref_mut-2.ensures.value) c.take_in.ensures.logs c.args.peer (change_of c.args.word) to
    inside.closed.items (set inside.closed.items c.args.peer true) (length-set inside.closed.items c.args.peer true) other apart
    (get_or-set_other inside.closed.items c.args.peer other true false apart)
    ∙ ap (λ tables. rib_of tables other) c.self.view_is

pub returns-then-closes-clause-count : goal.returns-then-closes-clause-count
returns-then-closes-clause-count c =
    let inside = c.self.inside in
    by-length (then-routes inside c.self.invariant c.take_in.new.losses c.take_in.new.logs
    (c.take_in.ensures.count ∙ ap length c.deref_mut-2.ensures.value) c.take_in.ensures.logs) 0
    (set inside.closed.items c.args.peer true)
    ∙ length-set inside.closed.items c.args.peer true
    ∙ sym (by-length (routes_gathered inside.losses.items inside.logs.items) 0 inside.closed.items)
    ∙ ap (λ tables. length tables.ribs) c.self.view_is

pub returns-else-closes-clause-routes : goal.returns-else-closes-clause-routes
returns-else-closes-clause-routes c =
    let inside = c.self.inside in
    let to : GathersTo c.args.peer (change_of c.args.word) inside.losses.items inside.logs.items c.take_in.new.losses c.take_in.new.logs =
    subst (λ losses. GathersTo c.args.peer (change_of c.args.word) losses inside.logs.items c.take_in.new.losses c.take_in.new.logs)
    c.deref_mut-2.ensures.value
    (subst (λ logs. GathersTo c.args.peer (change_of c.args.word) c.deref_mut-2.result.now logs c.take_in.new.losses c.take_in.new.logs)
    c.deref_mut.ensures.value c.in_ok-take_in.ensures.routes) in
    let known : c.args.peer < length inside.closed.items =
    omega (arith, c.requires.known, c.self.invariant.peers, ap (λ tables. length tables.plan.peers) c.self.view_is) in
    λ changes unclosed left_is.
    then-own inside c.self.invariant c.take_in.new.losses c.take_in.new.logs
    (c.take_in.ensures.count ∙ ap length c.deref_mut-2.ensures.value) c.take_in.ensures.logs c.args.peer (change_of c.args.word) to
    inside.closed.items inside.closed.items known refl
    changes unclosed (left_is ∙ sym (ap (λ tables. (rib_of tables c.args.peer).routes) c.self.view_is))

pub returns-else-closes-clause-closed : goal.returns-else-closes-clause-closed
returns-else-closes-clause-closed c =
    let inside = c.self.inside in
    held-closed inside.plan.value (then-routes inside c.self.invariant c.take_in.new.losses c.take_in.new.logs
    (c.take_in.ensures.count ∙ ap length c.deref_mut-2.ensures.value) c.take_in.ensures.logs) inside.closed.items c.args.peer
    ∙ sym (held-closed inside.plan.value (routes_gathered inside.losses.items inside.logs.items) inside.closed.items c.args.peer)
    ∙ ap (λ tables. (rib_of tables c.args.peer).closed) c.self.view_is
    ∙ c.requires.open ∙ sym c.if-closes.false ∙ c.closes-closes.ensures

pub returns-else-closes-clause-others : goal.returns-else-closes-clause-others
returns-else-closes-clause-others c = λ other apart.
    let inside = c.self.inside in
    let to : GathersTo c.args.peer (change_of c.args.word) inside.losses.items inside.logs.items c.take_in.new.losses c.take_in.new.logs =
    subst (λ losses. GathersTo c.args.peer (change_of c.args.word) losses inside.logs.items c.take_in.new.losses c.take_in.new.logs)
    c.deref_mut-2.ensures.value
    (subst (λ logs. GathersTo c.args.peer (change_of c.args.word) c.deref_mut-2.result.now logs c.take_in.new.losses c.take_in.new.logs)
    c.deref_mut.ensures.value c.in_ok-take_in.ensures.routes) in
    then-others inside c.self.invariant c.take_in.new.losses c.take_in.new.logs
    (c.take_in.ensures.count ∙ ap length c.deref_mut-2.ensures.value) c.take_in.ensures.logs c.args.peer (change_of c.args.word) to
    inside.closed.items inside.closed.items refl other apart refl
    ∙ ap (λ tables. rib_of tables other) c.self.view_is

pub take_in-requires-clause-known : goal.take_in-requires-clause-known
take_in-requires-clause-known c =
    let peers = ap (λ tables. length tables.plan.peers) c.self.view_is in (
      omega (arith, c.requires.known, c.self.invariant.losses, peers, ap length c.deref_mut-2.ensures.value),
      omega (
        arith,
        c.requires.known,
        c.count-count.ensures.value,
        c.count-count.ensures.bound,
        peers,
        ap (λ plan. length plan.peers) c.deref.ensures,
      ),
    )

pub take_in-requires-clause-logs : goal.take_in-requires-clause-logs
take_in-requires-clause-logs c =
    subst (λ losses. AreLogs losses c.deref_mut.result.now) (sym c.deref_mut-2.ensures.value)
    (subst (AreLogs c.self.inside.losses.items) (sym c.deref_mut.ensures.value) c.self.invariant.logs)

pub index_mut-requires : goal.index_mut-requires
index_mut-requires c =
    omega (arith, c.requires.known, c.self.invariant.peers, ap (λ tables. length tables.plan.peers) c.self.view_is)

pub invariant_of-self-then-closes : goal.invariant_of-self-then-closes
invariant_of-self-then-closes c =
    let inside = c.self.inside in
    then-gathering inside c.self.invariant c.take_in.new.losses c.take_in.new.logs
    (c.take_in.ensures.count ∙ ap length c.deref_mut-2.ensures.value) c.take_in.ensures.logs _
    (length-set inside.closed.items c.args.peer true ∙ c.self.invariant.peers)

pub invariant_of-self-else-closes : goal.invariant_of-self-else-closes
invariant_of-self-else-closes c =
    let inside = c.self.inside in
    then-gathering inside c.self.invariant c.take_in.new.losses c.take_in.new.logs
    (c.take_in.ensures.count ∙ ap length c.deref_mut-2.ensures.value) c.take_in.ensures.logs inside.closed c.self.invariant.peers

pub invariant_of-self : goal.invariant_of-self
invariant_of-self c =
    let inside = c.self.inside in
    then-gathering inside c.self.invariant c.take_in.new.losses c.take_in.new.logs
    (c.take_in.ensures.count ∙ ap length c.deref_mut-2.ensures.value) c.take_in.ensures.logs inside.closed c.self.invariant.peers

pub returns-then-closes-clause-plan : goal.returns-then-closes-clause-plan
returns-then-closes-clause-plan c = ap (λ tables. tables.plan) c.self.view_is

pub returns-else-closes-clause-plan : goal.returns-else-closes-clause-plan
returns-else-closes-clause-plan c = ap (λ tables. tables.plan) c.self.view_is

pub returns-else-closes-clause-count : goal.returns-else-closes-clause-count
returns-else-closes-clause-count c =
    let inside = c.self.inside in
    by-length (then-routes inside c.self.invariant c.take_in.new.losses c.take_in.new.logs
    (c.take_in.ensures.count ∙ ap length c.deref_mut-2.ensures.value) c.take_in.ensures.logs) 0 inside.closed.items
    ∙ sym (by-length (routes_gathered inside.losses.items inside.logs.items) 0 inside.closed.items)
    ∙ ap (λ tables. length tables.ribs) c.self.view_is
