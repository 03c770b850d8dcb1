use Rattle.std.proofs.Common.{◌≡◌, ◌∙◌, ap, sym, subst, None, Some}
use Rattle.std.specs.BTreeMap.{Updates}
use Rattle.std.specs.Option.{option_copied_mut}
use Rattle.rs_inventory.specs.Inventory.{peer_at}
use Rattle.rs_inventory.specs.Told.{peer_cmp}
use Rattle.rs_inventory.proofs.InventoryLemmas.{next-new, takes-one}
use Rattle.rs_inventory.proofs.inventory.take_news.Goals as goal

pub returns-clause-takes : goal.returns-clause-takes
returns-clause-takes c =
    let none : peer_at c.args.peers.now.entries c.args.note.peer ≡ None =
    sym c.get_mut.ensures.value ∙ ap option_copied_mut c.in_default.is in
    takes-one c.args.peers.now.entries c.insert.new.self.entries c.args.note c.args.time None c.in_ok-records.records none
    (subst (λ old. Updates peer_cmp old c.insert.new.self c.args.note.peer (Some c.in_ok-records.records))
    c.get_mut.follows.holds-at-none c.in_ok-insert.ensures.updates).0
    (next-new c.args.time c.args.note.news c.in_ok-records.records c.in_ok-records.ensures)
