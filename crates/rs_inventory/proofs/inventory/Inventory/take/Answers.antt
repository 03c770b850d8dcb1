use Rattle.std.proofs.Common.{◌∙◌, ap}
use Rattle.rs_inventory.specs.Inventory.{with_back, with_unnamed, with_watch}
use Rattle.rs_inventory.proofs.InventoryLemmas.{holds-more}
use Rattle.rs_inventory.proofs.inventory.Inventory.take.Goals as goal

pub returns-clause-takes : goal.returns-clause-takes
returns-clause-takes c = λ findings holds.
    holds-more findings c.args.finding c.args.self.now c.take_back.new.self c.count.new.self c.take_note.new.self.peers c.in_ok-up.up holds
    (c.take_back.ensures ∙ ap (with_back c.args.finding) (c.in_ok-take_unnamed.ensures ∙ ap (with_unnamed c.args.finding) (c.take_watch.ensures
    ∙ ap (with_watch c.args.finding c.in_ok-up.up c.silence_before-silence.result) c.in_ok-up.ensures.same
    ∙ ap (λ s. with_watch c.args.finding c.in_ok-up.up s (record c.args.self.now { peers = c.take_note.new.self.peers }))
    c.silence_before-silence.ensures)))
    c.in_ok-up.ensures.takes c.in_ok-up.ensures.up c.count.ensures
