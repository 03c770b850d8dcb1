-- No entry is made up.
use Rattle.std.proofs.Common.{All, subst, sym}
use Rattle.std.proofs.lemmas.List.Elements.{All-push}
use Rattle.rs_table.specs.Gathered.{IsEntryOf}
use Rattle.rs_table.proofs.log.Log.push.Goals as goal

pub returns-in_err-make_room-clause-entries : goal.returns-in_err-make_room-clause-entries
returns-in_err-make_room-clause-entries c = λ octet one all. c.make_room.ensures.entries octet all

pub returns-in_err-push-clause-entries : goal.returns-in_err-push-clause-entries
returns-in_err-push-clause-entries c = λ octet one all.
    subst (All (IsEntryOf c.args.losses.now octet)) (sym c.in_err-push.ensures.items) (c.make_room.ensures.entries octet all)

pub returns-clause-entries : goal.returns-clause-entries
returns-clause-entries c = λ octet one all.
    subst (All (IsEntryOf c.args.losses.now octet)) (sym c.in_ok-push.ensures.items)
    (All-push (IsEntryOf c.args.losses.now octet) c.make_room.new.self.entries.items c.args.entry (c.make_room.ensures.entries octet all)
    one)
