use Rattle.std.proofs.Common.{string_bytes}
use Rattle.std.proofs.lemmas.List.Elements.{All-push}
use Rattle.rs_setup.specs.Known.{IsAmong}
use Rattle.rs_setup.specs.declared.lists.Known.{Known}
use Rattle.rs_setup.specs.Lists.{FileSays}
use Rattle.rs_setup.proofs.KnownLemmas.{known_says}
use Rattle.rs_setup.proofs.lists.list_at.Goals as goal

pub returns-in-Some-2-clause-list : goal.returns-in-Some-2-clause-list
returns-in-Some-2-clause-list g c =
    let among : IsAmong c.deref.result.now c.deref-2.result.now c.in-Some-2.list.value = rw c.in-Some-2.is at c.in_ok-list.ensures in
    rw c.in-Some.is (known_says (FileSays (g.L.ListFiles.holds c.args.files.now) g.S.Listed.says) c.args.known.now.items
    (string_bytes c.in-Some.path) c.in-Some-2.list.value c.requires (rw (c.deref.ensures.value, c.deref-2.ensures) at among))

pub returns-clause-known : goal.returns-clause-known
returns-clause-known g c =
    let Says = FileSays (g.L.ListFiles.holds c.args.files.now) g.S.Listed.says in
    let one : Known g.row.S.Denot = record { path = c.in_ok-clone.field-0; list = c.in_ok-shared.shared } in
    rw c.in_ok-push.ensures.items
    (All-push (λ (one : Known g.row.S.Denot). Says (string_bytes one.path) one.list.value) c.args.known.now.items one c.requires
    (rw (c.in_ok-clone.ensures.cases, c.in_ok-shared.ensures.cases, c.in_ok-list-2.ensures.ok, ← c.deref-3.ensures) c.in_ok-read_list.ensures))
