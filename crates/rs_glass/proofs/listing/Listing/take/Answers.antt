-- The change counts at the later of its moment and the latest before it, and is listed where it happens on the prefix.
use Rattle.std.proofs.Common.{◌∙◌, ◌++◌, ap, sym, refl, Bor}
use Rattle.std.proofs.lemmas.List.{append-nil, map-append}
use Rattle.std.specs.Option.{option_map}
use Rattle.rs_mrt.specs.Record.{record_of}
use Rattle.rs_mrt.specs.declared.record.Record.{Record}
use Rattle.rs_session.specs.Change.{change_of}
use Rattle.rs_glass.specs.FileSaid.{SaidChange}
use Rattle.rs_glass.specs.Happened.{contents_of, happening_content}
use Rattle.rs_glass.specs.Moments.{later_of}
use Rattle.rs_glass.proofs.HappenedLemmas.{adds-here, adds-nothing, lists-one}
use Rattle.rs_glass.proofs.listing.Listing.take.Goals as goal

pub returns-in_ok-push : goal.returns-in_ok-push
returns-in_ok-push c =
    let old = c.args.self.now in
    let one : SaidChange =
    record { change = change_of c.args.word; said_by = option_map (λ (r : Bor Record). record_of r.now) c.args.said_by } in
    lists-one old _ one refl refl (c.or_later-self.ensures ∙ ap (later_of old.latest) c.moment_of.ensures)
    (ap contents_of c.in_ok-push.ensures.items ∙ map-append happening_content old.all.items _
    ∙ ap (λ rest. contents_of old.all.items ++ rest)
    (adds-here old.question old.peer c.or_later-self.result one c.in_ok-cause.cause
    (sym c.happens_on.ensures ∙ c.if-happens_on.true) c.in_ok-cause.ensures))

pub returns-else-happens_on : goal.returns-else-happens_on
returns-else-happens_on c =
    let old = c.args.self.now in
    let one : SaidChange =
    record { change = change_of c.args.word; said_by = option_map (λ (r : Bor Record). record_of r.now) c.args.said_by } in
    lists-one old _ one refl refl (c.or_later-self.ensures ∙ ap (later_of old.latest) c.moment_of.ensures)
    (sym (append-nil (contents_of old.all.items)) ∙ ap (λ rest. contents_of old.all.items ++ rest)
    (adds-nothing old.question old.peer c.or_later-self.result one (sym c.happens_on.ensures ∙ c.if-happens_on.false)))
