-- A record that came is the first of those that may come; where none did, none may.
use Rattle.std.proofs.Common.{◌≡◌, ◌∙◌, ◌∷◌, [], true, ap, sym, subst, refl, rules, Option, Some, None, Ok}
use Rattle.std.specs.Option.{option_map}
use Rattle.rs_mrt.specs.Fault.{number_of}
use Rattle.rs_mrt.specs.Record.{MrtRecord, record_of}
use Rattle.rs_mrt.specs.Source.{Advances}
use Rattle.rs_mrt.specs.declared.fault.SourceFault.TheVariants as faults
use Rattle.rs_change.specs.declared.word.Reason.{Reason}
use Rattle.rs_change.specs.declared.word.Reason.TheVariants.{Mrt}
use Rattle.rs_glass.specs.FileSaid.{closing_at_end}
use Rattle.rs_glass.specs.Listed.{Lists}
use Rattle.rs_glass.proofs.ListingLemmas.{takes-end, takes-record}
use Rattle.rs_glass.proofs.happened.take_next.Goals as goal

pub returns-clause-takes : goal.returns-clause-takes
returns-clause-takes g c =
    let says = rw (c.in-Ok-true.is, c.in-Ok-true.field-0-test) at c.advance.ensures.records in
    let shown : g.S.Source.shows c.advance.new.self ≡ Some (record_of c.in-Some.record) =
    sym c.shown.ensures ∙ ap (option_map record_of) c.in-Some.is in
    takes-record g.S.Source.comes c.args.errors c.args.id c.args.source.now c.advance.new.self c.args.listing.now c.take_record.new.self
    (record_of c.in-Some.record) c.in_ok-take_record.field-0
    (subst (λ (s : Option MrtRecord). Advances g.S.Source.comes c.args.source.now c.advance.new.self s (Ok true)) shown says)
    (g.met.S.Source.may_come c.advance.new.self) c.in_ok-take_record.ensures.goes_on c.in_ok-take_record.ensures.lists

pub returns-in-Ok-false-clause-takes : goal.returns-in-Ok-false-clause-takes
returns-in-Ok-false-clause-takes g c =
    let says = rw (c.in-Ok-false.is, c.in-Ok-false.field-0-test) at c.advance.ensures.records in
    takes-end g.S.Source.comes c.args.errors c.args.id c.args.source.now c.advance.new.self c.args.listing.now c.take_end.new.self None
    says.1 refl c.in_ok-take_end-in-Ok-false.ensures

pub returns-in-Err-Mrt-clause-takes : goal.returns-in-Err-Mrt-clause-takes
returns-in-Err-Mrt-clause-takes g c =
    let says = rw (c.in-Err-Mrt.is, c.in-Err-Mrt.field-0-is) at c.advance.ensures.records in
    let number : c.number.result ≡ number_of c.in-Err-Mrt.fault = search rules in
    takes-end g.S.Source.comes c.args.errors c.args.id c.args.source.now c.advance.new.self c.args.listing.now
    c.take_end-in-Err-Mrt.new.self (Some (faults.Mrt c.in-Err-Mrt.fault)) says.1 refl
    (subst (λ (reason : Reason). Lists c.args.listing.now (closing_at_end reason ∷ []) c.take_end-in-Err-Mrt.new.self)
    (ap Mrt number) c.in_ok-take_end-in-Err-Mrt.ensures)
