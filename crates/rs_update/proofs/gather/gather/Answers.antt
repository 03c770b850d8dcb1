use Rattle.std.proofs.Common.{◌∙◌, sym, ap, arith, Some}
use Rattle.rs_types.specs.Gathered.{attributes_of}
use Rattle.rs_types.specs.Parts.{AreOctets}
use Rattle.rs_types.specs.PathAttributes.{PathAttributes}
use Rattle.rs_types.specs.Section.{items_of}
use Rattle.rs_types.specs.Spelling.{written}
use Rattle.rs_types.proofs.section.KindLemmas.{none_there}
use Rattle.rs_update.proofs.gather.ViewLemmas.{spelled-says}
use Rattle.rs_update.proofs.gather.WholeLemmas.{mandatory-found}
use Rattle.rs_update.proofs.gather.gather.Goals as goal

pub returns-then-not-has_mandatory : goal.returns-then-not-has_mandatory
returns-then-not-has_mandatory c =
    let section = c.args.section.now in
    let none = sym (mandatory-found c.args.found.now section c.requires.are_found) ∙ sym c.has_mandatory.ensures
    ∙ c.if-not-has_mandatory.true in
    sym (none_there (attributes_of (items_of section)) none)

pub of_written-requires-clause-faultless : goal.of_written-requires-clause-faultless
of_written-requires-clause-faultless c =
    let section = c.args.section.now in
    let fit : AreOctets section = λ place. omega (arith, c.type_inv.section place) in
    let asked = c.requires in
    let says = spelled-says section fit asked.faultless asked.short c.args.found.now c.in_ok-spelling.spelling.items asked.are_found
    (sym c.has_mandatory.ensures ∙ c.if-not-has_mandatory.false) c.in_ok-spelling.ensures in
    says.1.is_faultless

pub of_written-requires-clause-short : goal.of_written-requires-clause-short
of_written-requires-clause-short c =
    let section = c.args.section.now in
    let fit : AreOctets section = λ place. omega (arith, c.type_inv.section place) in
    let asked = c.requires in
    let says = spelled-says section fit asked.faultless asked.short c.args.found.now c.in_ok-spelling.spelling.items asked.are_found
    (sym c.has_mandatory.ensures ∙ c.if-not-has_mandatory.false) c.in_ok-spelling.ensures in
    says.1.fits_a_message

pub of_written-requires-clause-gives : goal.of_written-requires-clause-gives
of_written-requires-clause-gives c =
    let section = c.args.section.now in
    let fit : AreOctets section = λ place. omega (arith, c.type_inv.section place) in
    let asked = c.requires in
    let says = spelled-says section fit asked.faultless asked.short c.args.found.now c.in_ok-spelling.spelling.items asked.are_found
    (sym c.has_mandatory.ensures ∙ c.if-not-has_mandatory.false) c.in_ok-spelling.ensures in
    says.1.given_again ∙ ap (λ (attributes : PathAttributes). Some attributes) (sym says.1.is_looked_up)

pub of_written-requires-clause-is_written : goal.of_written-requires-clause-is_written
of_written-requires-clause-is_written c =
    let section = c.args.section.now in
    let fit : AreOctets section = λ place. omega (arith, c.type_inv.section place) in
    let asked = c.requires in
    let says = spelled-says section fit asked.faultless asked.short c.args.found.now c.in_ok-spelling.spelling.items asked.are_found
    (sym c.has_mandatory.ensures ∙ c.if-not-has_mandatory.false) c.in_ok-spelling.ensures in
    says.1.is_written ∙ ap written (sym says.1.is_looked_up)

pub returns : goal.returns
returns c =
    let section = c.args.section.now in
    let fit : AreOctets section = λ place. omega (arith, c.type_inv.section place) in
    let asked = c.requires in
    let says = spelled-says section fit asked.faultless asked.short c.args.found.now c.in_ok-spelling.spelling.items asked.are_found
    (sym c.has_mandatory.ensures ∙ c.if-not-has_mandatory.false) c.in_ok-spelling.ensures in
    ap (λ (attributes : PathAttributes). Some attributes) (c.of_written.ensures ∙ says.1.is_looked_up) ∙ sym says.1.given
