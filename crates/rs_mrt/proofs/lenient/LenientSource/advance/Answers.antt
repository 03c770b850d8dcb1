use Rattle.std.proofs.Common.{sym, subst}
use Rattle.rs_mrt.specs.Source.{Advances}
use Rattle.rs_mrt.specs.Leniency.{Leniency, ComesBy}
use Rattle.rs_mrt.proofs.lenient.AnswerLemmas.{after, before, tail-advances}
use Rattle.rs_mrt.proofs.lenient.LenientSource.advance.Goals as goal

pub returns-clause-records : goal.returns-clause-records
returns-clause-records g c =
    let S = g.S.Source in
    let old = c.self.inside.source in
    let new = c.advance-answer.new.self in
    let tail = c.self.inside.tail in
    let says = tail-advances S.comes old new tail (S.shows new) c.advance-answer.result c.advance-answer.ensures.records in
    subst (λ (l : Leniency g.row.S.Denot). Advances (ComesBy S.comes) l (after S.comes old new tail) (S.shows new) c.answer_by.result)
    c.self.view_is
    (subst (λ a. Advances (ComesBy S.comes) (before S.comes old new tail) (after S.comes old new tail) (S.shows new) a)
    (sym c.answer_by.ensures) says)
