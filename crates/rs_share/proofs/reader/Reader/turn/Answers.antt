use Rattle.std.proofs.Common.{◌≡◌, ◌≤◌, ◌+◌, Bool, Option, Result, Some, None, Ok, true, false, subst, rules}
use Rattle.rs_mrt.specs.Record.{MrtRecord, octets_of}
use Rattle.rs_mrt.specs.Source.{Advances}
use Rattle.rs_mrt.specs.declared.fault.SourceFault.{SourceFault}
use Rattle.rs_share.proofs.TurnLemmas.{are-at-more, are-ended, count-fits, ended-with, failed-with, is-reading-more, shown-record}
use Rattle.rs_share.proofs.reader.Reader.turn.Goals as goal

pub hand-requires-clause-at : goal.hand-requires-clause-at
hand-requires-clause-at g c =
    let S = g.S.Source in
    let old = c.args.self.now.source in
    let new = c.advance.new.self in
    let goes : c.advance.result ≡ Ok true = search rules in
    let on = subst (λ (a : Result Bool SourceFault). Advances S.comes old new (S.shows new) a) goes c.advance.ensures.records in
    λ r is. are-at-more S.comes S.room c.args.self.now c.requires new r
    (subst (λ (s : Option MrtRecord). Advances S.comes old new s (Ok true)) is on)
    (subst (λ (s : Option MrtRecord). S.room new + octets_of s ≤ S.room old) is c.advance.ensures.room)
    (g.met.S.Source.may_come new)

pub hand-requires-clause-fits : goal.hand-requires-clause-fits
hand-requires-clause-fits g c = count-fits g.S.Source.comes g.S.Source.room c.args.self.now c.requires

pub finish_all-requires : goal.finish_all-requires
finish_all-requires g c =
    let S = g.S.Source in
    let old = c.args.self.now.source in
    let new = c.advance.new.self in
    let ends : c.advance.result ≡ Ok false = search rules in
    are-ended S.comes S.room c.args.self.now c.requires None
    (ended-with S.comes old new (S.shows new)
    (subst (λ (a : Result Bool SourceFault). Advances S.comes old new (S.shows new) a) ends c.advance.ensures.records))

pub finish_all-requires-in-Err : goal.finish_all-requires-in-Err
finish_all-requires-in-Err g c =
    let S = g.S.Source in
    let old = c.args.self.now.source in
    let new = c.advance.new.self in
    are-ended S.comes S.room c.args.self.now c.requires (Some c.in-Err.fault)
    (failed-with S.comes old new (S.shows new) c.in-Err.fault
    (subst (λ (a : Result Bool SourceFault). Advances S.comes old new (S.shows new) a) c.in-Err.is c.advance.ensures.records))

pub returns-in-Ok-true : goal.returns-in-Ok-true
returns-in-Ok-true g c =
    let S = g.S.Source in
    let old = c.args.self.now.source in
    let new = c.advance.new.self in
    let goes : c.advance.result ≡ Ok true = search rules in
    let on = subst (λ (a : Result Bool SourceFault). Advances S.comes old new (S.shows new) a) goes c.advance.ensures.records in
    let one = shown-record S.comes old new (S.shows new) on in
    λ more. is-reading-more S.comes S.room c.args.self.now c.requires new one.0
    (subst (λ (s : Option MrtRecord). Advances S.comes old new s (Ok true)) one.1 on)
    (subst (λ (s : Option MrtRecord). S.room new + octets_of s ≤ S.room old) one.1 c.advance.ensures.room)
    c.hand.new.self c.hand.ensures.same.0 c.hand.ensures.same.1 (c.hand.ensures.same.2 more)
    (c.hand.ensures.tells more one.0 one.1) (c.hand.ensures.lines more)
