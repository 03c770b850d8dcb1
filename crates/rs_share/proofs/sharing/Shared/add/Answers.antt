use Rattle.std.proofs.Common.{◌≡◌, ◌++◌, ◌∷◌, [], List, None, true, ap, sym, subst, rules, refl}
use Rattle.rtrb.specs.Ring.{received, sent}
use Rattle.rs_share.specs.Batches.{Heard}
use Rattle.rs_share.specs.Taking.{HasTaken, Taking, left_in}
use Rattle.rs_share.specs.Telling.{told}
use Rattle.rs_share.specs.declared.line.Line.{Line}
use Rattle.rs_share.proofs.SharingLemmas.{has-begun, line-begins, one-untaken, sharing-more, told-none}
use Rattle.rs_share.proofs.sharing.Shared.add.Goals as goal

pub invariant_of-push : goal.invariant_of-push
invariant_of-push g c =
    let source = c.args.self.now.reader.source in
    subst (λ (s : g.row.S.Denot). HasTaken g.S.Source.comes g.S.Source.room s c.args.peer (received c.in_ok-parts.from) c.none.result 0 None)
    (sym c.of-2.ensures)
    (has-begun source c.args.peer (sent c.in_ok-parts.parts) (received c.in_ok-parts.from) c.in_ok-parts.ensures g.S.Source.comes
    g.S.Source.room c.none.result c.none.ensures (g.met.S.Source.may_come source) c.requires)

pub returns-clause-sharing : goal.returns-clause-sharing
returns-clause-sharing g c =
    let source = c.args.self.now.reader.source in
    let o = c.in_ok-parts.ensures in
    let line : Line g.row.S.Denot = record {
      source = c.of.result;
      id = c.args.peer;
      parts = c.in_ok-parts.parts;
      back = c.in_ok-back.returned;
      peer = c.in_ok-clone.field-0;
      batch = c.in_ok-with_room.field-0;
      seen = 0;
      «open» = true;
    } in
    let all = told (received c.in_ok-parts.from) in
    let one : Taking g.row.S.Denot = record {
      source = c.of-2.result.value;
      peer = c.args.peer;
      told = all;
      left = left_in c.none.result 0 None;
      shown = None;
      others = 0;
      stopped = None;
    } in
    let directory : c.add.new.self ≡ c.args.self.now.reader.directory ++ c.args.peer ∷ [] = search rules in
    λ goes peers is. sharing-more g.S.Source.room c.args.self.now.reader _ c.args.self.now.taken.items c.push-2.new.self.items peers
    c.args.peer line one is refl refl directory c.in_ok-push.ensures.items refl c.of.ensures
    (line-begins source c.args.peer (sent c.in_ok-parts.parts) (received c.in_ok-parts.from) o line c.of.ensures refl refl
    c.in_ok-with_room.ensures refl)
    c.in_ok-push-2.ensures.items
    (one-untaken source c.of-2.result.value c.args.peer all (left_in c.none.result 0 None) c.of-2.ensures
    (told-none source c.args.peer (sent c.in_ok-parts.parts) (received c.in_ok-parts.from) o)
    (ap (λ (hs : List Heard). left_in hs 0 None) c.none.ensures))
