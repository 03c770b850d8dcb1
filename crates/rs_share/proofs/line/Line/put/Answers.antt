use Rattle.std.proofs.Common.{◌≡◌, ◌+◌, ◌++◌, ◌∷◌, [], ◌∙◌, true, ap, refl, rules}
use Rattle.rs_mrt.specs.Record.{record_of}
use Rattle.rs_types.specs.declared.peer_id.PeerId.{PeerId}
use Rattle.rs_share.specs.Own.{is_for}
use Rattle.rs_share.proofs.LineLemmas.{at-batch, at-same, tells-own-as}
use Rattle.rs_share.proofs.line.Line.put.Goals as goal

pub give_up-requires : goal.give_up-requires
give_up-requires g c =
    let S = g.S.Source in
    let mid = c.make_room.new.self in
    let refused : c.push.new.self ≡ mid.batch = search rules in
    λ goes. (
      c.args.before,
      at-batch S.comes S.room mid c.args.before c.push.new.self refused
          (at-same S.comes S.room c.args.self.now mid c.args.before c.make_room.ensures.same.source c.make_room.ensures.tells
          (c.requires.at (c.make_room.ensures.open goes))),
    )

pub returns-then-is_ok-clause-tells : goal.returns-then-is_ok-clause-tells
returns-then-is_ok-clause-tells g c =
    let mid = c.make_room.new.self in
    let r = record_of c.args.record.now in
    let own : is_for mid.id r ≡ true =
    ap (λ (p : PeerId). is_for p r) c.make_room.ensures.same.id ∙ c.requires.own in
    let added : c.push.new.self ≡ mid.batch ++ record { others = c.saturating_sub-others.result; own = r } ∷ [] = search rules in
    λ given count tells goes. tells-own-as mid given r c.args.before c.saturating_sub-others.result (c.args.before + 1)
    c.push.new.self (c.make_room.ensures.tells given tells goes) own count c.saturating_sub-others.ensures added refl
