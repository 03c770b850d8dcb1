use Rattle.std.proofs.Common.{◌<◌, ◌∙◌, length, refl, subst, sym, arith}
use Rattle.std.proofs.lemmas.List.{length-set}
use Rattle.rs_dump.specs.SideBySide.{CanGo, IsWrittenFrom}
use Rattle.rs_dump.specs.declared.side_by_side.Writing.{Writing}
use Rattle.rs_types.proofs.ReplacingLemmas.{done-also, to_do-also}
use Rattle.rs_dump.proofs.side_by_side.write_rests.Goals as goal

pub loop-number-preserved : goal.loop-number-preserved
loop-number-preserved g c =
    let W = g.W.Write in
    let old = c.args.writings.now in
    let now = c.loop-number.writings in
    let number = c.loop-number.number in
    let next = c.index-writings-number.result in
    let new = c.write_rest.new.self in
    let so_far = c.loop-number.invariant in
    let within : number < length now = omega arith in
    record {
      count = length-set now number new ∙ so_far.count;
      done = done-also (IsWrittenFrom W.taken W.failures W.label)
          old now number next new so_far.count within so_far.done so_far.to_do c.write_rest.ensures;
      to_do = to_do-also (IsWrittenFrom W.taken W.failures W.label) old now number next new so_far.count within so_far.to_do;
    }

pub loop-number-init : goal.loop-number-init
loop-number-init g c = record { count = refl; done = λ k d below. absurd (omega (arith, below)); to_do = λ k d _. refl }

pub write_rest-requires : goal.write_rest-requires
write_rest-requires g c =
    let number = c.loop-number.number in
    let next = c.index-writings-number.result in
    let so_far = c.loop-number.invariant in
    let within : number < length c.args.writings.now = omega (arith, so_far.count) in
    let P : Writing g.row.W.Denot → Type 0 = λ writing. CanGo g.W.Write.failures writing in
    subst P (sym (so_far.to_do number next (omega arith))) (c.requires number next within)

pub returns-clause-each : goal.returns-clause-each
returns-clause-each g c = λ k d below. c.loop-number.invariant.done k d (omega (arith, below, c.loop-number.invariant.count)) below

pub returns-clause-count : goal.returns-clause-count
returns-clause-count g c = c.loop-number.invariant.count
