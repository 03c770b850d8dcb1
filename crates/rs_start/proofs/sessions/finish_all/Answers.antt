use Rattle.std.proofs.Common.{◌≡◌, ◌<◌, ◌∙◌, [], length, arith}
use Rattle.std.proofs.lemmas.List.{length-set}
use Rattle.rs_start.specs.Sessions.{EndsBy}
use Rattle.rs_types.proofs.ReplacingLemmas.{done-also, to_do-also}
use Rattle.rs_start.proofs.sessions.finish_all.Goals as goal

pub loop-place-preserved : goal.loop-place-preserved
loop-place-preserved g c =
    let taken = g.W.Write.taken in
    let old = c.args.sessions.now in
    let now = c.loop-place.sessions in
    let place = c.loop-place.place in
    let next = c.index-sessions-place.result in
    let new = c.finish.new.self in
    let so_far = c.loop-place.invariant in
    let within : place < length now = omega arith in
    record {
      count = length-set now place new ∙ so_far.count;
      done = done-also (λ before after. EndsBy taken before.writer after.writer [] × (after.counts ≡ before.counts))
          old now place next new so_far.count within so_far.done so_far.to_do (c.in-Ok.ensures.ends, c.in-Ok.ensures.counts);
      to_do = to_do-also (λ before after. EndsBy taken before.writer after.writer [] × (after.counts ≡ before.counts))
          old now place next new so_far.count within so_far.to_do;
    }
