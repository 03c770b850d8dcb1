use Rattle.std.proofs.Common.{◌≡◌, ◌∙◌, true, take, rules, ◌<◌, length}
use Rattle.rs_share.proofs.SharingLemmas.{sharing-next}
use Rattle.rs_share.proofs.sharing.share.Goals as goal

pub loop-place-preserved : goal.loop-place-preserved
loop-place-preserved g c =
    let less : c.loop-place.place < length c.args.peers.now = search rules in
    let goes : c.in_ok-add.field-0 ≡ true = search rules in (
      sharing-next g.S.Source.room c.add.new.self.reader c.add.new.self.taken.items c.args.peers.now c.loop-place.place _
          (search rules) less
          (c.in_ok-add.ensures.sharing goes (take c.loop-place.place c.args.peers.now) c.loop-place.invariant.0),
      c.in_ok-add.ensures.source ∙ c.loop-place.invariant.1,
    )
