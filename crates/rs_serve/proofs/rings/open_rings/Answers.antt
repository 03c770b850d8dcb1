-- One ring more.
use Rattle.std.proofs.Common.{◌≡◌, [], ◌∷◌, length-append, arith}
use Rattle.std.proofs.lemmas.List.Elements.{All-push}
use Rattle.rs_ring.specs.Ends.{Sending}
use Rattle.rs_router.specs.declared.routed.Routed.{Routed}
use Rattle.rs_serve.proofs.serving.OpenLemmas.{rings-next}
use Rattle.rs_serve.proofs.rings.open_rings.Goals as goal

pub loop-shard-preserved : goal.loop-shard-preserved
loop-shard-preserved c =
    let more = c.in_ok-open.ensures in
    record {
      opening = rw (more.jobs_are, more.senders_are) (rings-next c.args.plan.now.value c.loop-shard.rings.jobs.items
          c.loop-shard.rings.to.items more.job more.sender c.loop-shard.invariant.opening more.ring);
      room = rw more.senders_are (All-push (λ (sender : Sending Routed). sender.capacity ≡ c.args.capacity)
          c.loop-shard.rings.to.items more.sender c.loop-shard.invariant.room more.room);
      counted =
          rw more.jobs_are (omega (arith, c.loop-shard.invariant.counted, length-append c.loop-shard.rings.jobs.items (more.job ∷ [])));
    }
