-- All threads were started, or those that were are drained.
use Rattle.std.proofs.Common.{◌≡◌, refl, length, arith, rules}
use Rattle.rs_ring.specs.Ends.{Receiving, Sending}
use Rattle.rs_router.specs.declared.routed.Routed.{Routed}
use Rattle.rs_change.specs.declared.word.Word.{Word}
use Rattle.rs_serve.specs.Crew as of_shards
use Rattle.rs_serve.specs.declared.shard_crew.ShardJob.{ShardJob}
use Rattle.rs_worker.specs.Crew.{charge_of, charged}
use Rattle.rs_serve.proofs.serving.RunLemmas.{all-charged, prefix-shorter, rings-of}
use Rattle.rs_patience.proofs.PlaceLemmas.{same-counted}
use Rattle.rs_serve.proofs.crew.run_in.Goals as goal

pub give_up-requires-clause-workers : goal.give_up-requires-clause-workers
give_up-requires-clause-workers g c =
    omega (
      arith,
      prefix-shorter (λ handle. charged handle.promise) (charge_of c.args.errors)
          c.start.new.workers.items c.args.crew.lines.jobs.items c.start.ensures.workers,
      same-counted (λ job. job.out.ring) (λ (receiver : Receiving Word). receiver.ring)
          c.args.crew.lines.jobs.items c.args.crew.lines.from.items c.args.crew.can_work.rings,
    )

pub give_up-requires-clause-shards : goal.give_up-requires-clause-shards
give_up-requires-clause-shards g c =
    omega (
      arith,
      prefix-shorter (λ handle. of_shards.charged handle.promise)
          of_shards.charge_of c.start.new.shards.items c.args.crew.rings.jobs.items c.start.ensures.shards,
      same-counted (λ (job : ShardJob). job.from.ring) (λ (sender : Sending Routed). sender.ring)
          c.args.crew.rings.jobs.items c.args.crew.rings.to.items c.args.crew.can_share.rings,
    )

pub give_up-requires-clause-few_peers : goal.give_up-requires-clause-few_peers
give_up-requires-clause-few_peers g c =
    omega (
      arith,
      prefix-shorter (λ handle. charged handle.promise) (charge_of c.args.errors)
          c.start.new.workers.items c.args.crew.lines.jobs.items c.start.ensures.workers,
      c.args.crew.few,
    )

pub give_up-requires-clause-few_shards : goal.give_up-requires-clause-few_shards
give_up-requires-clause-few_shards g c =
    omega (
      arith,
      prefix-shorter (λ handle. of_shards.charged handle.promise)
          of_shards.charge_of c.start.new.shards.items c.args.crew.rings.jobs.items c.start.ensures.shards,
      c.args.crew.can_share.counted.1,
    )

pub join_all-requires-clause-shards : goal.join_all-requires-clause-shards
join_all-requires-clause-shards g c =
    rw (← same-counted (λ (job : ShardJob). job.from.ring) (λ (sender : Sending Routed). sender.ring)
    c.args.crew.rings.jobs.items c.args.crew.rings.to.items c.args.crew.can_share.rings) c.args.crew.can_share.counted

pub join_all-requires-clause-peers : goal.join_all-requires-clause-peers
join_all-requires-clause-peers g c =
    omega (
      arith,
      same-counted (λ job. job.out.ring) (λ (receiver : Receiving Word). receiver.ring)
          c.args.crew.lines.jobs.items c.args.crew.lines.from.items c.args.crew.can_work.rings,
      c.args.crew.few,
    )

pub join_all-requires-clause-worker_rings : goal.join_all-requires-clause-worker_rings
join_all-requires-clause-worker_rings g c =
    let counts : length c.start.new.workers.items ≡ length c.args.crew.lines.jobs.items = search rules in
    rings-of (λ handle. charged handle.promise) (charge_of c.args.errors) (λ charge. charge.ring)
    (λ (receiver : Receiving Word). receiver.ring) c.start.new.workers.items c.args.crew.lines.jobs.items c.args.crew.lines.from.items
    c.args.crew.lines.from.items
    (all-charged (λ handle. charged handle.promise) (charge_of c.args.errors)
    c.start.new.workers.items c.args.crew.lines.jobs.items c.start.ensures.workers counts) c.args.crew.can_work.rings refl

pub join_all-requires-clause-shard_rings : goal.join_all-requires-clause-shard_rings
join_all-requires-clause-shard_rings g c =
    let counts : length c.start.new.shards.items ≡ length c.args.crew.rings.jobs.items = search rules in
    rings-of (λ handle. of_shards.charged handle.promise) of_shards.charge_of (λ (charge : of_shards.Charge). charge.ring)
    (λ (sender : Sending Routed). sender.ring) c.start.new.shards.items c.args.crew.rings.jobs.items c.args.crew.rings.to.items
    c.args.crew.rings.to.items
    (all-charged (λ handle. of_shards.charged handle.promise)
    of_shards.charge_of c.start.new.shards.items c.args.crew.rings.jobs.items c.start.ensures.shards counts)
    c.args.crew.can_share.rings refl

pub returns : goal.returns
returns g c =
    let counts : length c.start.new.workers.items ≡ length c.args.crew.lines.jobs.items = search rules in
    let shards_count : length c.start.new.shards.items ≡ length c.args.crew.rings.jobs.items = search rules in
    rw (
      ← all-charged (λ handle. charged handle.promise) (charge_of c.args.errors)
          c.start.new.workers.items c.args.crew.lines.jobs.items c.start.ensures.workers counts,
      ← all-charged (λ handle. of_shards.charged handle.promise)
          of_shards.charge_of c.start.new.shards.items c.args.crew.rings.jobs.items c.start.ensures.shards shards_count,
    ) c.join_all.ensures
