-- The run is served, or the answer says why it is not.
use Rattle.rs_serve.proofs.serving.RunLemmas.{can-merge, few-octets, run-answers}
use Rattle.rs_serve.proofs.serving.serve_within.Goals as goal

pub settle-requires : goal.settle-requires
settle-requires g c =
    λ is. can-merge g.S.Source.comes g.S.Source.shows c.args.errors c.args.plan.now.value c.args.sources.items
    c.in_ok-crew.crew.lines.jobs.items c.in_ok-crew.crew.lines.from.items c.in_ok-crew.crew.rings.jobs.items
    c.in_ok-crew.crew.rings.to.items c.in-Some.ran.ends.items
    c.in-Some.ran.parts.items c.in-Some.ran.whole c.in_ok-crew.ensures.lines c.in_ok-crew.ensures.rings c.in-Some.ensures
    c.run_shards_are_whole.ensures c.shards_merge.ensures is

pub returns-in-Some : goal.returns-in-Some
returns-in-Some g c =
    record {
      answer = run-answers g.S.Source.comes g.S.Source.shows c.args.errors c.args.plan.now.value c.args.sources.items
          c.in_ok-crew.crew.lines.jobs.items
          c.in_ok-crew.crew.lines.from.items c.in_ok-crew.crew.rings.jobs.items c.in_ok-crew.crew.rings.to.items c.in-Some.ran.ends.items
          c.in-Some.ran.parts.items c.in-Some.ran.whole c.in_ok-crew.ensures.lines c.in_ok-crew.ensures.rings c.in-Some.ensures
          c.args.capacity c.args.shards c.requires.limits
          c.run_shards_are_whole.ensures c.shards_merge.ensures
          c.settle.result c.settle.ensures.served c.settle.ensures.refused;
    }

pub run-requires-clause-room : goal.run-requires-clause-room
run-requires-clause-room g c =
    λ _ _. few-octets g.S.Source.room c.args.plan.now.value c.args.sources.items c.in_ok-crew.crew.lines.jobs.items
    c.in_ok-crew.crew.lines.from.items c.in_ok-crew.ensures.lines c.requires.room
