-- One line more, and all of them.
use Rattle.std.proofs.Common.{◌≡◌, ◌∙◌, sym, ap, ℕ, List, [], ◌∷◌, length, Some, arith, rules}
use Rattle.std.specs.Prelude.{slice_get}
use Rattle.std.specs.Vec.Iter.{into_iter_items}
use Rattle.std.proofs.lemmas.List.{nil_from_length}
use Rattle.std.proofs.lemmas.List.Elements.{All-nil, All-push}
use Rattle.std.proofs.lemmas.Option.{slice_get_within}
use Rattle.rs_choice.specs.Plan.{peer_of}
use Rattle.rs_patience.proofs.PlaceLemmas.{drop-front}
use Rattle.rs_serve.proofs.serving.OpenLemmas.{opening-all, opening-next, opening-none}
use Rattle.rs_serve.proofs.lines.open_lines.Goals as goal

pub loop-source-preserved : goal.loop-source-preserved
loop-source-preserved g c =
    let steps : into_iter_items c.loop-source.source-iterator ≡ c.in-Some.source ∷ into_iter_items c.next.new.self =
    c.in-Some.ensures.steps.0 in
    let so_far = rw steps at c.loop-source.invariant.opening in
    let more = c.in_ok-open.ensures in
    let count : length c.loop-source.lines.jobs.items ≡ c.len.result = omega (arith, c.len.ensures, c.loop-source.lines.jobs.ok.0) in
    let at : slice_get c.args.plan.now.peers (length c.loop-source.lines.jobs.items) ≡ Some (peer_of c.peer-peer.result.now) =
    ap (λ (n : ℕ). slice_get c.args.plan.now.peers n) count ∙ c.peer-peer.ensures in
    record {
      opening = rw (more.jobs_are, more.receivers_are) (opening-next c.args.plan.now
          (into_iter_items c.into_iter-source-iterator.result) (into_iter_items c.next.new.self)
          c.loop-source.lines.jobs.items c.loop-source.lines.from.items (peer_of c.peer-peer.result.now)
          c.in-Some.source more.job more.receiver so_far at more.line);
      capacity = rw more.jobs_are (All-push (λ job. job.out.capacity ≡ c.args.capacity)
          c.loop-source.lines.jobs.items more.job c.loop-source.invariant.capacity more.capacity_is);
      left = search rules;
    }

pub returns-clause-capacity : goal.returns-clause-capacity
returns-clause-capacity g c = c.loop-source.invariant.capacity

pub returns-clause-lines : goal.returns-clause-lines
returns-clause-lines g c =
    let none : into_iter_items c.loop-source.source-iterator ≡ [] =
    nil_from_length (into_iter_items c.loop-source.source-iterator) (sym c.loop-source.invariant.left ∙ c.in-None.ensures.steps.0) in
    let sources : into_iter_items c.into_iter-source-iterator.result ≡ c.args.sources.items =
    c.into_iter-source-iterator.ensures.into_iter_gives.0 in
    let so_far = rw (none, sources) at c.loop-source.invariant.opening in
    opening-all c.args.plan.now c.args.sources.items c.loop-source.lines.jobs.items c.loop-source.lines.from.items so_far
    c.requires.as_many

pub loop-source-init : goal.loop-source-init
loop-source-init g c = record {
  opening = opening-none c.args.plan.now (into_iter_items c.into_iter-source-iterator.result)
      c.new.result.items c.new-2.result.items c.new.ensures.items c.new-2.ensures.items;
  capacity = rw c.new.ensures.items (All-nil (λ job. job.out.capacity ≡ c.args.capacity));
  left = search rules;
}

pub peer-peer-requires : goal.peer-peer-requires
peer-peer-requires g c =
    let all : List g.row.S.Denot = into_iter_items c.into_iter-source-iterator.result in
    let sources : all ≡ c.args.sources.items = c.into_iter-source-iterator.ensures.into_iter_gives.0 in
    let left = sym c.loop-source.invariant.opening.left ∙ c.in-Some.ensures.steps.0 in
    let here = drop-front all (length c.loop-source.lines.jobs.items) c.in-Some.source (into_iter_items c.next.new.self) left in
    omega (
      arith,
      slice_get_within all (length c.loop-source.lines.jobs.items) c.in-Some.source here,
      ap length sources,
      c.requires.as_many,
      c.len.ensures,
      c.loop-source.lines.jobs.ok.0,
    )

pub open-requires : goal.open-requires
open-requires g c = c.requires.capacity
