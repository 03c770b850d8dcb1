-- What each thread heard of its recording is what is gathered.
use Rattle.std.proofs.Common.{◌≡◌, ◌∙◌, ◌<◌, refl, sym, subst, arith, rules, length, get_or}
use Rattle.std.specs.Prelude.{IfErr, IfOk}
use Rattle.std.proofs.lemmas.Option.{get_or_from_slice_get, slice_get_read, slice_get_within}
use Rattle.std.proofs.lemmas.Result.{IfErr-weaker, IfOk-weaker}
use Rattle.rs_glass.specs.Heard.{AreRecordings}
use Rattle.rs_glass.specs.Recorded.{IsFaultOf, IsSaidOf}
use Rattle.rs_glass.proofs.RecordingLemmas.{AreHeardOf, HeardOf, all-said, fault-met, heard-of}
use Rattle.rs_glass.proofs.reading.read_sessions.Goals.{After-gather}
use Rattle.rs_glass.proofs.reading.read_sessions.Goals as goal

as_many : (g : _) (c : After-gather g) → length c.in_ok-heard.heard.items ≡ length c.in_ok-all.all.items
as_many g c = sym c.in_ok-heard.heard.ok.0 ∙ c.in_ok-heard.ensures.len ∙ c.in_ok-all.all.ok.0

recorded : (g : _) (c : After-gather g) → AreRecordings c.args.plan.now.value c.args.sources.items c.in_ok-all.all.items
recorded g c = rw c.deref.ensures at c.in_ok-all.ensures.each

heard_of : (g : _) (c : After-gather g) → AreHeardOf g.S.Source.comes g.S.Source.shows c.args.question.now c.args.plan.now.value
    c.args.sources.items c.in_ok-all.all.items c.in_ok-heard.heard.items
heard_of g c number r at =
    let jobs = c.in_ok-all.all.items in
    let all = c.in_ok-heard.heard.items in
    let below : number < length jobs = omega (arith, slice_get_within all number r at, as_many g c) in
    let k = (c.in_ok-heard.ensures.each number r below).1 in
    let met = k.call.met in
    let says : IfOk (get_or all number r) (λ heard. IsSaidOf g.S.Source.comes g.S.Source.shows c.args.question.now k.job.id k.job.source
    heard.routes heard.said) = search rules in
    let fault : IfErr (get_or all number r) (IsFaultOf g.S.Source.comes g.S.Source.shows c.args.question.now k.job.id k.job.source
    k.job.peer) = search rules in (
      k.job,
      slice_get_read jobs (length jobs) number k.job refl below k.job_read,
      subst (HeardOf g.S.Source.comes g.S.Source.shows c.args.question.now k.job) (get_or_from_slice_get all number r r at)
          (heard-of g.S.Source.comes g.S.Source.shows c.args.question.now k.job (get_or all number r) says fault),
    )

pub returns-clause-says : goal.returns-clause-says
returns-clause-says g c =
    IfOk-weaker c.gather.result _ _ (λ reading held.
    all-said g.S.Source.comes g.S.Source.shows c.args.question.now c.args.plan.now.value c.args.sources.items c.in_ok-all.all.items
    c.in_ok-heard.heard.items (recorded g c) (heard_of g c) reading.tables reading.said.items (as_many g c ∙ c.in_ok-all.ensures.as_many)
    held) c.gather.ensures.heard

pub returns-clause-fault : goal.returns-clause-fault
returns-clause-fault g c =
    IfErr-weaker c.gather.result _ _
    (fault-met g.S.Source.comes g.S.Source.shows c.args.question.now c.args.plan.now.value c.args.sources.items c.in_ok-all.all.items
    c.in_ok-heard.heard.items (recorded g c) (heard_of g c)) c.gather.ensures.fault
