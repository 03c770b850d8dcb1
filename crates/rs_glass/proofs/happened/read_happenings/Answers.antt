-- What each thread listed of its recording, one peer after another; in the end all are sorted by time.
use Rattle.std.proofs.Common.{◌≡◌, ◌+◌, ◌<◌, [], ◌∷◌, ◌++◌, length, length-append, get_or, refl, sym, ap, ◌∙◌, arith, rules}
use Rattle.std.specs.Prelude.{IfErr, IfOk}
use Rattle.std.proofs.lemmas.Fn.{always_returns_same}
use Rattle.std.proofs.lemmas.Iterator.Adapters.{YieldsList-from_vec}
use Rattle.std.proofs.lemmas.Iterator.Consumers.{YieldsList-turn, YieldsList-end}
use Rattle.std.proofs.lemmas.List.{map-append}
use Rattle.std.proofs.lemmas.Option.{slice_get_read}
use Rattle.std.proofs.lemmas.Result.{IfErr-at_err, IfOk-at_ok, err_from_is_err_and}
use Rattle.rs_glass.specs.Happened.{AreHappeningsOf, contents_of, happening_content, ordered_by}
use Rattle.rs_glass.specs.Recorded.{IsFaultOf}
use Rattle.rs_glass.proofs.HappenedLemmas.{listed-none, listed-recorded}
use Rattle.rs_glass.proofs.RecordingLemmas.{fault-recorded}
use Rattle.rs_glass.proofs.happened.read_happenings.Goals as goal

pub loop-list-init : goal.loop-list-init
loop-list-init g c =
    rw c.new-all.ensures.items (listed-none g.S.Source.comes g.S.Source.shows c.args.question.now c.args.plan.now c.args.sources.items)

pub loop-list-preserved : goal.loop-list-preserved
loop-list-preserved g c =
    let jobs = c.in_ok-jobs.jobs.items in
    let lists = c.in_ok-lists.lists.items in
    let count = length c.loop-list.yielded in
    let gives = c.into_iter-list-iterator.ensures.into_iter_gives in
    let all = YieldsList-from_vec lists gives.0 (gives.1 ∙ c.in_ok-lists.lists.ok.0) in
    let t = YieldsList-turn all c.loop-list.yielded c.loop-list.list-iterator c.loop-list.yielded_by c.next.result c.next.new.self
    c.in-Some.list c.in-Some.is c.next.ensures.steps in
    let as_many : length lists ≡ length jobs = sym c.in_ok-lists.lists.ok.0 ∙ c.in_ok-lists.ensures.len ∙ c.in_ok-jobs.jobs.ok.0 in
    let below : count < length jobs = omega (arith, t.0, as_many) in
    let k = (c.in_ok-lists.ensures.each count c.in-Some.list below).1 in
    let met = k.call.met in
    let says : IfOk (get_or lists count c.in-Some.list) (λ listed. AreHappeningsOf g.S.Source.comes g.S.Source.shows c.args.question.now
    k.job.id k.job.source k.job.peer listed.items) = search rules in
    let is = c.in_ok-jobs.ensures.each count k.job (slice_get_read jobs (length jobs) count k.job refl below k.job_read) in
    let happened : AreHappeningsOf g.S.Source.comes g.S.Source.shows c.args.question.now k.job.id k.job.source k.job.peer
    c.in_ok-listed.listed.items = IfOk-at_ok _ (sym t.1 ∙ c.in_ok-listed.was) says in
    let grown : length (c.loop-list.yielded ++ c.in-Some.list ∷ []) ≡ count + 1 = length-append c.loop-list.yielded (c.in-Some.list ∷ []) in
    let appended : c.append.new.self.items ≡ c.loop-list.all.items ++ c.in_ok-listed.listed.items = search rules in
    let adds = ap contents_of appended ∙ map-append happening_content c.loop-list.all.items c.in_ok-listed.listed.items in
    rw grown (listed-recorded g.S.Source.comes g.S.Source.shows c.args.question.now c.args.plan.now c.args.sources.items count k.job
    c.in_ok-listed.listed.items (contents_of c.loop-list.all.items) (contents_of c.append.new.self.items)
    c.loop-list.invariant is happened adds)

pub returns-clause-happenings : goal.returns-clause-happenings
returns-clause-happenings g c =
    let lists = c.in_ok-lists.lists.items in
    let gives = c.into_iter-list-iterator.ensures.into_iter_gives in
    let all = YieldsList-from_vec lists gives.0 (gives.1 ∙ c.in_ok-lists.lists.ok.0) in
    let t = YieldsList-end all c.loop-list.yielded c.loop-list.list-iterator c.loop-list.yielded_by c.next.result c.next.new.self
    c.in-None.is c.next.ensures.steps in
    let as_many = sym c.in_ok-lists.lists.ok.0 ∙ c.in_ok-lists.ensures.len ∙ c.in_ok-jobs.jobs.ok.0 ∙ c.in_ok-jobs.ensures.as_many in
    let r = c.loop-list.invariant in
    record {
      files = r.files;
      as_many = r.as_many ∙ t.1 ∙ as_many;
      each = r.each;
      unsorted = c.loop-list.all.items;
      says = r.says;
      permutation = c.in_ok-sort_by_key.ensures.permutation;
      sorted = c.in_ok-sort_by_key.ensures.sorted (λ one. ordered_by one) (always_returns_same _ _ _ (λ a r q k. search rules));
      stable = c.in_ok-sort_by_key.ensures.stable (λ one. ordered_by one) (always_returns_same _ _ _ (λ a r q k. search rules));
    }

pub returns-in_err-listed-clause-fault : goal.returns-in_err-listed-clause-fault
returns-in_err-listed-clause-fault g c =
    let jobs = c.in_ok-jobs.jobs.items in
    let lists = c.in_ok-lists.lists.items in
    let count = length c.loop-list.yielded in
    let gives = c.into_iter-list-iterator.ensures.into_iter_gives in
    let all = YieldsList-from_vec lists gives.0 (gives.1 ∙ c.in_ok-lists.lists.ok.0) in
    let t = YieldsList-turn all c.loop-list.yielded c.loop-list.list-iterator c.loop-list.yielded_by c.next.result c.next.new.self
    c.in-Some.list c.in-Some.is c.next.ensures.steps in
    let as_many : length lists ≡ length jobs = sym c.in_ok-lists.lists.ok.0 ∙ c.in_ok-lists.ensures.len ∙ c.in_ok-jobs.jobs.ok.0 in
    let below : count < length jobs = omega (arith, t.0, as_many) in
    let k = (c.in_ok-lists.ensures.each count c.in-Some.list below).1 in
    let met = k.call.met in
    let fault : IfErr (get_or lists count c.in-Some.list) (IsFaultOf g.S.Source.comes g.S.Source.shows c.args.question.now k.job.id
    k.job.source k.job.peer) = search rules in
    let is = c.in_ok-jobs.ensures.each count k.job (slice_get_read jobs (length jobs) count k.job refl below k.job_read) in
    let here : IsFaultOf g.S.Source.comes g.S.Source.shows c.args.question.now k.job.id k.job.source k.job.peer c.in_err-listed.field-0.0 =
    IfErr-at_err _ (sym t.1 ∙ c.in_err-listed.was) fault in
    let p = err_from_is_err_and c.from_residual-in_err-listed.result c.from_residual-in_err-listed.ensures.1 in
    rw (p.1, p.2) (fault-recorded g.S.Source.comes g.S.Source.shows c.args.question.now c.args.plan.now c.args.sources.items count k.job is
    c.in_err-listed.field-0.0 here)
