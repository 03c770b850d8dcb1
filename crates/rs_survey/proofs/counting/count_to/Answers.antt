use Rattle.std.proofs.Common.{◌∙◌, sym, map, subst}
use Rattle.rs_survey.specs.Grows.{Grows}
use Rattle.rs_survey.specs.Seen.{sent_of_seen}
use Rattle.rs_survey.proofs.CountLemmas.{candidate_is, differs, failed_seen, nothing_ineligible, nothing_own, refused_is}
use Rattle.rs_survey.proofs.GrowthLemmas.{grows_none}
use Rattle.rs_survey.proofs.counting.count_to.Goals as goal

pub returns-then-client-sender : goal.returns-then-client-sender
returns-then-client-sender c =
    subst (Grows c.args.tally.now c.args.tally.now)
    (sym (nothing_own c.args.plan.now (map sent_of_seen c.args.seen.now) c.args.client
    (sent_of_seen c.args.one.now) c.if-client-sender.true))
    (grows_none c.args.tally.now)

pub returns-then-is_some : goal.returns-then-is_some
returns-then-is_some c =
    subst (Grows c.args.tally.now c.args.tally.now)
    (sym (nothing_ineligible c.args.plan.now (map sent_of_seen c.args.seen.now) c.args.client (sent_of_seen c.args.one.now)
    (failed_seen c.args.plan.now c.args.one.now c.requires.one ∙ sym c.is_some.ensures ∙ c.if-is_some.true)))
    (grows_none c.args.tally.now)

pub returns-then-not-permits : goal.returns-then-not-permits
returns-then-not-permits c =
    subst (Grows c.args.tally.now c.add.new.self)
    (sym (refused_is c.args.plan.now (map sent_of_seen c.args.seen.now) c.args.client (sent_of_seen c.args.one.now)
    (differs c.args.client c.args.one.now.route.peer c.if-client-sender.false)
    (failed_seen c.args.plan.now c.args.one.now c.requires.one ∙ sym c.is_some.ensures ∙ c.if-is_some.false)
    (sym c.permits.ensures ∙ c.if-not-permits.true)))
    c.add.ensures

pub returns : goal.returns
returns c =
    subst (Grows c.args.tally.now c.count_candidate.new.tally)
    (sym (candidate_is c.args.plan.now (map sent_of_seen c.args.seen.now) c.args.client (sent_of_seen c.args.one.now)
    (differs c.args.client c.args.one.now.route.peer c.if-client-sender.false)
    (failed_seen c.args.plan.now c.args.one.now c.requires.one ∙ sym c.is_some.ensures ∙ c.if-is_some.false)
    (sym c.permits.ensures ∙ c.if-not-permits.false)))
    c.count_candidate.ensures
