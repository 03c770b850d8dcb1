use Rattle.std.proofs.Common.{◌≡◌, ◌∙◌, ◌<◌, sym, ap, subst, arith, length, map}
use Rattle.std.specs.List.{All}
use Rattle.rs_choice.specs.declared.candidate.Candidate.{Candidate}
use Rattle.rs_choice.specs.Decision.{choice, member_at, standing_of_candidate}
use Rattle.rs_survey.specs.Seen.{candidate_of_seen}
use Rattle.rs_survey.proofs.HiddenLemmas.{all_known, few_fit, fit, shared_by_all, shared_known}
use Rattle.rs_survey.proofs.hidden.shared_choice.Goals as goal

pub choose_by_groups-place-requires-clause-known : goal.choose_by_groups-place-requires-clause-known
choose_by_groups-place-requires-clause-known c =
    subst (All (λ (one : Candidate). one.peer < length c.args.plan.now.peers)) (sym (c.deref.ensures.value ∙ c.in_ok-eligible.ensures))
    (all_known c.args.plan.now c.args.seen.now c.requires.seen)

pub choose_by_groups-place-requires-clause-bound : goal.choose_by_groups-place-requires-clause-bound
choose_by_groups-place-requires-clause-bound c =
    omega (arith, few_fit c.args.seen.now, ap length (c.deref.ensures.value ∙ c.in_ok-eligible.ensures))

pub returns-clause-known : goal.returns-clause-known
returns-clause-known c =
    let eligible : c.in_ok-eligible.eligible.items ≡ map candidate_of_seen (fit c.args.seen.now) = c.in_ok-eligible.ensures in
    let standing = standing_of_candidate c.args.plan.now in
    let chosen : c.member.result ≡ choice standing (map candidate_of_seen (fit c.args.seen.now)) =
    c.member.ensures ∙ ap (λ list. member_at list c.choose_by_groups-place.result) (c.deref-2.ensures.value ∙ sym c.deref.ensures.value)
    ∙ c.choose_by_groups-place.ensures.member ∙ ap (choice standing) (c.deref.ensures.value ∙ eligible) in
    shared_known c.args.plan.now c.args.seen.now c.member.result c.requires.seen chosen

pub returns-clause-sent : goal.returns-clause-sent
returns-clause-sent c =
    let eligible : c.in_ok-eligible.eligible.items ≡ map candidate_of_seen (fit c.args.seen.now) = c.in_ok-eligible.ensures in
    let standing = standing_of_candidate c.args.plan.now in
    let chosen : c.member.result ≡ choice standing (map candidate_of_seen (fit c.args.seen.now)) =
    c.member.ensures ∙ ap (λ list. member_at list c.choose_by_groups-place.result) (c.deref-2.ensures.value ∙ sym c.deref.ensures.value)
    ∙ c.choose_by_groups-place.ensures.member ∙ ap (choice standing) (c.deref.ensures.value ∙ eligible) in
    λ client. shared_by_all c.args.plan.now c.args.seen.now client c.member.result c.requires.seen chosen
