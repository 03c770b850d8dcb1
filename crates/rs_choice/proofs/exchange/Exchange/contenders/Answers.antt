use Rattle.std.proofs.Common.{◌≡◌, ◌∙◌, ◌<◌, sym, ap, subst, refl, arith, inl, length, take, ◌++◌, ◌+◌, ◌∷◌, [], Some, None}
use Rattle.std.specs.Prelude.{slice_get, IsTrue}
use Rattle.std.proofs.Math.Seq.{take-length}
use Rattle.std.proofs.lemmas.Bool.{and_parts}
use Rattle.std.proofs.lemmas.List.{append-nil, length_push}
use Rattle.std.proofs.lemmas.List.Elements.{All-push}
use Rattle.std.proofs.lemmas.Option.{slice_get_read}
use Rattle.rs_choice.specs.Clients.{candidates_among}
use Rattle.rs_choice.specs.Contenders.{Contends}
use Rattle.rs_choice.specs.declared.held_route.HeldRoute.{HeldRoute}
use Rattle.rs_choice.specs.Candidacy.{is_candidate, is_taken_in}
use Rattle.rs_choice.specs.Decision.{choice, standing_of}
use Rattle.rs_choice.specs.Eligibility.{is_eligible}
use Rattle.rs_choice.specs.Entrants.{chosen_of}
use Rattle.rs_choice.specs.Held.{sent_of_held, IsJudged}
use Rattle.rs_choice.specs.Sharing.{sents_at}
use Rattle.rs_choice.proofs.clients.ChosenLemmas.{chosen_push, sents_more, sents_push, within_at}
use Rattle.rs_choice.proofs.clients.ContenderLemmas.{fit_at, with_one, without_one}
use Rattle.rs_choice.proofs.Members.{mem-append_right}
use Rattle.rs_choice.proofs.exchange.Exchange.contenders.Goals as goal
use Rattle.rs_choice.proofs.exchange.Exchange.contenders.Goals.{in-Some, in_default}

pub bounds-held-place : goal.bounds-held-place
bounds-held-place c =
    within_at c.args.held.now c.args.places.now c.requires.candidates.within c.loop-number.number c.place-place.result
    c.place-place.ensures.value

pub contends-requires-clause-judged : goal.contends-requires-clause-judged
contends-requires-clause-judged c =
    let held = c.args.held.now in
    let within = within_at held c.args.places.now c.requires.candidates.within c.loop-number.number c.place-place.result
    c.place-place.ensures.value in
    subst (IsJudged c.args.self.now) (sym c.index-held-place.is)
    (c.requires.judged c.place-place.result c.index-held-place.result within)

pub contends-requires-clause-fit : goal.contends-requires-clause-fit
contends-requires-clause-fit c =
    let held = c.args.held.now in
    let places = c.args.places.now in
    let one = c.index-held-place.result in
    let place = c.place-place.result in
    let within : place < length held =
    within_at held places c.requires.candidates.within c.loop-number.number place c.place-place.ensures.value in
    let at : slice_get held place ≡ Some one = slice_get_read held (length held) place one (omega arith) within c.index-held-place.is in
    fit_at c.args.self.now c.args.client held places c.requires.candidates c.loop-number.number place one c.place-place.ensures.value at

pub loop-number-preserved : goal.loop-number-preserved
loop-number-preserved c =
    let plan = c.args.self.now in
    let held = c.args.held.now in
    let client = c.args.client in
    let one = c.index-held-place.result in
    let places = c.args.places.now in
    let i = c.loop-number.number in
    let place = c.place-place.result in
    let so_far = c.loop-number.contenders in
    let routes = sents_at held (take i places) in
    let within : place < length held = within_at held places c.requires.candidates.within i place c.place-place.ensures.value in
    let at : slice_get held place ≡ Some one = slice_get_read held (length held) place one (omega arith) within c.index-held-place.is in
    let more : sents_at held (take (i + 1) places) ≡ routes ++ sent_of_held one ∷ [] =
    sents_more held places i place one c.place-place.ensures.value at in
    let fit = fit_at plan c.args.client held places c.requires.candidates i place one c.place-place.ensures.value at in
    let judged = subst (IsJudged plan) (sym c.index-held-place.is) (c.requires.judged place one within) in
    let eligible =
    (and_parts (is_taken_in one.candidacy) (is_eligible plan one.peer one.attributes.value) (sym judged.candidate ∙ fit)).1 in
    elim c.match-contends.branch [
      | in-Some w ↦
          let contends : Contends plan client (sent_of_held one) c.loop-number.last (Some w.in-Some.standing) =
          subst (Contends plan client (sent_of_held one) c.loop-number.last) w.in-Some.is c.contends.ensures in
          let pushed = sents_push held so_far place one at in
          rw (w.contenders-is, w.last-is, w.push.ensures) (record {
            few = omega (arith, length_push so_far place, c.loop-number.invariant.few);
            places = All-push (λ place. place < length held) so_far place c.loop-number.invariant.places within;
            fit =
                rw (chosen_push held so_far place one at) (All-push (λ (one : HeldRoute). IsTrue (is_candidate one.candidacy))
                (chosen_of held so_far) one c.loop-number.invariant.fit fit);
            has_last =
                rw pushed (
                  sent_of_held one,
                  mem-append_right (sents_at held so_far) (sent_of_held one ∷ []) (sent_of_held one) (inl refl),
                  contends.1,
                );
            same = rw (pushed, more) (with_one plan client routes (sent_of_held one) (sents_at held so_far)
                c.loop-number.invariant.same eligible contends.0);
          })
      | in_default w ↦
          let contends_not : Contends plan client (sent_of_held one) c.loop-number.last None =
          subst (Contends plan client (sent_of_held one) c.loop-number.last) w.in_default.is c.contends.ensures in
          rw (w.contenders-is, w.last-is) (record {
            few = omega (arith, c.loop-number.invariant.few);
            places = c.loop-number.invariant.places;
            fit = c.loop-number.invariant.fit;
            has_last = c.loop-number.invariant.has_last;
            same = rw more (without_one plan client routes (sent_of_held one) (sents_at held so_far)
                c.loop-number.invariant.same c.loop-number.last c.loop-number.invariant.has_last contends_not);
          })
    ]

pub returns : goal.returns
returns c =
    let plan = c.args.self.now in
    let held = c.args.held.now in
    let places = c.args.places.now in
    let chosen = sents_at held c.loop-number.contenders in
    let end : c.loop-number.number ≡ length places =
    omega (arith, c.loop-number.auto.number-end, c.loop-number-test.false, c.len-number-end.ensures.value) in
    record {
      within = c.loop-number.invariant.places;
      fit = c.loop-number.invariant.fit;
      same = sym (ap (choice (standing_of plan)) (append-nil chosen))
          ∙ c.loop-number.invariant.same []
          ∙ ap (choice (standing_of plan)) (append-nil (candidates_among plan c.args.client
          (sents_at held (take c.loop-number.number places))))
          ∙ ap (λ list. choice (standing_of plan) (candidates_among plan c.args.client (sents_at held list)))
          (ap (λ n. take n places) end ∙ take-length places)
          ∙ ap (choice (standing_of plan)) c.requires.candidates.same;
    }
