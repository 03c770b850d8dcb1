use Rattle.std.proofs.Common.{◌≡◌, ◌∙◌, ◌<◌, sym, ap, arith, filter, length, take, ◌++◌, ◌∷◌, [], Some, rules}
use Rattle.std.specs.Prelude.{slice_get}
use Rattle.std.proofs.lemmas.List.{append-nil, length_push}
use Rattle.std.proofs.lemmas.List.Elements.{All-push}
use Rattle.std.proofs.lemmas.Option.{slice_get_read}
use Rattle.rs_choice.specs.declared.held_route.HeldRoute.{HeldRoute}
use Rattle.rs_choice.specs.Candidacy.{is_candidate}
use Rattle.rs_choice.proofs.clients.ChosenLemmas.{chosen_push, take_one_more}
use Rattle.rs_choice.proofs.decision.BehindLemmas.{filter_with, filter_without}
use Rattle.rs_choice.proofs.clients.fit.Goals as goal
use Rattle.rs_choice.proofs.clients.fit.Goals.{then-is_candidate, else-is_candidate}

pub loop-place-preserved : goal.loop-place-preserved
loop-place-preserved c =
    let held = c.args.held.now in
    let one = c.index-held-place.result in
    let i = c.loop-place.place in
    let so_far = c.loop-place.fit in
    let at : slice_get held i ≡ Some one = slice_get_read held (length held) i one (omega arith) (omega arith) c.index-held-place.is in
    let fit = λ (one : HeldRoute). is_candidate one.candidacy in
    let more = ap (filter fit) (take_one_more held i one at) in
    elim c.if-is_candidate.branch [
      | then-is_candidate w ↦
          let passes = ap fit c.index-held-place.is ∙ sym c.is_candidate.ensures ∙ w.if-is_candidate.true in
          rw (w.fit-is, w.push.ensures) (record {
            few = omega (arith, length_push so_far i, c.loop-place.invariant.few);
            places = All-push (λ place. place < length held) so_far i c.loop-place.invariant.places (omega arith);
            fit = chosen_push held so_far i one at ∙ ap (λ list. list ++ one ∷ []) c.loop-place.invariant.fit
                ∙ sym (more ∙ filter_with fit (take i held) [] one passes);
          })
      | else-is_candidate w ↦
          let fails = ap fit c.index-held-place.is ∙ sym c.is_candidate.ensures ∙ w.if-is_candidate.false in
          rw w.fit-is (record {
            few = omega (arith, c.loop-place.invariant.few);
            places = c.loop-place.invariant.places;
            fit = c.loop-place.invariant.fit
                ∙ sym (more ∙ filter_without fit (take i held) [] one fails
                ∙ ap (filter fit) (append-nil (take i held)));
          })
    ]

pub loop-place-init : goal.loop-place-init
loop-place-init c = search rules

pub loop-place-smaller : goal.loop-place-smaller
loop-place-smaller c = search rules

pub returns-clause-places : goal.returns-clause-places
returns-clause-places g c = search rules
