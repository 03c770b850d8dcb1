use Rattle.std.proofs.Common.{◌≡◌, ◌∙◌, sym, ap, arith, ℕ, List, length, take, Some, subst, rules}
use Rattle.std.specs.List.{All}
use Rattle.std.specs.Prelude.{slice_get, IsTrue}
use Rattle.std.proofs.Math.Seq.{take-length}
use Rattle.std.proofs.lemmas.List.Elements.{All-push}
use Rattle.std.proofs.lemmas.Option.{slice_get_read}
use Rattle.rs_choice.specs.Clients.{is_sent_to}
use Rattle.rs_choice.specs.Decision.{SentRoute}
use Rattle.rs_choice.specs.Held.{sent_of_held, IsJudged}
use Rattle.rs_choice.specs.Sharing.{sents_at}
use Rattle.rs_choice.proofs.clients.ChosenLemmas.{sents_more, within_at}
use Rattle.rs_choice.proofs.exchange.Exchange.are_permitted.Goals as goal

pub bounds-held-place : goal.bounds-held-place
bounds-held-place c =
    within_at c.args.held.now c.args.places.now c.requires.places c.loop-number.number c.place.result c.place.ensures.value

pub permits_held-requires-clause-judged : goal.permits_held-requires-clause-judged
permits_held-requires-clause-judged c =
    let held = c.args.held.now in
    let within = within_at held c.args.places.now c.requires.places c.loop-number.number c.place.result c.place.ensures.value in
    subst (IsJudged c.args.self.now) (sym c.index-held-place.is) (c.requires.judged c.place.result c.index-held-place.result within)

pub loop-number-preserved : goal.loop-number-preserved
loop-number-preserved c =
    let held = c.args.held.now in
    let places = c.args.places.now in
    let i = c.loop-number.number in
    let one = c.index-held-place.result in
    let place = c.place.result in
    let within = within_at held places c.requires.places i place c.place.ensures.value in
    let at : slice_get held place ≡ Some one = slice_get_read held (length held) place one (omega arith) within c.index-held-place.is in
    let permitted : IsTrue (is_sent_to c.args.self.now c.args.client (sent_of_held one)) =
    sym c.permits_held.ensures ∙ c.if-not-permits_held.false in
    let test = λ (sent : SentRoute). IsTrue (is_sent_to c.args.self.now c.args.client sent) in
    subst (All test) (sym (sents_more held places i place one c.place.ensures.value at))
    (All-push test (sents_at held (take i places)) (sent_of_held one) c.loop-number.invariant permitted)

pub returns : goal.returns
returns c =
    let places = c.args.places.now in
    let end : c.loop-number.number ≡ length places =
    omega (arith, c.loop-number.auto.number-end, c.loop-number-test.false, c.len-number-end.ensures.value) in
    λ answered. subst (λ (list : List ℕ). All (λ sent. IsTrue (is_sent_to c.args.self.now c.args.client sent))
    (sents_at c.args.held.now list))
    (ap (λ n. take n places) end ∙ take-length places) c.loop-number.invariant

pub loop-number-init : goal.loop-number-init
loop-number-init c = search rules

pub loop-number-smaller : goal.loop-number-smaller
loop-number-smaller c = search rules

pub returns-then-not-permits_held : goal.returns-then-not-permits_held
returns-then-not-permits_held c = search rules
