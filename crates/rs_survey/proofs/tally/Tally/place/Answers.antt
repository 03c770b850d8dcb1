use Rattle.std.proofs.Common.{◌≡◌, ◌∙◌, ◌<◌, sym, ap, subst, ℕ, length}
use Rattle.rs_survey.specs.declared.finding.Key.{Key}
use Rattle.rs_survey.specs.Findings.{IsKnown, key_of}
use Rattle.rs_survey.specs.Tally.{TallyContent, digits, place_in, room_for}
use Rattle.rs_survey.proofs.TallyLemmas.{place_within}
use Rattle.rs_survey.proofs.tally.Tally.place.Goals as goal

pub returns-clause-within : goal.returns-clause-within
returns-clause-within c =
    let before = c.args.self.now in
    let peers = c.self.inside.peers in
    let is = c.self.view_is in
    let same : peers ≡ before.peers = ap (λ (tally : TallyContent). tally.peers) is in
    let known : IsKnown peers c.args.finding = subst (λ (p : ℕ). IsKnown p c.args.finding) (sym same) c.requires in
    let room : room_for (digits peers) ≡ length before.counts =
    sym c.self.invariant.room ∙ ap (λ (tally : TallyContent). length tally.counts) is in
    subst (λ (key : Key). place_in (digits peers) key < length before.counts) (sym c.key-key.ensures)
    (subst (λ (n : ℕ). place_in (digits peers) (key_of c.args.finding) < n) room (place_within peers c.args.finding known))
