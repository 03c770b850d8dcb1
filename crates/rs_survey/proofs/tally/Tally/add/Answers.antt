use Rattle.std.proofs.Common.{◌≡◌, ◌∙◌, ◌+◌, ◌∷◌, [], ◌++◌, ap, sym, subst, min, get_or}
use Rattle.std.proofs.Math.ListN.{set}
use Rattle.std.proofs.lemmas.List.{get_or_default}
use Rattle.rs_survey.specs.Tally.{IsTally, TallyContent, most}
use Rattle.rs_survey.proofs.TallyLemmas.{counts_one_more}
use Rattle.rs_survey.proofs.tally.Tally.add.Goals as goal

pub returns : goal.returns
returns c =
    let before = c.args.self.now in
    let place = c.place-place.result in
    let value = c.saturating_add.result in
    let inside = c.self.inside.counts.items in
    let is = c.self.view_is in
    let counts : inside ≡ before.counts = ap (λ (tally : TallyContent). tally.counts) is in
    let read : c.index.result.now ≡ get_or before.counts place 0 =
    c.index.ensures ∙ ap (λ list. get_or list place c.index.result.now) counts
    ∙ get_or_default before.counts place c.index.result.now 0 c.place-place.ensures.within in
    let sum : value ≡ min (get_or before.counts place 0 + 1) most = c.saturating_add.ensures ∙ ap (λ n. min (n + 1) most) read in
    record {
      peers = ap (λ (tally : TallyContent). tally.peers) is;
      counts = λ findings counted.
          subst (λ (tally : TallyContent). IsTally (record { peers = tally.peers; counts = set tally.counts place value })
          (findings ++ c.args.finding ∷ [])) (sym is)
          (counts_one_more before findings c.args.finding place value c.place-place.ensures.value c.place-place.ensures.within sum
          c.requires counted);
    }
