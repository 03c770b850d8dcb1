use Rattle.std.proofs.Common.{◌≡◌, ◌∙◌, sym, ap, subst, ℕ, List, length}
use Rattle.std.proofs.lemmas.List.{with_items_is}
use Rattle.rs_survey.specs.Joined.{AreSums, IsJoined}
use Rattle.rs_survey.specs.Tally.{TallyContent}
use Rattle.rs_survey.proofs.JoinLemmas.{joined_is}
use Rattle.rs_survey.proofs.tally.Tally.add_all.Goals as goal

pub returns : goal.returns
returns c =
    let one = c.args.self.now in
    let other = c.args.other.now in
    let inside = c.self.inside in
    let sums = c.add_counts.new.counts in
    let counts : c.deref_mut.result.now ≡ one.counts =
    c.deref_mut.ensures.value ∙ ap (λ (tally : TallyContent). tally.counts) c.self.view_is in
    let others : c.deref.result.now ≡ other.counts =
    c.deref.ensures.value ∙ ap (λ (tally : TallyContent). tally.counts) c.other.view_is in
    let are : AreSums one.counts other.counts sums =
    subst (λ (list : List ℕ). AreSums list other.counts sums) counts
    (subst (λ (list : List ℕ). AreSums c.deref_mut.result.now list sums) others c.add_counts.ensures.sums) in
    let len : length sums ≡ inside.counts.len =
    c.add_counts.ensures.count ∙ ap length c.deref_mut.ensures.value ∙ sym inside.counts.ok.0 in
    subst (λ (list : List ℕ). IsJoined one other (record { peers = inside.peers; counts = list }))
    (sym (with_items_is inside.counts sums len))
    (subst (λ (peers : ℕ). IsJoined one other (record { peers = peers; counts = sums }))
    (sym (ap (λ (tally : TallyContent). tally.peers) c.self.view_is)) (joined_is one other sums c.requires are))
