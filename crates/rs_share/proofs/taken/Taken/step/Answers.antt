use Rattle.rs_share.proofs.TakingLemmas.{goes-of, has-next, none-left, stands-at, steps-none, steps-end, steps-next}
use Rattle.std.proofs.Common.{◌≤◌, Some, ap, ◌∙◌, length, arith, refl}
use Rattle.std.specs.Prelude.{slice_get}
use Rattle.rtrb.specs.Ring.{received}
use Rattle.rs_share.specs.Taking.{Taking, shown_in, stopped_by}
use Rattle.std.specs.Option.{option_map}
use Rattle.rs_share.specs.Batches.{Heard}
use Rattle.rs_share.proofs.taken.Taken.step.Goals as goal

pub invariant_of-self : goal.invariant_of-self
invariant_of-self g c =
    let b = c.self.inside in
    let st = stands-at (slice_get b.batch b.at) c.others-self-inside.result c.others-self-inside.ensures in
    has-next g.S.Source.comes g.S.Source.room b.source.value b.peer (received b.parts) b.batch b.at b.last c.self.invariant st.0 st.1

pub returns-then-at-len : goal.returns-then-at-len
returns-then-at-len g c =
    let b = c.self.inside in
    let st = stands-at (slice_get b.batch b.at) c.others-self-inside.result c.others-self-inside.ensures in
    goes-of g.S.Source.comes g.S.Source.room c.self.view_is refl refl
    (steps-next g.S.Source.comes g.S.Source.room b.source.value b.peer (received b.parts) b.batch b.at b.last c.self.invariant
    st.0 c.others-self-inside.result (shown_in b.batch b.shown) (shown_in b.batch (Some b.at)) b.others (stopped_by b.stopped) st.1 st.2
    (ap (option_map (λ (h : Heard). h.own)) st.1) (ap (λ (t : Taking g.row.S.Denot). t.stopped) c.self.view_is ∙ c.requires))

pub returns-in_err-last : goal.returns-in_err-last
returns-in_err-last g c =
    let b = c.self.inside in
    let past : length b.batch ≤ b.at = omega (arith, c.len.ensures, c.if-at-len.false) in
    let left = none-left g.S.Source.comes g.S.Source.room b.source.value b.peer (received b.parts) b.batch b.at b.last
    c.self.invariant c.in_err-last.was past in
    steps-none g.S.Source.comes g.S.Source.room c.self.view_is c.from_residual.ensures left

pub returns : goal.returns
returns g c =
    let b = c.self.inside in
    let past : length b.batch ≤ b.at = omega (arith, c.len.ensures, c.if-at-len.false) in
    goes-of g.S.Source.comes g.S.Source.room c.self.view_is c.stop.ensures.stopped c.stop.ensures.answer
    (steps-end g.S.Source.comes g.S.Source.room b.source.value b.peer (received b.parts) b.batch b.at b.last c.self.invariant
    c.in_ok-last.last (shown_in b.batch b.shown) b.others (stopped_by b.stopped) c.in_ok-last.was past
    (ap (λ (t : Taking g.row.S.Denot). t.stopped) c.self.view_is ∙ c.requires))
