use Rattle.std.proofs.Common.{◌≡◌, ◌<◌, Err, None, Ok, false, true, ap, subst, sym, ◌∙◌, arith}
use Rattle.std.proofs.lemmas.Result.{err_from_is_err_and}
use Rattle.rs_losses.specs.WithLosses.{GoesOn, Inferring, IsThere}
use Rattle.rs_losses.proofs.StepLemmas.{behind-goes-on, end-goes-on, fault-goes-on, full-goes-on, met-goes-on}
use Rattle.rs_losses.proofs.with_losses.WithLosses.go_on.Goals as goal

pub returns-then-self-eq0 : goal.returns-then-self-eq0
returns-then-self-eq0 g c =
    let S = g.S.Source in
    full-goes-on S.shows S.comes S.stopped S.failures S.full g.met.S.Source.may_come c.args.self.now
    (ap (λ (w : Inferring g.row.S.Denot). w.left) (sym c.self.view_is) ∙ c.if-self-eq0.true)

pub returns-then-self : goal.returns-then-self
returns-then-self g c =
    let S = g.S.Source in
    let old = c.args.self.now in
    let left : old.left ≡ c.self.inside.left = ap (λ (w : Inferring g.row.S.Denot). w.left) (sym c.self.view_is) in
    let some : 0 < old.left = omega (arith, left, c.if-self-eq0.false) in
    let put_in : old.put_in ≡ true = ap (λ (w : Inferring g.row.S.Denot). w.put_in) (sym c.self.view_is) ∙ c.if-self.true in
    let there : IsThere (S.shows old.source) =
    subst (λ (w : Inferring g.row.S.Denot). IsThere (S.shows w.source)) c.self.view_is (c.self.invariant.behind c.if-self.true) in
    let goes : S.stopped old.source ≡ None =
    subst (λ (w : Inferring g.row.S.Denot). S.stopped w.source ≡ None) c.self.view_is (c.self.invariant.goes_on c.if-self.true) in
    behind-goes-on S.shows S.comes S.stopped S.failures S.full g.met.S.Source.may_come old c.show_behind.new.self c.show_behind.result some
    put_in there goes c.show_behind.ensures.counts c.show_behind.ensures.answer

pub returns-in_err-advance : goal.returns-in_err-advance
returns-in_err-advance g c =
    let S = g.S.Source in
    let b = c.self.inside in
    let fault = c.in_err-advance.field-0.0 in
    let old : Inferring g.row.S.Denot =
    record { source = b.source; losses = b.losses; followed = b.followed; put_in = b.put_in; left = b.left } in
    let some : 0 < b.left = omega (arith, c.if-self-eq0.false) in
    let p = err_from_is_err_and c.from_residual.result c.from_residual.ensures.1 in
    let result : c.from_residual.result ≡ Err fault = p.1 ∙ ap (λ e. Err e) p.2 in
    rw result (subst (λ (w : Inferring g.row.S.Denot). GoesOn S.shows S.comes S.stopped S.failures S.full w
    (record old { source = c.advance.new.self }) (Err fault)) c.self.view_is
    (fault-goes-on S.shows S.comes S.stopped S.failures S.full g.met.S.Source.may_come old c.advance.new.self some c.if-self.false fault
    c.in_err-advance.ensures.records c.in_err-advance.ensures.failures c.in_err-advance.ensures.stays c.in_err-advance.ensures.stops))

pub returns-then-not-branch : goal.returns-then-not-branch
returns-then-not-branch g c =
    let S = g.S.Source in
    let b = c.self.inside in
    let old : Inferring g.row.S.Denot =
    record { source = b.source; losses = b.losses; followed = b.followed; put_in = b.put_in; left = b.left } in
    let some : 0 < b.left = omega (arith, c.if-self-eq0.false) in
    let ended = c.if-not-branch.true in
    subst (λ (w : Inferring g.row.S.Denot). GoesOn S.shows S.comes S.stopped S.failures S.full w
    (record old { source = c.advance.new.self }) (Ok false)) c.self.view_is
    (end-goes-on S.shows S.comes S.stopped S.failures S.full g.met.S.Source.may_come old c.advance.new.self some c.if-self.false
    (rw ended at c.in_ok-advance.ensures.records) c.in_ok-advance.ensures.failures
    (rw ended at c.in_ok-advance.ensures.stays) (rw ended at c.in_ok-advance.ensures.stops))

pub returns : goal.returns
returns g c =
    let S = g.S.Source in
    let b = c.self.inside in
    let old : Inferring g.row.S.Denot =
    record { source = b.source; losses = b.losses; followed = b.followed; put_in = b.put_in; left = b.left } in
    let some : 0 < b.left = omega (arith, c.if-self-eq0.false) in
    let more = c.if-not-branch.false in
    subst (λ (w : Inferring g.row.S.Denot). GoesOn S.shows S.comes S.stopped S.failures S.full w c.meet.new.self c.meet.result)
    c.self.view_is
    (met-goes-on S.shows S.comes S.stopped S.failures S.full g.met.S.Source.may_come old c.advance.new.self c.meet.new.self c.meet.result
    some c.if-self.false (rw more at c.in_ok-advance.ensures.records) c.in_ok-advance.ensures.failures
    (rw more at c.in_ok-advance.ensures.stays) (rw more at c.in_ok-advance.ensures.stops) c.meet.ensures.counts c.meet.ensures.answer)
