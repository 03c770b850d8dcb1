use Rattle.std.proofs.Common.{◌≡◌, ap, subst, sym, ◌∙◌}
use Rattle.rs_mrt.specs.Source.{Advances}
use Rattle.rs_losses.specs.WithLosses.{ComesBy, Inferring, shown_by}
use Rattle.rs_mrt.specs.declared.losses.Losses.TheVariants.{Inferred}
use Rattle.rs_losses.proofs.ComesLemmas.{inferred-records, recorded-records}
use Rattle.rs_losses.proofs.with_losses.WithLossesSource.advance.Goals as goal

pub returns-in-Recorded-clause-records : goal.returns-in-Recorded-clause-records
returns-in-Recorded-clause-records g c =
    let S = g.S.Source in
    let b = c.self.inside in
    let old : Inferring g.row.S.Denot =
    record { source = b.source; losses = b.losses; followed = b.followed; put_in = b.put_in; left = b.left } in
    let new : Inferring g.row.S.Denot = record old { source = c.advance.new.self } in
    subst (λ (w : Inferring g.row.S.Denot). Advances (λ (v : Inferring g.row.S.Denot). ComesBy v.losses S.shows S.comes v) w new
    (shown_by new.losses S.shows new) c.advance.result) c.self.view_is
    (recorded-records S.shows S.comes old new c.advance.result c.in-Recorded.is c.in-Recorded.is c.advance.ensures.records)

pub returns-in-Inferred-clause-records : goal.returns-in-Inferred-clause-records
returns-in-Inferred-clause-records g c =
    let S = g.S.Source in
    let old = c.args.self.now in
    let is_old : old.losses ≡ Inferred = ap (λ (w : Inferring g.row.S.Denot). w.losses) (sym c.self.view_is) ∙ c.in-Inferred.is in
    inferred-records S.shows S.comes old c.go_on.new.self c.go_on.result is_old (c.go_on.ensures.losses ∙ is_old) c.go_on.ensures.records
