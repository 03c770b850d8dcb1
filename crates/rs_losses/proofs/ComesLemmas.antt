-- What may come of a source with losses, by which losses are read: for with_losses.rt.
use Rattle.std.proofs.Common.{◌≡◌, true, false, Bool, List, [], ◌∷◌, Option, Some, None, Result, Ok, Err}
use Rattle.std.proofs.Common.{ap, subst, sym, ◌∙◌}
use Rattle.rs_mrt.specs.declared.fault.SourceFault.{SourceFault}
use Rattle.rs_mrt.specs.Record.{MrtRecord}
use Rattle.rs_mrt.specs.Source.{Advances}
use Rattle.rs_mrt.specs.RecordReading.{read_limit}
use Rattle.rs_losses.specs.Laws.{IsSought}
use Rattle.rs_losses.specs.WithLosses.{ComesBy, ComesFirst, ComesInferred, Inferring, end_within, shown_by, shown_of, unbegun, within}
use Rattle.rs_mrt.specs.declared.losses.Losses.{Losses}
use Rattle.rs_mrt.specs.declared.losses.Losses.TheVariants as losses
use Rattle.rs_losses.specs.declared.losses.Sought.{Sought}
use Rattle.rs_losses.proofs.LawLemmas.{shown-law}

-- ---- by which losses are read

module _ {S : Type 0} (shows : S → Option MrtRecord) (comes : S → List MrtRecord → Option SourceFault → Type 0) where
  -- only recorded ones
  at-source : (old new : Inferring S) (shown : Option MrtRecord) (result : Result Bool SourceFault)
      → Advances comes old.source new.source shown result → Advances (λ (w : Inferring S). comes w.source) old new shown result
  at-source old new (Some r) (Ok true) advances = advances
  at-source old new None (Ok true) advances = advances
  at-source old new (Some r) (Ok false) advances = advances
  at-source old new None (Ok false) advances = advances
  at-source old new (Some r) (Err fault) advances = advances
  at-source old new None (Err fault) advances = advances

  module _ (by : Losses) (old new : Inferring S) (is_old : old.losses ≡ by) (is_new : new.losses ≡ by) where
    abbrev Comes : Inferring S → List MrtRecord → Option SourceFault → Type 0
    Comes w = ComesBy w.losses shows comes w

    from-by : (records : List MrtRecord) (end : Option SourceFault) → Comes new records end → ComesBy by shows comes new records end
    from-by records end come = subst (λ (l : Losses). ComesBy l shows comes new records end) is_new come

    into-by : (records : List MrtRecord) (end : Option SourceFault) → ComesBy by shows comes old records end → Comes old records end
    into-by records end come = subst (λ (l : Losses). ComesBy l shows comes old records end) (sym is_old) come

    records-by : (shown : Option MrtRecord) (result : Result Bool SourceFault)
        → Advances (λ (w : Inferring S). ComesBy by shows comes w) old new shown result → Advances Comes old new shown result
    records-by (Some r) (Ok true) advances = λ later end come. into-by (r ∷ later) end (advances later end (from-by later end come))
    records-by None (Ok true) advances = advances
    records-by (Some r) (Ok false) advances = (advances.0, into-by [] None advances.1)
    records-by None (Ok false) advances = (advances.0, into-by [] None advances.1)
    records-by (Some r) (Err fault) advances = (advances.0, into-by [] (Some fault) advances.1)
    records-by None (Err fault) advances = (advances.0, into-by [] (Some fault) advances.1)

    by-records : (result : Result Bool SourceFault)
        → Advances (λ (w : Inferring S). ComesBy by shows comes w) old new (shown_by by shows new) result
        → Advances (λ (w : Inferring S). ComesBy w.losses shows comes w) old new (shown_by new.losses shows new) result
    by-records result advances =
        records-by (shown_by new.losses shows new) result
        (subst (λ (s : Option MrtRecord). Advances (λ (w : Inferring S). ComesBy by shows comes w) old new s result)
        (sym (ap (λ (l : Losses). shown_by l shows new) is_new)) advances)

  pub recorded-records : (old new : Inferring S) (result : Result Bool SourceFault) → old.losses ≡ losses.Recorded
      → new.losses ≡ losses.Recorded → Advances comes old.source new.source (shows new.source) result
      → Advances (λ (w : Inferring S). ComesBy w.losses shows comes w) old new (shown_by new.losses shows new) result
  recorded-records old new result is_old is_new advances =
      by-records losses.Recorded old new is_old is_new result (at-source old new (shows new.source) result advances)

  pub inferred-records : (old new : Inferring S) (result : Result Bool SourceFault) → old.losses ≡ losses.Inferred
      → new.losses ≡ losses.Inferred → Advances (ComesInferred shows comes) old new (shown_of shows new) result
      → Advances (λ (w : Inferring S). ComesBy w.losses shows comes w) old new (shown_by new.losses shows new) result
  inferred-records old new result is_old is_new advances = by-records losses.Inferred old new is_old is_new result advances

-- ---- the first record

pub comes-first : {S : Type 0} (by : Losses) (who : Sought) (shows : S → Option MrtRecord)
    (comes : S → List MrtRecord → Option SourceFault → Type 0) (source : S) (records : List MrtRecord) (end : Option SourceFault)
    → IsSought who → ComesBy by shows comes (unbegun source by who) records end → ComesFirst by who (comes source) records end
comes-first losses.Recorded who shows comes source records end fits come = come
comes-first losses.Inferred who shows comes source records end fits come =
    let same = shown-law who come.all fits in
    record {
      all = come.all;
      last = come.last;
      given = come.given;
      cut = come.cut ∙ ap (within read_limit) same;
      ends = come.ends ∙ ap (λ (rs : List MrtRecord). end_within read_limit rs come.last) same;
    }
