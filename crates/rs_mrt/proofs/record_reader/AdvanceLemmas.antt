-- What going on to the next record says to those who see a source of records: for `advance` of record_reader.rt.
use Rattle.std.proofs.Common.{◌≡◌, ℕ, ◌+◌, ◌-◌, ◌≤◌, min, drop, take, List, [], ◌∷◌, ◌++◌, length, Option, Some, None, Result, Ok, Err}
use Rattle.std.proofs.Common.{Bool, true, false, inl, inr, refl, sym, ap, subst, ◌∙◌, arith, length-append}
use Rattle.std.proofs.lemmas.List.{length-take}
use Rattle.rs_mrt.specs.declared.fault.SourceFault.{SourceFault}
use Rattle.rs_mrt.specs.Reader.{ReadEnd, SomethingIsGiven}
use Rattle.rs_mrt.specs.Record.{MrtRecord, octets_of, length_field, has_record, front_record}
use Rattle.rs_mrt.specs.Entry.{front_len, front_of}
use Rattle.rs_mrt.specs.Source.{Advances}
use Rattle.rs_mrt.specs.RecordReading.{MayArrive, MayBeShown, MayCome, RecordReading, ComesUnless, read_limit, room_left}
use Rattle.rs_mrt.specs.Inflow.{FindsRecord, FindsNone, FindsEnd, GoesOn}
use Rattle.rs_mrt.proofs.record.RecordLemmas.{length-after_record, has_record-long}
use Rattle.rs_mrt.proofs.record_reader.FrontLemmas.{later_shown, none_shown, one_shown}

-- a record that stands at the front takes no more octets than there are
pub front_room : (octets : List ℕ) → has_record octets ≡ true → octets_of (Some (front_record octets)) ≤ length octets
front_room octets stands =
    let long = has_record-long octets stands in
    omega (arith, length-take (length_field octets) (drop 12 octets), long.0, long.1)

module _ {R : Type 0} (gives : R → List ℕ → ReadEnd → Type 0) (failures : R → ℕ) where
  -- ---- what may come

  -- the records may end here
  end_shown : (old new : RecordReading R) → SomethingIsGiven (gives new.inflow.reader)
      → FindsEnd gives failures old.until old.inflow new.inflow old.held new.held
      → MayBeShown old.until (MayArrive gives old.inflow) old.held [] None
  end_shown old new some (inl none) = none_shown gives failures old.until old.inflow new.inflow old.held new.held (Ok false) none
  end_shown old new some (inr later) = later_shown gives failures old.until old.inflow new.inflow old.held new.held some later

  -- the record that was shown before is of no matter
  pub goes-advances : (old new : RecordReading R) (result : Result Bool SourceFault) → old.stopped ≡ None
      → SomethingIsGiven (gives new.inflow.reader) → GoesOn gives failures (record old { shown = None }) new result
      → Advances (MayCome gives) old new new.shown result
  goes-advances old new (Ok true) asks some goes =
      let r = front_of (front_record (old.held ++ goes.0.piece)) in
      let found = subst (λ (s : Option MrtRecord). FindsRecord gives failures old.until old.inflow new.inflow old.held s new.held)
      goes.0.front goes.0 in
      subst (λ (s : Option MrtRecord). Advances (MayCome gives) old new s (Ok true)) (sym goes.0.front)
      (λ later fault may.
      let come = subst (λ (s : Option (Result Bool SourceFault)). ComesUnless s
      (MayBeShown new.until (MayArrive gives new.inflow) new.held) later fault) goes.1 may in
      let until = subst (λ (u : Option ℕ). MayBeShown u (MayArrive gives new.inflow) new.held later fault) goes.2 come in
      subst (λ (s : Option (Result Bool SourceFault)). ComesUnless s (MayBeShown old.until (MayArrive gives old.inflow) old.held)
      (r ∷ later) fault)
      (sym asks)
      (one_shown gives failures old.until old.inflow new.inflow old.held new.held r found later fault until))
  goes-advances old new (Ok false) asks some goes =
      subst (λ (s : Option MrtRecord). Advances (MayCome gives) old new s (Ok false)) (sym goes.1) (
        refl,
        subst (λ (s : Option (Result Bool SourceFault)). ComesUnless s (MayBeShown old.until (MayArrive gives old.inflow) old.held)
            [] None)
            (sym asks)
            (end_shown old new some goes.0),
      )
  goes-advances old new (Err fault) asks some goes =
      subst (λ (s : Option MrtRecord). Advances (MayCome gives) old new s (Err fault)) (sym goes.1) (
        refl,
        subst (λ (s : Option (Result Bool SourceFault)). ComesUnless s (MayBeShown old.until (MayArrive gives old.inflow) old.held)
            [] (Some fault))
            (sym asks)
            (none_shown gives failures old.until old.inflow new.inflow old.held new.held (Err fault) goes.0),
      )

  -- ---- room

  goes-none : (old new : RecordReading R) (answer : Result Bool SourceFault)
      → FindsNone gives failures old.until old.inflow new.inflow old.held new.held answer → new.shown ≡ None
      → room_left new + octets_of new.shown ≤ room_left old
  goes-none old new answer none shown =
      let nothing : octets_of new.shown ≡ 0 = ap octets_of shown in
      omega (arith, nothing, none.drawn.came, none.drawn.within, none.fewer)

  goes-end : (old new : RecordReading R) → FindsEnd gives failures old.until old.inflow new.inflow old.held new.held → new.shown ≡ None
      → room_left new + octets_of new.shown ≤ room_left old
  goes-end old new (inl none) shown = goes-none old new (Ok false) none shown
  goes-end old new (inr later) shown =
      let nothing : octets_of new.shown ≡ 0 = ap octets_of shown in
      omega (arith, nothing, later.drawn.came, later.drawn.within, later.fewer)

  pub goes-room : (old new : RecordReading R) (result : Result Bool SourceFault) → GoesOn gives failures old new result
      → room_left new + octets_of new.shown ≤ room_left old
  goes-room old new (Ok true) goes =
      let found = goes.0 in
      let whole = old.held ++ found.piece in
      let long = has_record-long whole found.stands in
      let all : length whole ≡ length old.held + length found.piece = length-append old.held found.piece in
      let held : length new.held ≡ length whole - octets_of (Some (front_record whole)) =
      ap length found.behind ∙ length-after_record whole found.stands in
      let shown : octets_of new.shown ≡ octets_of (Some (front_of (front_record whole))) = ap octets_of found.front in
      let body = (front_record whole).body in
      let front : length (take front_len body) ≡ min front_len (length body) = length-take front_len body in
      let most : octets_of (Some (front_record whole)) ≤ length whole = front_room whole found.stands in
      omega (arith, held, shown, front, most, all, found.drawn.came, found.drawn.within)
  goes-room old new (Ok false) goes = goes-end old new goes.0 goes.1
  goes-room old new (Err fault) goes = goes-none old new (Err fault) goes.0 goes.1

  -- ---- the limit

  end-limit : (old new : RecordReading R) → FindsEnd gives failures old.until old.inflow new.inflow old.held new.held
      → old.inflow.came ≡ read_limit → new.inflow.reader ≡ old.inflow.reader
  end-limit old new (inl none) full = none.drawn.at_limit full
  end-limit old new (inr later) full = later.drawn.at_limit full

  -- at the limit the reader stays as it was
  pub goes-limit : (old new : RecordReading R) (result : Result Bool SourceFault) → GoesOn gives failures old new result
      → old.inflow.came ≡ read_limit → new.inflow.reader ≡ old.inflow.reader
  goes-limit old new (Ok true) goes full = goes.0.drawn.at_limit full
  goes-limit old new (Ok false) goes full = end-limit old new goes.0 full
  goes-limit old new (Err fault) goes full = goes.0.drawn.at_limit full
