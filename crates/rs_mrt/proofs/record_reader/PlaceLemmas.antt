-- Where the record that is found next begins in its file: for `advance` of record_reader.rt, and laws.rt.
use Rattle.std.proofs.Common.{◌≡◌, ℕ, ◌+◌, ◌-◌, ◌≤◌, ◌<◌, Bool, true, false, List, [], ◌∷◌, ◌++◌, length, take, drop, Option, Some, None}
use Rattle.std.proofs.Common.{Result, Ok, Err, refl, sym, ap, ◌∙◌, append_assoc, arith, inl, inr, length-append}
use Rattle.std.specs.Prelude.{◌⊎◌, nat_lt, if◌then◌else◌}
use Rattle.std.proofs.lemmas.Bool.{cond-true, le-leb}
use Rattle.std.proofs.lemmas.List.{append-nil, drop-drop, length-drop, length-take, take_all}
use Rattle.std.proofs.lemmas.List.Sums.{sum_by_push}
use Rattle.byteorder.specs.Numbers.{big_from-append}
use Rattle.rs_mrt.specs.declared.cut.Cut.{Cut}
use Rattle.rs_mrt.specs.declared.fault.MrtFault.{MrtFault}
use Rattle.rs_mrt.specs.declared.fault.MrtFault.TheVariants.{HeaderCutShort, BodyCutShort}
use Rattle.rs_mrt.specs.declared.fault.SourceFault.{SourceFault}
use Rattle.rs_mrt.specs.declared.fault.SourceFault.TheVariants.{Mrt, Read}
use Rattle.rs_mrt.specs.declared.stream.Failed.{Failed}
use Rattle.rs_mrt.specs.Reader.{ReadEnd, FileEnds, ReadFails, SomethingIsGiven}
use Rattle.rs_mrt.specs.Record.{MrtRecord, after_record, front_record, has_record, header_len, length_field, octets_of, records_of}
use Rattle.rs_mrt.specs.Record.{fault_of_rest}
use Rattle.rs_mrt.specs.RecordReading.{Inflow, MayArrive, RecordReading, end_within, read_limit, unread_until}
use Rattle.rs_mrt.specs.Inflow.{Draws, GoesOn, answer_at, answer_behind, call_at}
use Rattle.rs_mrt.specs.Cut.{cut_at, ends_in_record, time_in}
use Rattle.rs_mrt.specs.Places.{HasPassed, PassesNext, SaysPlace, octets_in, past_of}
use Rattle.rs_mrt.proofs.record.RecordLemmas.{has_record-long, length-after_record, records_of-step}
use Rattle.rs_mrt.proofs.record_reader.FrontLemmas.{after_record-append, front_record-append, has_record-append}
use Rattle.rs_mrt.proofs.record_reader.AdvanceLemmas.{front_room}

-- a record at the front takes so many octets
octets-front : (octets : List ℕ) → has_record octets ≡ true → octets_of (Some (front_record octets)) ≡ 12 + length_field octets
octets-front octets stands =
    let long = has_record-long octets stands in
    omega (arith, length-take (length_field octets) (drop 12 octets), length-drop 12 octets, long.0, long.1)

-- ---- where a record is cut short

-- the fault says so
cut-fault : (rest : List ℕ) (answer : Result Bool SourceFault) (fault : MrtFault) → answer ≡ Err (Mrt fault)
    → answer ≡ answer_at (fault_of_rest rest) → ends_in_record (Some answer) ≡ true
cut-fault [] answer fault is says = absurd (cc (is, says))
cut-fault (octet ∷ octets) answer fault is says = by (nat_lt (length (octet ∷ octets)) header_len) says
  where
    by : (short : Bool) → answer ≡ answer_at (if short then Some HeaderCutShort else Some BodyCutShort)
        → ends_in_record (Some answer) ≡ true
    by true header = ap (λ (a : Result Bool SourceFault). ends_in_record (Some a)) header
    by false body = ap (λ (a : Result Bool SourceFault). ends_in_record (Some a)) body

abbrev cut_with : ℕ → ℕ → Option ℕ → Cut
cut_with octet len time = record { octet = octet; len = len; time = time }

-- the octets at hand have its Timestamp, if its octets have
time-kept : (held gone : List ℕ) → (gone ≡ []) ⊎ (12 ≤ length held) → time_in held ≡ time_in (held ++ gone)
time-kept held gone (inl none) = ap time_in (sym (append-nil held)) ∙ ap (λ (z : List ℕ). time_in (held ++ z)) (sym none)
time-kept held gone (inr long) =
    cond-true _ _ _ (le-leb 4 (length held) (omega (arith, long)))
    ∙ ap Some (sym (big_from-append 4 held gone (omega (arith, long))))
    ∙ sym (cond-true _ _ _ (le-leb 4 (length (held ++ gone)) (omega (arith, long, length-append held gone))))

-- ---- what is found next

module _ {R : Type 0} (gives : R → List ℕ → ReadEnd → Type 0) (failures : R → ℕ) (file : List ℕ) where
  -- the record that is found is the next one
  finds-next : (before : List MrtRecord) (old new : RecordReading R) → SomethingIsGiven (gives new.inflow.reader)
      → new.place ≡ past_of old → HasPassed gives file before old → GoesOn gives failures (record old { shown = None }) new (Ok true)
      → PassesNext gives file before new
  finds-next before old new some place passed goes =
      let found = goes.0 in
      let whole = old.held ++ found.piece in
      let next = front_record whole in
      let rest = drop (past_of old) file in
      let octets = take (read_limit - new.inflow.came) some.0 in
      let end = end_within (read_limit - new.inflow.came) some.0 some.1 in
      let come : MayArrive gives new.inflow octets end =
      record { all = some.0; last = some.1; given = some.2; cut = refl; ends = refl } in
      let behind : (later : List ℕ) (last : ReadEnd) → MayArrive gives new.inflow later last → whole ++ later ≡ rest =
      λ later last may.
      append_assoc old.held found.piece later ∙ passed.stands (found.piece ++ later) last (found.drawn.behind later last may) in
      let same : whole ++ octets ≡ rest = behind octets end come in
      let stands : has_record rest ≡ true = ap has_record (sym same) ∙ has_record-append whole octets found.stands in
      let front : front_record rest ≡ next = ap front_record (sym same) ∙ front_record-append whole octets found.stands in
      let len : octets_of (Some next) ≡ 12 + length_field rest =
      ap (λ (r : MrtRecord). octets_of (Some r)) (sym front) ∙ octets-front rest stands in
      let held : length new.held ≡ length whole - octets_of (Some next) =
      ap length found.behind ∙ length-after_record whole found.stands in
      let all : length whole ≡ length old.held + length found.piece = length-append old.held found.piece in
      let most : octets_of (Some next) ≤ length whole = front_room whole found.stands in
      let past : past_of new ≡ past_of old + octets_of (Some next) = omega (arith, held, all, most, passed.fits, found.drawn.came) in
      let after : after_record rest ≡ drop (past_of new) file =
      ap (drop (length_field rest)) (drop-drop 12 (past_of old) file) ∙ drop-drop (length_field rest) (past_of old + 12) file
      ∙ ap (λ (n : ℕ). drop n file) (omega (arith, past, len)) in
      let first : records_of rest ≡ next ∷ records_of (drop (past_of new) file) =
      records_of-step rest stands ∙ ap (λ (r : MrtRecord). r ∷ records_of (after_record rest)) front
      ∙ ap (λ (z : List ℕ). next ∷ records_of z) after in
      record {
        next = next;
        shown = found.front;
        place = place ∙ passed.past;
        passed = record {
          fits = omega (arith, held, all, passed.fits, found.drawn.came);
          past = past ∙ ap (λ (n : ℕ). n + octets_of (Some next)) passed.past
              ∙ sym (sum_by_push (λ (r : MrtRecord). octets_of (Some r)) before next);
          records = passed.records ∙ ap (λ (rs : List MrtRecord). before ++ rs) first
              ∙ sym (append_assoc before (next ∷ []) (records_of (drop (past_of new) file)));
          stands = λ later last may.
              ap (λ (z : List ℕ). z ++ later) found.behind ∙ sym (after_record-append whole later found.stands)
              ∙ ap after_record (behind later last may) ∙ after;
        };
      }

  -- where a record is cut short, the octets ended
  ended : (old new : Inflow R) (held piece : List ℕ) (end : ReadEnd) (failed : Failed) (fault : MrtFault) (answer : Result Bool SourceFault)
      → answer ≡ Err (Mrt fault) → answer ≡ answer_behind end (held ++ piece) → Draws gives failures old new piece (call_at end failed)
      → MayArrive gives old piece FileEnds × (ends_in_record (Some answer) ≡ true)
  ended old new held piece FileEnds failed fault answer is says drawn = (drawn.behind, cut-fault (held ++ piece) answer fault is says)
  ended old new held piece ReadFails failed fault answer is says drawn = absurd (cc (is, says))

  pub goes-next : (before : List MrtRecord) (old new : RecordReading R) (result : Result Bool SourceFault)
      → SomethingIsGiven (gives new.inflow.reader) → new.place ≡ past_of old → HasPassed gives file before old
      → GoesOn gives failures (record old { shown = None }) new result → SaysPlace gives file before new result
  goes-next before old new (Ok true) some place passed goes = finds-next before old new some place passed goes
  goes-next before old new (Ok false) some place passed goes = tt
  goes-next before old new (Err Read) some place passed goes = tt
  goes-next before old new (Err (Mrt fault)) some place passed goes =
      let none = goes.0 in
      let at = ended old.inflow new.inflow old.held none.piece none.end none.failed fault (Err (Mrt fault)) refl none.says none.drawn in
      let rest = drop (octets_in before) file in
      let left : old.held ++ none.piece ≡ rest =
      passed.stands none.piece FileEnds at.0 ∙ ap (λ (n : ℕ). drop n file) passed.past in
      let octet : new.place ≡ octets_in before = place ∙ passed.past in
      let len : new.inflow.came - new.place ≡ length rest =
      omega (arith, place, passed.fits, none.drawn.came, length-append old.held none.piece, ap length left) in
      let time : time_in new.held ≡ time_in rest =
      time-kept new.held none.gone none.kept ∙ ap time_in (none.whole ∙ left) in
      cond-true _ _ _ (ap ends_in_record goes.2 ∙ at.1)
      ∙ ap (λ (n : ℕ). Some (cut_at n (new.inflow.came - new.place) new.held)) octet
      ∙ ap (λ (n : ℕ). Some (cut_at (octets_in before) n new.held)) len
      ∙ ap (λ (t : Option ℕ). Some (cut_with (octets_in before) (length rest) t)) time

  -- before the first record none was passed
  pub begins : (until : Option ℕ) (reader : R) → ((octets : List ℕ) (end : ReadEnd) → gives reader octets end
      → (octets ≡ file) × (end ≡ FileEnds)) → length file < read_limit → HasPassed gives file [] (unread_until until reader)
  begins until reader only fits =
      record {
        fits = omega arith;
        past = refl;
        records = refl;
        stands = λ octets end may.
            let same = only may.all may.last may.given in
            may.cut ∙ ap (take (read_limit - 0)) same.0 ∙ take_all (read_limit - 0) file (omega (arith, fits));
      }
