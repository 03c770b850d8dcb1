-- What a window that holds the front of a record says of the record, and what a reader of records shows.
-- For `known_octets_are_shown` and `known_octets_are_shown_up_to` of laws.rt, FindLemmas and AdvanceLemmas.
use Rattle.std.proofs.Common.{◌≡◌, ℕ, ◌+◌, ◌-◌, ◌≤◌, ◌<◌, min, List, [], ◌∷◌, ◌++◌, length, take, drop, map, Option, Some, Result, Bool}
use Rattle.std.proofs.Common.{None, true, false, refl, sym, ap, subst, ◌∙◌, append_assoc, arith, inl, inr, length-append}
use Rattle.std.specs.Prelude.{nat_lt, if◌then◌else◌}
use Rattle.std.specs.Option.{option_map}
use Rattle.std.proofs.lemmas.Bool.{lt-ltb, le-ltb, le-leb, and_from, cases_lt}
use Rattle.std.proofs.lemmas.List.{take_all, take-take, take-append-le, drop-append-le, drop-drop, drop_all, nil_from_length, length-drop}
use Rattle.std.proofs.lemmas.List.{length-take, append-nil}
use Rattle.byteorder.specs.Endian.{big_number}
use Rattle.byteorder.specs.Numbers.{big_from-append}
use Rattle.rs_mrt.specs.declared.fault.MrtFault.{MrtFault}
use Rattle.rs_mrt.specs.declared.fault.MrtFault.TheVariants.{HeaderCutShort, BodyCutShort}
use Rattle.rs_mrt.specs.declared.fault.SourceFault.{SourceFault}
use Rattle.rs_mrt.specs.declared.fault.SourceFault.TheVariants.{Mrt}
use Rattle.rs_mrt.specs.declared.stream.Failed.{Failed}
use Rattle.rs_mrt.specs.Reader.{ReadEnd, FileEnds, ReadFails, SomethingIsGiven}
use Rattle.rs_mrt.specs.Record.{MrtRecord, headed, has_record, front_record, after_record, length_field, records_of, end_of}
use Rattle.rs_mrt.specs.Record.{fault_of_rest}
use Rattle.rs_mrt.specs.Entry.{front_len, front_of}
use Rattle.rs_mrt.specs.Source.{source_end}
use Rattle.rs_mrt.specs.Bounds.{is_later}
use Rattle.rs_mrt.specs.RecordReading.{Inflow, MayArrive, MayBeShown, MayCome, fault_behind, read_limit, unread, unread_until, fault_of}
use Rattle.rs_mrt.specs.RecordReading.{end_within, records_read, end_read}
use Rattle.rs_mrt.specs.Inflow.{Draws, FindsRecord, FindsNone, FindsLater, answer_behind, answer_at, call_at, shown_in, held_behind}
use Rattle.rs_mrt.proofs.record.RecordLemmas.{has_record-long}
use Rattle.rs_mrt.proofs.record_reader.UntilLemmas.{read-step, end-step, read-later, later-behind, read-none, end-none}

-- ---- octets behind a header change nothing in it

pub length_field-append : (octets after : List ℕ) → 12 ≤ length octets → length_field (octets ++ after) ≡ length_field octets
length_field-append octets after long =
    ap (big_number 4) (drop-append-le 8 octets after (omega arith))
    ∙ big_from-append 4 (drop 8 octets) after (omega (arith, length-drop 8 octets))

pub headed-append : (octets after body : List ℕ) → 12 ≤ length octets → headed (octets ++ after) body ≡ headed octets body
headed-append octets after body long =
    let time : big_number 4 (octets ++ after) ≡ big_number 4 octets = big_from-append 4 octets after (omega arith) in
    let kind : big_number 2 (drop 4 (octets ++ after)) ≡ big_number 2 (drop 4 octets) =
    ap (big_number 2) (drop-append-le 4 octets after (omega arith))
    ∙ big_from-append 2 (drop 4 octets) after (omega (arith, length-drop 4 octets)) in
    let subtype : big_number 2 (drop 6 (octets ++ after)) ≡ big_number 2 (drop 6 octets) =
    ap (big_number 2) (drop-append-le 6 octets after (omega arith))
    ∙ big_from-append 2 (drop 6 octets) after (omega (arith, length-drop 6 octets)) in
    rw (time, kind, subtype) refl

-- a header and a body make a record
pub has_record-from : (octets : List ℕ) → 12 + length_field octets ≤ length octets → has_record octets ≡ true
has_record-from octets long =
    and_from _ _ (le-leb 12 (length octets) (omega arith))
    (le-leb (length_field octets) (length (drop 12 octets)) (omega (arith, length-drop 12 octets)))

-- where one of them is cut short, there is none
pub has_record-cut : (octets : List ℕ) → length octets < 12 + length_field octets → has_record octets ≡ false
has_record-cut octets cut = let long = has_record-long octets in grind arith

-- ---- a record, and octets behind it

pub has_record-append : (octets after : List ℕ) → has_record octets ≡ true → has_record (octets ++ after) ≡ true
has_record-append octets after stands =
    let long = has_record-long octets stands in
    has_record-from (octets ++ after) (omega (arith, length_field-append octets after long.0, length-append octets after))

pub front_record-append : (octets after : List ℕ) → has_record octets ≡ true → front_record (octets ++ after) ≡ front_record octets
front_record-append octets after stands =
    let long = has_record-long octets stands in
    let n = length_field octets in
    let len : length (drop 12 octets) ≡ length octets - 12 = length-drop 12 octets in
    let body : take (length_field (octets ++ after)) (drop 12 (octets ++ after)) ≡ take n (drop 12 octets) =
    ap (λ (k : ℕ). take k (drop 12 (octets ++ after))) (length_field-append octets after long.0)
    ∙ ap (take n) (drop-append-le 12 octets after long.0)
    ∙ take-append-le n (drop 12 octets) after (omega arith) in
    ap (headed (octets ++ after)) body ∙ headed-append octets after (take n (drop 12 octets)) long.0

pub after_record-append : (octets after : List ℕ) → has_record octets ≡ true → after_record (octets ++ after) ≡ after_record octets ++ after
after_record-append octets after stands =
    let long = has_record-long octets stands in
    let n = length_field octets in
    let len : length (drop 12 octets) ≡ length octets - 12 = length-drop 12 octets in
    ap (λ (k : ℕ). drop k (drop 12 (octets ++ after))) (length_field-append octets after long.0)
    ∙ ap (drop n) (drop-append-le 12 octets after long.0)
    ∙ drop-append-le n (drop 12 octets) after (omega arith)

-- ---- the front of a record that stands in a window

-- the record is the window and the octets of its body that were passed over; the window has nothing behind a body that is
-- cut to its front
pub record Fronts (window gone : List ℕ) (n : ℕ) : Type 0 where
  pub front : shown_in (Some n) window ≡ Some (front_of (front_record (window ++ gone)))
  pub behind : held_behind (Some n) window ≡ after_record (window ++ gone)
  pub stands : has_record (window ++ gone) ≡ true

-- a body of no more octets than are shown
fronts-whole : (window : List ℕ) → length_field window ≤ 4121 → 12 + length_field window ≤ length window
    → Fronts window [] (length_field window)
fronts-whole window short long =
    let n = length_field window in
    let len : length (take n (drop 12 window)) ≤ 4121 = omega (arith, length-take n (drop 12 window)) in
    let body : take n (drop 12 window) ≡ take front_len (take n (drop 12 window)) =
    sym (take_all front_len (take n (drop 12 window)) len) in
    let alone = sym (append-nil window) in
    record {
      front = ap (λ (z : List ℕ). Some (headed window z)) body ∙ ap (λ (z : List ℕ). Some (front_of (front_record z))) alone;
      behind = sym (drop-drop n 12 window) ∙ ap after_record alone;
      stands = ap has_record (append-nil window) ∙ has_record-from window long;
    }

-- a longer one
fronts-cut : (window gone : List ℕ) → 4121 < length_field window → length window ≡ 4133 → length gone ≡ length_field window - 4121
    → Fronts window gone 4121
fronts-cut window gone long full rest =
    let n = length_field window in
    let whole = window ++ gone in
    let len : length (drop 12 window) ≡ 4121 = omega (arith, length-drop 12 window) in
    let all : length whole ≡ 12 + n = omega (arith, length-append window gone) in
    let field : length_field whole ≡ n = length_field-append window gone (omega arith) in
    let body : take 4121 (take (length_field whole) (drop 12 whole)) ≡ take 4121 (drop 12 window) =
    take-take 4121 (length_field whole) (drop 12 whole) (omega arith)
    ∙ ap (take 4121) (drop-append-le 12 window gone (omega arith))
    ∙ take-append-le 4121 (drop 12 window) gone (omega arith) in
    let after : after_record whole ≡ [] = drop_all (length_field whole) (drop 12 whole) (omega (arith, length-drop 12 whole)) in
    record {
      front = ap (λ (z : List ℕ). Some (headed window z)) (sym body)
          ∙ ap Some (sym (headed-append window gone (take 4121 (take (length_field whole) (drop 12 whole))) (omega arith)));
      behind = drop_all 4133 window (omega arith) ∙ sym after;
      stands = has_record-from whole (omega arith);
    }

pub fronts : (window gone : List ℕ) (n : ℕ) → n ≡ min (length_field window) 4121 → 12 + n ≤ length window → length window ≤ 4133
    → length gone ≡ length_field window - n → Fronts window gone n
fronts window gone n same long room rest =
    elim (cases_lt 4121 (length_field window)) [
      | inl cut ↦ (let e : n ≡ 4121 = omega arith in subst (λ (k : ℕ). Fronts window gone k) (sym e)
          (fronts-cut window gone cut (omega arith) (omega arith)))
      | inr whole ↦
          (let e : n ≡ length_field window = omega arith in
          let none : gone ≡ [] = nil_from_length gone (omega arith) in
          subst (λ (k : ℕ). Fronts window gone k) (sym e)
          (subst (λ (z : List ℕ). Fronts window z (length_field window)) (sym none) (fronts-whole window whole (omega arith))))
    ]

-- ---- what the rest of a file says

pub rest-body : (octets : List ℕ) → 12 ≤ length octets → fault_of_rest octets ≡ Some BodyCutShort
rest-body [] long = absurd (omega arith)
rest-body (octet ∷ octets) long =
    ap (λ (b : Bool). if b then Some HeaderCutShort else Some BodyCutShort) (le-ltb (length (octet ∷ octets)) 12 long)

-- ---- what a reader of records shows

fault_of-answer_at : (found : Option MrtFault) → fault_of (answer_at found) ≡ option_map Mrt found
fault_of-answer_at found = grind arith

fault_behind-answer : (end : ReadEnd) (rest : List ℕ) → fault_of (answer_behind end rest) ≡ fault_behind end rest
fault_behind-answer ReadFails rest = refl
fault_behind-answer FileEnds rest = fault_of-answer_at (fault_of_rest rest)

module _ {R : Type 0} (gives : R → List ℕ → ReadEnd → Type 0) (failures : R → ℕ) where
  -- the octets that came are all that may come
  ends-now : (old new : Inflow R) (piece : List ℕ) (end : ReadEnd) (failed : Failed)
      → Draws gives failures old new piece (call_at end failed) → MayArrive gives old piece end
  ends-now old new piece FileEnds failed drawn = drawn.behind
  ends-now old new piece ReadFails failed drawn = drawn.behind

  -- no record may be all that is shown
  pub none_shown : (until : Option ℕ) (old new : Inflow R) (before after : List ℕ) (answer : Result Bool SourceFault)
      → FindsNone gives failures until old new before after answer
      → MayBeShown until (MayArrive gives old) before [] (fault_of answer)
  none_shown until old new before after answer none =
      let whole = before ++ none.piece in
      record {
        octets = none.piece;
        end = none.end;
        come = ends-now old new none.piece none.end none.failed none.drawn;
        fronts = ap (map front_of) (sym (read-none until whole none.lacks));
        ends = ap fault_of none.says ∙ fault_behind-answer none.end whole
            ∙ sym (end-none until none.end whole none.lacks none.in_time);
      }

  -- nor before a later record, whatever comes behind its header
  pub later_shown : (until : Option ℕ) (old new : Inflow R) (before after : List ℕ) → SomethingIsGiven (gives new.reader)
      → FindsLater gives failures until old new before after → MayBeShown until (MayArrive gives old) before [] None
  later_shown until old new before after some found =
      let octets = take (read_limit - new.came) some.0 in
      let end = end_within (read_limit - new.came) some.0 some.1 in
      let come : MayArrive gives new octets end = record { all = some.0; last = some.1; given = some.2; cut = refl; ends = refl } in
      let whole = before ++ found.piece in
      let all : before ++ (found.piece ++ octets) ≡ whole ++ octets = sym (append_assoc before found.piece octets) in
      let nothing = read-later until end (whole ++ octets) (later-behind until whole octets found.later) in
      record {
        octets = found.piece ++ octets;
        end = end;
        come = found.drawn.behind octets end come;
        fronts = sym (ap (λ (z : List ℕ). map front_of (records_read until z)) all ∙ ap (map front_of) nothing.0);
        ends = sym (ap (end_read until end) all ∙ nothing.1);
      }

  -- a record that is shown may come before those that may come after it
  pub one_shown : (until : Option ℕ) (old new : Inflow R) (before held : List ℕ) (r : MrtRecord)
      → FindsRecord gives failures until old new before (Some r) held
      → (later : List MrtRecord) (fault : Option SourceFault) → MayBeShown until (MayArrive gives new) held later fault
      → MayBeShown until (MayArrive gives old) before (r ∷ later) fault
  one_shown until old new before held r found later fault may =
      let whole = before ++ found.piece in
      let front : r ≡ front_of (front_record whole) = let e = found.front in cc in
      let all : before ++ (found.piece ++ may.octets) ≡ whole ++ may.octets = sym (append_assoc before found.piece may.octets) in
      let stands = has_record-append whole may.octets found.stands in
      let after : after_record (whole ++ may.octets) ≡ held ++ may.octets =
      after_record-append whole may.octets found.stands ∙ ap (λ (z : List ℕ). z ++ may.octets) (sym found.behind) in
      let first : front_of (front_record (whole ++ may.octets)) ≡ r =
      ap front_of (front_record-append whole may.octets found.stands) ∙ sym front in
      let in_time : is_later until (front_record (whole ++ may.octets)) ≡ false =
      ap (is_later until) (front_record-append whole may.octets found.stands) ∙ found.in_time in
      let records : map front_of (records_read until (whole ++ may.octets)) ≡ r ∷ later =
      rw (read-step until (whole ++ may.octets) stands in_time, first, after) (ap (λ (rs : List MrtRecord). r ∷ rs) (sym may.fronts)) in
      let end : end_read until may.end (whole ++ may.octets) ≡ end_read until may.end (held ++ may.octets) =
      end-step until may.end (whole ++ may.octets) stands in_time ∙ ap (end_read until may.end) after in
      record {
        octets = found.piece ++ may.octets;
        end = may.end;
        come = found.drawn.behind may.octets may.end may.come;
        fronts = sym records ∙ ap (λ (z : List ℕ). map front_of (records_read until z)) (sym all);
        ends = may.ends ∙ sym end ∙ ap (end_read until may.end) (sym all);
      }

  -- octets that are known are shown
  pub known_read : (until : Option ℕ) (reader : R) (file : List ℕ) → ((octets : List ℕ) (end : ReadEnd) → gives reader octets end
      → (octets ≡ file) × (end ≡ FileEnds)) → length file < read_limit
      → (records : List MrtRecord) (fault : Option SourceFault) → MayCome gives (unread_until until reader) records fault
      → (records ≡ map front_of (records_read until file)) × (fault ≡ end_read until FileEnds file)
  known_read until reader file only fits records fault may =
      let come = may.come in
      let same = only come.all come.last come.given in
      let most = read_limit - 0 in
      let octets : may.octets ≡ file = come.cut ∙ ap (take most) same.0 ∙ take_all most file (omega arith) in
      let below : nat_lt (length come.all) most ≡ true = lt-ltb (length come.all) most (omega (arith, ap length same.0)) in
      let end : may.end ≡ FileEnds = come.ends ∙ ap (λ (b : Bool). if b then come.last else ReadFails) below ∙ same.1 in (
        may.fronts ∙ ap (λ (z : List ℕ). map front_of (records_read until z)) octets,
        may.ends
            ∙ ap (λ (e : ReadEnd). end_read until e may.octets) end ∙ ap (end_read until FileEnds) octets,
      )

  pub known_shown : (reader : R) (file : List ℕ) → ((octets : List ℕ) (end : ReadEnd) → gives reader octets end → (octets ≡ file)
      × (end ≡ FileEnds)) → length file < read_limit
      → (records : List MrtRecord) (fault : Option SourceFault) → MayCome gives (unread reader) records fault
      → (records ≡ map front_of (records_of file)) × (fault ≡ source_end (end_of file))
  known_shown reader file only fits records fault may = known_read None reader file only fits records fault may
