-- How the next record is found in a window, or none is: for `find_front` of record_reader.rt.
use Rattle.std.proofs.Common.{◌≡◌, ℕ, ◌+◌, ◌-◌, ◌≤◌, ◌<◌, min, List, [], ◌∷◌, ◌++◌, length, take, drop, Option, Some, Result, Ok, Err, Bool}
use Rattle.std.proofs.Common.{true, false, refl, sym, ap, subst, ◌∙◌, append_assoc, arith, inl, inr, length-append}
use Rattle.std.specs.Prelude.{◌⊎◌, if◌then◌else◌}
use Rattle.std.proofs.lemmas.Bool.{lt-ltb}
use Rattle.std.proofs.lemmas.List.{append-nil, take_rest}
use Rattle.byteorder.specs.Endian.{big_number}
use Rattle.rs_mrt.specs.declared.fault.MrtFault.TheVariants.{HeaderCutShort, BodyCutShort}
use Rattle.rs_mrt.specs.declared.fault.SourceFault.{SourceFault}
use Rattle.rs_mrt.specs.declared.fault.SourceFault.TheVariants.{Mrt, Read}
use Rattle.rs_mrt.specs.declared.stream.Failed.{Failed}
use Rattle.rs_mrt.specs.Reader.{ReadEnd, FileEnds, ReadFails}
use Rattle.rs_mrt.specs.Record.{has_record, front_record, after_record, length_field, fault_of_rest}
use Rattle.rs_mrt.specs.Bounds.{is_later, is_time_later, rest_is_later}
use Rattle.rs_mrt.specs.Entry.{front_of}
use Rattle.rs_mrt.specs.RecordReading.{Inflow}
use Rattle.rs_mrt.specs.Inflow.{Draws, Fills, Skips, IsEnough, FindsRecord, FindsNone, FindsEnd, answer_behind, answer_at, call_at}
use Rattle.rs_mrt.specs.Inflow.{held_behind, shown_in}
use Rattle.rs_mrt.proofs.record_reader.InflowLemmas.{Draws-then, Fills-then}
use Rattle.rs_mrt.proofs.record_reader.UntilLemmas.{later-from, rest-in-time, time-behind, time-filled}
use Rattle.rs_mrt.proofs.record_reader.FrontLemmas.{Fronts, fronts, has_record-cut, length_field-append, rest-body}

-- the answer where a body is cut short, or reading it failed
abbrev pub body_answer : ReadEnd → Result Bool SourceFault
body_answer FileEnds = Err (Mrt BodyCutShort)
body_answer ReadFails = Err Read

body-cut : (end : ReadEnd) (octets : List ℕ) → 12 ≤ length octets → body_answer end ≡ answer_behind end octets
body-cut FileEnds octets long = ap answer_at (sym (rest-body octets long))
body-cut ReadFails octets long = refl

-- the answer where a header is cut short
pub rest-header : (octets : List ℕ) → 0 < length octets → length octets < 12 → fault_of_rest octets ≡ Some HeaderCutShort
rest-header [] some short = absurd (omega arith)
rest-header (octet ∷ octets) some short =
    ap (λ (b : Bool). if b then Some HeaderCutShort else Some BodyCutShort) (lt-ltb (length (octet ∷ octets)) 12 short)

-- a header that stood in the window still does
pub field-filled : (before after piece : List ℕ) → 12 ≤ length before → after ≡ before ++ piece → length_field after ≡ length_field before
field-filled before after piece long filled = ap length_field filled ∙ length_field-append before piece long

-- the Length that is read in a window
pub field-read : (octets window : List ℕ) (n : ℕ) → n ≡ big_number 4 (take (length octets - 8) (drop 8 octets)) → octets ≡ window
    → n ≡ length_field window
field-read octets window n read same = read ∙ ap (big_number 4) (take_rest octets 8) ∙ ap length_field same

-- and its Timestamp
pub time-read : (until : Option ℕ) (octets window : List ℕ) (n : ℕ) (later : Bool) → later ≡ is_time_later until n
    → n ≡ big_number 4 octets → octets ≡ window → is_time_later until (big_number 4 window) ≡ later
time-read until octets window n later test read same =
    sym (test ∙ ap (is_time_later until) read ∙ ap (λ (z : List ℕ). is_time_later until (big_number 4 z)) same)

-- too few octets were passed over
skips-short : (wanted len : ℕ) (end : ReadEnd) (failed : Failed) → IsEnough wanted len (call_at end failed) → len < wanted
skips-short wanted len FileEnds failed enough = enough
skips-short wanted len ReadFails failed enough = enough

module _ {R : Type 0} (gives : R → List ℕ → ReadEnd → Type 0) (failures : R → ℕ) where
  -- the octets in the window and those that were passed over are too few for a record
  none-found : (until : Option ℕ) (old new : Inflow R) (before after gone piece : List ℕ) (end : ReadEnd) (failed : Failed)
      (answer : Result Bool SourceFault) → Draws gives failures old new piece (call_at end failed)
      → after ++ gone ≡ before ++ piece → length after + length gone < 12 + length_field (after ++ gone)
      → rest_is_later until (after ++ gone) ≡ false
      → answer ≡ answer_behind end (after ++ gone) → (gone ≡ []) ⊎ (12 ≤ length after)
      → FindsNone gives failures until old new before after answer
  none-found until old new before after gone piece end failed answer drawn whole short in_time says kept =
      let len : length after + length gone ≡ length before + length piece =
      sym (length-append after gone) ∙ ap length whole ∙ length-append before piece in
      record {
        piece = piece;
        end = end;
        failed = failed;
        drawn = drawn;
        lacks = ap has_record (sym whole) ∙ has_record-cut (after ++ gone) (omega (arith, length-append after gone));
        in_time = ap (rest_is_later until) (sym whole) ∙ in_time;
        says = says ∙ ap (answer_behind end) whole;
        gone = gone;
        whole = whole;
        kept = kept;
        fewer = omega arith;
      }

  -- nothing was passed over
  none-behind : (until : Option ℕ) (old new : Inflow R) (before after : List ℕ) (end : ReadEnd) (failed : Failed)
      (answer : Result Bool SourceFault) → Fills gives failures old new before after (call_at end failed)
      → length after < 12 + length_field after → rest_is_later until after ≡ false → answer ≡ answer_behind end after
      → FindsNone gives failures until old new before after answer
  none-behind until old new before after end failed answer fills short in_time says =
      let same : after ++ [] ≡ after = append-nil after in
      none-found until old new before after [] fills.piece end failed answer fills.drawn (same ∙ fills.filled)
      (subst (λ (z : List ℕ). length after + 0 < 12 + length_field z) (sym same) (omega arith))
      (ap (rest_is_later until) same ∙ in_time)
      (says ∙ ap (answer_behind end) (sym same)) (inl refl)

  -- not even a header came
  pub short-header : (until : Option ℕ) (old new : Inflow R) (before after : List ℕ) (end : ReadEnd) (failed : Failed)
      (answer : Result Bool SourceFault) → Fills gives failures old new before after (call_at end failed) → length after < 12
      → answer ≡ answer_behind end after → FindsNone gives failures until old new before after answer
  short-header until old new before after end failed answer fills short says =
      none-behind until old new before after end failed answer fills (omega (arith, short))
      (rest-in-time until after (λ long. absurd (omega (arith, short, long)))) says

  -- the header of a later record came
  pub later-came : (until : Option ℕ) (old new : Inflow R) (before after : List ℕ) → Fills gives failures old new before after (Ok true)
      → 12 ≤ length after → is_time_later until (big_number 4 after) ≡ true → FindsEnd gives failures until old new before after
  later-came until old new before after fills long later =
      inr (record {
        piece = fills.piece;
        drawn = fills.drawn;
        later = ap (rest_is_later until) (sym fills.filled) ∙ later-from until after long later;
        fewer = omega (arith, ap length fills.filled, length-append before fills.piece);
      })

  pub short-body : (until : Option ℕ) (old mid new : Inflow R) (before between after : List ℕ) (end : ReadEnd) (failed : Failed)
      → Fills gives failures old mid before between (Ok true) → 12 ≤ length between
      → is_time_later until (big_number 4 between) ≡ false
      → Fills gives failures mid new between after (call_at end failed) → length after < 12 + length_field between
      → FindsNone gives failures until old new before after (body_answer end)
  short-body until old mid new before between after end failed header long in_time fills short =
      let field : length_field after ≡ length_field between = field-filled between after fills.piece long fills.filled in
      let more : 12 ≤ length after = omega (arith, ap length fills.filled, length-append between fills.piece) in
      none-behind until old new before after end failed (body_answer end)
      (Fills-then gives failures old mid new before between after (call_at end failed) header fills) (omega arith)
      (rest-in-time until after (λ _. time-filled until between after fills.piece long fills.filled ∙ in_time))
      (body-cut end after more)

  whole-came : (before after piece gone : List ℕ) → after ≡ before ++ piece → after ++ gone ≡ before ++ (piece ++ gone)
  whole-came before after piece gone filled = ap (λ (z : List ℕ). z ++ gone) filled ∙ append_assoc before piece gone

  pub short-skip : (until : Option ℕ) (old mid new : Inflow R) (before after : List ℕ) (wanted : ℕ) (end : ReadEnd) (failed : Failed)
      → Fills gives failures old mid before after (Ok true) → 12 ≤ length after
      → is_time_later until (big_number 4 after) ≡ false
      → Skips gives failures mid new wanted (call_at end failed) → wanted ≤ length_field after
      → (0 < wanted → length after + wanted ≤ 12 + length_field after)
      → FindsNone gives failures until old new before after (body_answer end)
  short-skip until old mid new before after wanted end failed fills long in_time skips fits room =
      let gone = skips.piece in
      let field : length_field (after ++ gone) ≡ length_field after = length_field-append after gone long in
      let fewer : length gone < wanted = skips-short wanted (length gone) end failed skips.enough in
      let most = room (omega arith) in
      none-found until old new before after gone (fills.piece ++ gone) end failed (body_answer end)
      (Draws-then gives failures old mid new fills.piece gone (call_at end failed) fills.drawn skips.drawn)
      (whole-came before after fills.piece gone fills.filled) (omega arith)
      (rest-in-time until (after ++ gone) (λ _. time-behind until after gone long ∙ in_time))
      (body-cut end (after ++ gone) (omega (arith, length-append after gone))) (inr long)

  -- the record is whole
  pub found-front : (until : Option ℕ) (old mid new : Inflow R) (before after : List ℕ) (len n : ℕ)
      → Fills gives failures old mid before after (Ok true) → Skips gives failures mid new (len - n) (Ok true)
      → is_time_later until (big_number 4 after) ≡ false
      → len ≡ length_field after → n ≡ min len 4121 → 12 + n ≤ length after → length after ≤ 4133
      → FindsRecord gives failures until old new before (shown_in (Some n) after) (held_behind (Some n) after) × (12 + n ≤ length after)
  found-front until old mid new before after len n fills skips in_time field same long room =
      let gone = skips.piece in
      let all = whole-came before after fills.piece gone fills.filled in
      let same_min : n ≡ min (length_field after) 4121 = same ∙ ap (λ (k : ℕ). min k 4121) field in
      let passed : length gone ≡ length_field after - n = omega (arith, skips.most, skips.enough, field) in
      let found : Fronts after gone n = fronts after gone n same_min long room passed in (
        record {
          piece = fills.piece ++ gone;
          drawn = Draws-then gives failures old mid new fills.piece gone (Ok true) fills.drawn skips.drawn;
          stands = ap has_record (sym all) ∙ found.stands;
          in_time = ap (λ (z : List ℕ). is_later until (front_record z)) (sym all)
              ∙ time-behind until after gone (omega (arith, long)) ∙ in_time;
          front = found.front ∙ ap (λ (z : List ℕ). Some (front_of (front_record z))) all;
          behind = found.behind ∙ ap after_record all;
        },
        long,
      )
