-- Closes, the number of changes, and the front of a record.
use Rattle.std.proofs.Common.{◌≡◌, ℕ, zero, suc, ◌+◌, ◌≤◌, true, List, [], ◌∷◌, ◌++◌, length, drop, Option, Some, None, refl, sym, ◌∙◌, ap}
use Rattle.std.proofs.Common.{arith, append_assoc, length-append, length-take, length-drop}
use Rattle.std.proofs.lemmas.List.Folds.{list_any-append}
use Rattle.rs_mrt.specs.Record.{MrtRecord, records_of, records_within, end_of, has_record, front_record, after_record, length_field}
use Rattle.rs_mrt.specs.declared.record.TheConstants.{HEADER_LEN}
use Rattle.rs_mrt.specs.Source.{source_end}
use Rattle.rs_mrt.specs.declared.fault.SourceFault.{SourceFault}
use Rattle.rs_mrt.specs.declared.fault.SourceFault.TheVariants as faults
use Rattle.rs_session.specs.Effect.{RecordEffect, PassesOver, Gives, Ends, effect_of}
use Rattle.rs_session.specs.Laws.{is_recorded, may_close, ClosesLast}
use Rattle.rs_change.specs.Change.{is_close}
use Rattle.rs_session.specs.FileChanges.{changes_of, close_at, reason_at_end, changes_in_by}
use Rattle.rs_update.specs.declared.errors.Errors.{Errors}
use Rattle.rs_types.specs.declared.peer_id.PeerId.{PeerId}
use Rattle.rs_change.specs.declared.word.Reason.{Reason}
use Rattle.rs_change.specs.declared.word.Reason.TheVariants as reasons
use Rattle.rs_session.proofs.EffectLemmas.{IsFine, branch, fine-effect}
use Rattle.rs_session.proofs.FileChangesLemmas.{changes_of-nil, changes_of-passes, changes_of-gives, changes_of-ends}

-- ---- one close

recorded_at_end : (end : Option SourceFault) → may_close end (reason_at_end end) ≡ true
recorded_at_end None = refl
recorded_at_end (Some (faults.Mrt fault)) = refl
recorded_at_end (Some faults.Read) = refl

-- what a record says is among the reasons for a close, however the records end
recorded_before : (end : Option SourceFault) (reason : Reason) → is_recorded reason ≡ true → may_close end reason ≡ true
recorded_before (Some faults.Read) reasons.EndOfFile h = refl
recorded_before (Some faults.Read) (reasons.Bgp code subcode) h = refl
recorded_before (Some faults.Read) (reasons.Mrt number) h = refl
recorded_before (Some faults.Read) reasons.Read h = refl
recorded_before end reason h = h

closes-record : (errors : Errors) (peer : PeerId) (r : MrtRecord) (later : List MrtRecord) (end : Option SourceFault)
    (effect : RecordEffect) → effect_of errors peer r ≡ effect → IsFine (length r.body) effect
    → ClosesLast end (changes_of errors peer later end) → ClosesLast end (changes_of errors peer (r ∷ later) end)
closes-record errors peer r later end PassesOver is fine h = record {
  before = h.before;
  time = h.time;
  reason = h.reason;
  splits = changes_of-passes errors peer r later end is ∙ h.splits;
  none_before = h.none_before;
  recorded = h.recorded;
}
closes-record errors peer r later end (Gives changes) is fine h = record {
  before = changes ++ h.before;
  time = h.time;
  reason = h.reason;
  splits = changes_of-gives errors peer r changes later end is ∙ ap (λ cs. changes ++ cs) h.splits
      ∙ sym (append_assoc changes h.before (close_at h.time h.reason ∷ []));
  none_before = list_any-append is_close changes h.before ∙ rw (fine.0, h.none_before) refl;
  recorded = h.recorded;
}
closes-record errors peer r later end (Ends reason) is fine h = record {
  before = [];
  time = r.time;
  reason = reason;
  splits = changes_of-ends errors peer r reason later end is;
  none_before = refl;
  recorded = recorded_before end reason fine;
}

pub closes_last : (errors : Errors) (peer : PeerId) (records : List MrtRecord) (end : Option SourceFault)
    → ClosesLast end (changes_of errors peer records end)
closes_last errors peer [] end = record {
  before = [];
  time = 0;
  reason = reason_at_end end;
  splits = changes_of-nil errors peer end;
  none_before = refl;
  recorded = recorded_at_end end;
}
closes_last errors peer (r ∷ later) end =
    closes-record errors peer r later end (effect_of errors peer r) refl (fine-effect errors peer r) (closes_last errors peer later end)

-- so it says at least one change
pub changes_of-some : (errors : Errors) (peer : PeerId) (records : List MrtRecord) (end : Option SourceFault)
    → 1 ≤ length (changes_of errors peer records end)
changes_of-some errors peer records end =
    let h = closes_last errors peer records end in
    omega (arith, ap length h.splits, length-append h.before (close_at h.time h.reason ∷ []))

-- ---- the number of changes

body_octets : List MrtRecord → ℕ
body_octets [] = 0
body_octets (r ∷ records) = length r.body + body_octets records

length-record : (errors : Errors) (peer : PeerId) (r : MrtRecord) (later : List MrtRecord) (end : Option SourceFault)
    (effect : RecordEffect) → effect_of errors peer r ≡ effect → IsFine (length r.body) effect
    → length (changes_of errors peer later end) ≤ body_octets later + 1
    → length (changes_of errors peer (r ∷ later) end) ≤ length r.body + body_octets later + 1
length-record errors peer r later end PassesOver is fine h = rw (changes_of-passes errors peer r later end is) (omega arith)
length-record errors peer r later end (Gives changes) is fine h =
    rw (changes_of-gives errors peer r changes later end is)
    (let few = fine.1 in omega (arith, length-append changes (changes_of errors peer later end)))
length-record errors peer r later end (Ends reason) is fine h = rw (changes_of-ends errors peer r reason later end is) (omega arith)

length-changes_of : (errors : Errors) (peer : PeerId) (records : List MrtRecord) (end : Option SourceFault)
    → length (changes_of errors peer records end) ≤ body_octets records + 1
unfolding body_octets
length-changes_of errors peer [] end = rw (changes_of-nil errors peer end) (omega arith)
length-changes_of errors peer (r ∷ later) end =
    length-record errors peer r later end (effect_of errors peer r) refl (fine-effect errors peer r)
    (length-changes_of errors peer later end)

-- the bodies of the records of a file have no more octets than the file
octets-records_within : (fuel : ℕ) (octets : List ℕ) → body_octets (records_within fuel octets) ≤ length octets
unfolding records_within body_octets
octets-records_within zero octets = omega arith
octets-records_within (suc fuel) octets =
    branch (λ records. body_octets records ≤ length octets) (has_record octets)
    (front_record octets ∷ records_within fuel (after_record octets)) []
    (let later = octets-records_within fuel (after_record octets) in
    omega (
      arith,
      later,
      length-take (length_field octets) (drop HEADER_LEN octets),
      length-drop (length_field octets) (drop HEADER_LEN octets),
      length-drop HEADER_LEN octets,
    ))
    (omega arith)

pub length-changes_in : (errors : Errors) (peer : PeerId) (file : List ℕ) → length (changes_in_by errors peer file) ≤ length file + 1
unfolding records_of
length-changes_in errors peer file = let few = length-changes_of errors peer (records_of file) (source_end (end_of file)) in let fit =
    octets-records_within (length file) file in omega (arith, few, fit)
