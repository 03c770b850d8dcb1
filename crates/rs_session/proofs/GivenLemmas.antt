-- What a session says over a reader of records, by the octets that the reader gives.
use Rattle.std.proofs.Common.{◌≡◌, ℕ, ◌+◌, ◌-◌, ◌≤◌, ◌<◌, Bool, true, false, List, [], ◌∷◌, ◌++◌, Option, Some, refl, sym, subst, ◌∙◌, ap}
use Rattle.std.proofs.Common.{append_assoc, arith, inl, inr, take, drop, map, length}
use Rattle.std.proofs.lemmas.Bool.{cases_Bool, cases_lt, lt-ltb, le-ltb}
use Rattle.std.proofs.lemmas.List.{take_all, append-nil, take-append-drop, length-take}
use Rattle.std.proofs.lemmas.List.Folds.{list_any-append}
use Rattle.std.specs.Prelude.{◌⊎◌, ◌||◌, if◌then◌else◌}
use Rattle.std.specs.List.{list_any}
use Rattle.rs_mrt.specs.Entry.{front_of}
use Rattle.rs_mrt.specs.Reader.{ReadEnd, FileEnds, ReadFails}
use Rattle.rs_mrt.specs.Record.{MrtRecord, records_of, rest_of}
use Rattle.rs_mrt.specs.RecordReading.{fault_behind, read_limit}
use Rattle.rs_mrt.specs.declared.fault.SourceFault.{SourceFault}
use Rattle.rs_mrt.specs.declared.fault.SourceFault.TheVariants as faults
use Rattle.rs_change.specs.Change.{Change, is_close}
use Rattle.rs_session.specs.Effect.{RecordEffect, PassesOver, Gives, Ends, effect_of}
use Rattle.rs_session.specs.FileChanges.{changes_of, passed_of, close_at, ends}
use Rattle.rs_session.specs.Given.{has_end, IsRead}
use Rattle.rs_session.specs.Laws.{FrontSuffices, GivesFileOrFails, ClosesByRead, FailedReadCloses}
use Rattle.rs_types.specs.declared.peer_id.PeerId.{PeerId}
use Rattle.rs_change.specs.declared.word.Reason.TheVariants as reasons
use Rattle.rs_update.specs.declared.errors.Errors.{Errors}
use Rattle.rs_session.proofs.EffectLemmas.{IsFine, fine-effect}
use Rattle.rs_session.proofs.FileChangesLemmas.{changes_of-nil, changes_of-passes, passed_of-passes, changes_of-gives, passed_of-gives}
use Rattle.rs_session.proofs.FileChangesLemmas.{changes_of-ends, passed_of-ends}

-- ---- the fronts of records

-- a record's front says what the record says, before the same records
changes-front : (errors : Errors) (peer : PeerId) (r : MrtRecord) (fronts later : List MrtRecord) (end : Option SourceFault)
    (effect : RecordEffect) → effect_of errors peer (front_of r) ≡ effect → effect_of errors peer r ≡ effect
    → changes_of errors peer fronts end ≡ changes_of errors peer later end
    → changes_of errors peer (front_of r ∷ fronts) end ≡ changes_of errors peer (r ∷ later) end
changes-front errors peer r fronts later end PassesOver front whole h =
    changes_of-passes errors peer (front_of r) fronts end front ∙ h ∙ sym (changes_of-passes errors peer r later end whole)
changes-front errors peer r fronts later end (Gives changes) front whole h =
    changes_of-gives errors peer (front_of r) changes fronts end front ∙ ap (λ cs. changes ++ cs) h
    ∙ sym (changes_of-gives errors peer r changes later end whole)
changes-front errors peer r fronts later end (Ends reason) front whole h =
    changes_of-ends errors peer (front_of r) reason fronts end front ∙ sym (changes_of-ends errors peer r reason later end whole)

changes-fronts : FrontSuffices → (errors : Errors) (peer : PeerId) (records : List MrtRecord) (end : Option SourceFault)
    → changes_of errors peer (map front_of records) end ≡ changes_of errors peer records end
changes-fronts same errors peer [] end = refl
changes-fronts same errors peer (r ∷ later) end =
    changes-front errors peer r (map front_of later) later end (effect_of errors peer r) (same errors peer r) refl
    (changes-fronts same errors peer later end)

passed-front : (errors : Errors) (peer : PeerId) (r : MrtRecord) (fronts later : List MrtRecord) (effect : RecordEffect)
    → effect_of errors peer (front_of r) ≡ effect → effect_of errors peer r ≡ effect
    → passed_of errors peer fronts ≡ passed_of errors peer later
    → passed_of errors peer (front_of r ∷ fronts) ≡ passed_of errors peer (r ∷ later)
passed-front errors peer r fronts later PassesOver front whole h =
    passed_of-passes errors peer (front_of r) fronts front ∙ ap (λ (n : ℕ). 1 + n) h ∙ sym (passed_of-passes errors peer r later whole)
passed-front errors peer r fronts later (Gives changes) front whole h =
    passed_of-gives errors peer (front_of r) changes fronts front ∙ h ∙ sym (passed_of-gives errors peer r changes later whole)
passed-front errors peer r fronts later (Ends reason) front whole h =
    passed_of-ends errors peer (front_of r) reason fronts front ∙ sym (passed_of-ends errors peer r reason later whole)

passed-fronts : FrontSuffices → (errors : Errors) (peer : PeerId) (records : List MrtRecord)
    → passed_of errors peer (map front_of records) ≡ passed_of errors peer records
passed-fronts same errors peer [] = refl
passed-fronts same errors peer (r ∷ later) =
    passed-front errors peer r (map front_of later) later (effect_of errors peer r) (same errors peer r) refl
    (passed-fronts same errors peer later)

-- ---- how records end

-- whether one of these records ends the session
some_ends : Errors → PeerId → List MrtRecord → Bool
some_ends errors peer records = list_any (λ r. ends (effect_of errors peer r)) records

apart-record : (errors : Errors) (peer : PeerId) (r : MrtRecord) (later : List MrtRecord) (one other : Option SourceFault)
    (effect : RecordEffect) → effect_of errors peer r ≡ effect → (ends effect || some_ends errors peer later) ≡ true
    → (some_ends errors peer later ≡ true → changes_of errors peer later one ≡ changes_of errors peer later other)
    → changes_of errors peer (r ∷ later) one ≡ changes_of errors peer (r ∷ later) other
unfolding some_ends
apart-record errors peer r later one other PassesOver is some h =
    changes_of-passes errors peer r later one is ∙ h some ∙ sym (changes_of-passes errors peer r later other is)
apart-record errors peer r later one other (Gives changes) is some h =
    changes_of-gives errors peer r changes later one is ∙ ap (λ cs. changes ++ cs) (h some)
    ∙ sym (changes_of-gives errors peer r changes later other is)
apart-record errors peer r later one other (Ends reason) is some h =
    changes_of-ends errors peer r reason later one is ∙ sym (changes_of-ends errors peer r reason later other is)

-- where a record ends the session, it doesn't matter how the records end
changes-apart : (errors : Errors) (peer : PeerId) (records : List MrtRecord) (one other : Option SourceFault)
    → some_ends errors peer records ≡ true → changes_of errors peer records one ≡ changes_of errors peer records other
unfolding some_ends
changes-apart errors peer [] one other some = absurd cc
changes-apart errors peer (r ∷ later) one other some =
    apart-record errors peer r later one other (effect_of errors peer r) refl some (changes-apart errors peer later one other)

read-record : (errors : Errors) (peer : PeerId) (r : MrtRecord) (later : List MrtRecord) (effect : RecordEffect)
    → effect_of errors peer r ≡ effect → IsFine (length r.body) effect → (ends effect || some_ends errors peer later) ≡ false
    → (some_ends errors peer later ≡ false → ClosesByRead (changes_of errors peer later (Some faults.Read)))
    → ClosesByRead (changes_of errors peer (r ∷ later) (Some faults.Read))
unfolding some_ends
read-record errors peer r later PassesOver is fine none h =
    let rest = h none in
    record {
      before = rest.before;
      splits = changes_of-passes errors peer r later (Some faults.Read) is
          ∙ rest.splits;
      none_before = rest.none_before;
    }
read-record errors peer r later (Gives changes) is fine none h =
    let rest = h none in
    record {
      before = changes ++ rest.before;
      splits = changes_of-gives errors peer r changes later (Some faults.Read) is ∙ ap (λ cs. changes ++ cs) rest.splits
          ∙ sym (append_assoc changes rest.before (close_at 0 reasons.Read ∷ []));
      none_before = list_any-append is_close changes rest.before ∙ rw (fine.0, rest.none_before) refl;
    }
read-record errors peer r later (Ends reason) is fine none h = absurd cc

-- if none does, a failed read closes it
closes_by_read : (errors : Errors) (peer : PeerId) (records : List MrtRecord) → some_ends errors peer records ≡ false
    → ClosesByRead (changes_of errors peer records (Some faults.Read))
unfolding some_ends
closes_by_read errors peer [] none = record { before = []; splits = changes_of-nil errors peer (Some faults.Read); none_before = refl }
closes_by_read errors peer (r ∷ later) none =
    read-record errors peer r later (effect_of errors peer r) refl (fine-effect errors peer r) none (closes_by_read errors peer later)

pub failed_read_closes : FailedReadCloses
unfolding some_ends
failed_read_closes errors peer octets none = closes_by_read errors peer (records_of octets) none

-- ---- what a reader gives

module _ {R : Type 0} (gives : R → List ℕ → ReadEnd → Type 0) (errors : Errors) (peer : PeerId) (reader : R) (changes : List Change)
    (passed : ℕ) where
  -- octets came, and then a read failed, or no more are taken
  read-cut : (came later : List ℕ) (end : ReadEnd) → gives reader (came ++ later) end → length came ≤ read_limit
      → ((later ≡ []) × (end ≡ ReadFails)) ⊎ (length came ≡ read_limit)
      → changes ≡ changes_of errors peer (records_of came) (Some faults.Read) → passed ≡ passed_of errors peer (records_of came)
      → IsRead gives errors peer reader changes passed
  unfolding some_ends
  read-cut came later end given fits fails says counts =
      elim (cases_Bool (has_end errors peer came)) [
        | inl closes ↦
            inl (record {
              file = came;
              given = inr (record { later = later; end = end; given = given; fits = fits; closes = closes });
              says = says ∙ changes-apart errors peer (records_of came) _ _ closes;
              counts = counts;
            })
        | inr none ↦
            inr (record {
              came = came;
              fails = record { later = later; end = end; given = given; fails = fails; no_end = none };
              says = says;
              counts = counts;
            })
      ]

  -- fewer octets came than are taken
  read-below : (all : List ℕ) (end : ReadEnd) → gives reader all end → length all < read_limit
      → changes ≡ changes_of errors peer (records_of all) (fault_behind end (rest_of all)) → passed ≡ passed_of errors peer (records_of all)
      → IsRead gives errors peer reader changes passed
  read-below all FileEnds given fits says counts =
      inl (record { file = all; given = inl (record { given = given; fits = fits }); says = says; counts = counts })
  read-below all ReadFails given fits says counts =
      let whole : gives reader (all ++ []) ReadFails =
      subst (λ (octets : List ℕ). gives reader octets ReadFails) (sym (append-nil all)) given in
      read-cut all [] ReadFails whole (omega (arith, fits)) (inl (refl, refl)) says counts

  -- as many came, or more
  read-past : (all : List ℕ) (end : ReadEnd) → gives reader all end → read_limit ≤ length all
      → changes ≡ changes_of errors peer (records_of (take read_limit all)) (Some faults.Read)
      → passed ≡ passed_of errors peer (records_of (take read_limit all)) → IsRead gives errors peer reader changes passed
  read-past all end given past says counts =
      let whole : gives reader (take read_limit all ++ drop read_limit all) end =
      subst (λ (octets : List ℕ). gives reader octets end) (sym (take-append-drop read_limit all)) given in
      let came : length (take read_limit all) ≡ read_limit = omega (arith, past, length-take read_limit all) in
      read-cut (take read_limit all) (drop read_limit all) end whole (omega (arith, came)) (inr came) says counts

pub gives_file_or_fails : {R : Type 0} (gives : R → List ℕ → ReadEnd → Type 0) (reader : R) → FrontSuffices → GivesFileOrFails gives reader
gives_file_or_fails gives reader same errors peer changes passed m =
    let may = m.may_read.come in
    let come = may.come in
    let most = read_limit - 0 in
    let records = m.may_read.read ∙ may.fronts in
    let says : changes ≡ changes_of errors peer (records_of may.octets) (fault_behind may.end (rest_of may.octets)) =
    m.left ∙ ap (λ (rs : List MrtRecord). changes_of errors peer rs m.end) records
    ∙ changes-fronts same errors peer (records_of may.octets) m.end
    ∙ ap (λ (fault : Option SourceFault). changes_of errors peer (records_of may.octets) fault) may.ends in
    let counted : passed ≡ passed_of errors peer m.records = omega (arith, m.counted) in
    let counts : passed ≡ passed_of errors peer (records_of may.octets) =
    counted ∙ ap (λ (rs : List MrtRecord). passed_of errors peer rs) records ∙ passed-fronts same errors peer (records_of may.octets) in
    elim (cases_lt (length come.all) most) [
      | inl below ↦
          let octets : may.octets ≡ come.all = come.cut ∙ take_all most come.all (omega (arith, below)) in
          let last : may.end ≡ come.last =
          come.ends ∙ ap (λ (b : Bool). if b then come.last else ReadFails) (lt-ltb (length come.all) most below) in
          read-below gives errors peer reader changes passed come.all come.last come.given (omega (arith, below))
          (rw last at (rw octets at says)) (rw octets at counts)
      | inr past ↦
          let last : may.end ≡ ReadFails =
          come.ends ∙ ap (λ (b : Bool). if b then come.last else ReadFails) (le-ltb (length come.all) most past) in
          read-past gives errors peer reader changes passed come.all come.last come.given (omega (arith, past))
          (rw last at (rw come.cut at says)) (rw come.cut at counts)
    ]
