-- A whole table was read, and its sessions written.
use Rattle.std.proofs.Common.{◌≡◌, ℕ, ◌+◌, ◌∙◌, Bool, true, false, List, [], ◌∷◌, ◌++◌, length, map, Option, None, refl, ap, sym}
use Rattle.std.proofs.Common.{append_assoc, length-append}
use Rattle.rs_mrt.specs.Reader.{ReadEnd, FileEnds}
use Rattle.rs_mrt.specs.Record.{MrtRecord, end_of, fault_of_rest, records_of}
use Rattle.std.specs.Prelude.{IfOk, Result, Ok, Err, cond}
use Rattle.std.specs.List.{AllByRecursion}
use Rattle.std.proofs.lemmas.List.{append-nil, map-append}
use Rattle.std.proofs.lemmas.List.Elements.{filter-append}
use Rattle.rs_start.specs.Sessions.{Adds, AddsAll, AllEnd, AllGo, Ends, Given, WritesTable}
use Rattle.rs_start.specs.Table.{IsIndex}
use Rattle.rs_start.specs.TableFile.{Has, IsOther, TableRow, indexes_of, is_index_part, part_of, table_times}
use Rattle.rs_start.specs.TableReading.{ReadsIndex, TableReading, Takes}
use Rattle.rs_start.specs.Tables.{ReadsTables}
use Rattle.rs_start.specs.declared.index.IndexPeer.{IndexPeer}
use Rattle.rs_start.specs.declared.part.Part.{Part}
use Rattle.rs_start.specs.declared.part.Part.TheVariants.{Index, Routes, Other}
use Rattle.rs_start.specs.declared.part.TableEnd.{TableEnd}
use Rattle.rs_start.specs.declared.part.TableEnd.TheVariants.{EndOfFile, NextIndex}
use Rattle.rs_start.specs.declared.sessions.PeerSession.{PeerSession}
use Rattle.rs_start.proofs.ReadingLemmas.{file_given, file_records, file_rest, takes_nothing, takes_then}
use Rattle.rs_start.proofs.SessionLemmas.{all_end, all_nothing, all_have, all_then}

-- what two clauses say of an answer
pub if_both : {X E : Type 0} (P Q S : X → Type 0) (result : Result X E) → ((x : X) → P x → Q x → S x) → IfOk result P → IfOk result Q
    → IfOk result S
if_both P Q S (Ok x) both first second = both x first second
if_both P Q S (Err fault) both first second = tt

-- ---- indexes among records

-- one record more
times_more : (records : List MrtRecord) (r : MrtRecord) → indexes_of (records ++ r ∷ []) ≡ indexes_of records ++ indexes_of (r ∷ [])
times_more records r = filter-append (λ one. is_index_part (part_of one)) records (r ∷ [])

one_index : (r : MrtRecord) → part_of r ≡ Index → indexes_of (r ∷ []) ≡ r ∷ []
one_index r is = ap (λ part. cond (is_index_part part) (r ∷ []) []) is

not_index : (part : Part) → (part ≡ Index → ⊥) → is_index_part part ≡ false
not_index Index other = absurd (other refl)
not_index Routes other = refl
not_index Other other = refl

no_index : (r : MrtRecord) → (part_of r ≡ Index → ⊥) → indexes_of (r ∷ []) ≡ []
no_index r other = ap (λ is. cond is (r ∷ []) []) (not_index (part_of r) other)

-- ---- up to the index

-- so many tables were passed over
pub record PassesOver (old new : List ℕ → ReadEnd → Type 0) (place earlier : ℕ) : Type 0 where
  pub records : List MrtRecord
  pub takes : Takes old new records
  pub count : length (indexes_of records) ≡ earlier
  pub others : place ≡ 0 → AllByRecursion IsOther records

pub passes_nothing : (old : List ℕ → ReadEnd → Type 0) (place : ℕ) → PassesOver old old place 0
passes_nothing old place = record { records = []; takes = takes_nothing old; count = refl; others = λ first. tt }

others_more : (records : List MrtRecord) (r : MrtRecord) → AllByRecursion IsOther records → IsOther r
    → AllByRecursion IsOther (records ++ r ∷ [])
others_more [] r others other = (other, tt)
others_more (first ∷ later) r others other = (others.0, others_more later r others.1 other)

pub passes_one : (old mid new : List ℕ → ReadEnd → Type 0) (place earlier : ℕ) (r : MrtRecord) → PassesOver old mid place earlier
    → Takes mid new (r ∷ []) → (part_of r ≡ Index → ⊥) → (place ≡ 0 → IsOther r) → PassesOver old new place earlier
passes_one old mid new place earlier r before takes differs other =
    record {
      records = before.records ++ r ∷ [];
      takes = takes_then old mid new before.records (r ∷ []) before.takes takes;
      count = ap length (times_more before.records r ∙ ap (λ rs. indexes_of before.records ++ rs) (no_index r differs)
          ∙ append-nil (indexes_of before.records))
          ∙ before.count;
      others = λ first. others_more before.records r (before.others first) (other first);
    }

pub passes_index : (old mid new : List ℕ → ReadEnd → Type 0) (place earlier : ℕ) (r : MrtRecord) → PassesOver old mid place earlier
    → Takes mid new (r ∷ []) → part_of r ≡ Index → (place ≡ 0 → ⊥) → PassesOver old new place (earlier + 1)
passes_index old mid new place earlier r before takes is behind =
    record {
      records = before.records ++ r ∷ [];
      takes = takes_then old mid new before.records (r ∷ []) before.takes takes;
      count = ap length (times_more before.records r ∙ ap (λ rs. indexes_of before.records ++ rs) (one_index r is))
          ∙ length-append (indexes_of before.records) (r ∷ [])
          ∙ ap (λ count. count + 1) before.count;
      others = λ first. absurd (behind first);
    }

module _ {R : Type 0} (gives : R → List ℕ → ReadEnd → Type 0) where
  pub reads_index : (old mid new : TableReading R) (r : MrtRecord) (place time collector : ℕ) (name : List ℕ) (peers : List IndexPeer)
      → PassesOver (gives old.reader) (gives mid.reader) place place → Takes (gives mid.reader) (gives new.reader) (r ∷ [])
      → part_of r ≡ Index → r.time ≡ time → IsIndex r.body collector name peers
      → ReadsIndex gives old new place time collector name peers
  reads_index old mid new r place time collector name peers before takes is_index time_is says =
      record {
        before = before.records;
        index = r;
        takes = takes_then (gives old.reader) (gives mid.reader) (gives new.reader) before.records (r ∷ []) before.takes takes;
        place_is = before.count;
        others = before.others;
        is_index = is_index;
        time_is = time_is;
        says = says;
      }

-- ---- the tables of a file

-- whole records were read, which begin tables at these times
pub record TellsTables (old new : List ℕ → ReadEnd → Type 0) (times : List ℕ) : Type 0 where
  pub records : List MrtRecord
  pub takes : Takes old new records
  pub times_are : times ≡ table_times records

pub tells_nothing : (old : List ℕ → ReadEnd → Type 0) → TellsTables old old []
tells_nothing old = record { records = []; takes = takes_nothing old; times_are = refl }

pub tells_index : (old mid new : List ℕ → ReadEnd → Type 0) (times : List ℕ) (r : MrtRecord) → TellsTables old mid times
    → Takes mid new (r ∷ []) → part_of r ≡ Index → TellsTables old new (times ++ r.time ∷ [])
tells_index old mid new times r before takes is =
    record {
      records = before.records ++ r ∷ [];
      takes = takes_then old mid new before.records (r ∷ []) before.takes takes;
      times_are = ap (λ all. all ++ r.time ∷ []) before.times_are
          ∙ sym (map-append (λ one. one.time) (indexes_of before.records) (r ∷ []))
          ∙ ap (map (λ one. one.time)) (ap (λ rs. indexes_of before.records ++ rs) (sym (one_index r is))
          ∙ sym (times_more before.records r));
    }

pub tells_other : (old mid new : List ℕ → ReadEnd → Type 0) (times : List ℕ) (r : MrtRecord) → TellsTables old mid times
    → Takes mid new (r ∷ []) → (part_of r ≡ Index → ⊥) → TellsTables old new times
tells_other old mid new times r before takes differs =
    record {
      records = before.records ++ r ∷ [];
      takes = takes_then old mid new before.records (r ∷ []) before.takes takes;
      times_are = before.times_are
          ∙ ap (map (λ one. one.time)) (sym (times_more before.records r ∙ ap (λ rs. indexes_of before.records ++ rs) (no_index r differs)
          ∙ append-nil (indexes_of before.records)));
    }

module _ {R : Type 0} (gives : R → List ℕ → ReadEnd → Type 0) where
  -- behind them the file ends, if the last one is whole
  pub reads_tables : (old last : TableReading R) (times : List ℕ) (whole : Bool)
      → TellsTables (gives old.reader) (gives last.reader) times → (whole ≡ true → gives last.reader [] FileEnds)
      → ReadsTables gives old times whole
  reads_tables old last times whole tells ends =
      let takes = tells.takes in
      record {
        octets = takes.octets;
        last = last;
        came = takes.came;
        whole_records = ap fault_of_rest (file_rest (gives old.reader) (gives last.reader) tells.records takes);
        times_are = tells.times_are
            ∙ ap table_times (sym (file_records (gives old.reader) (gives last.reader) tells.records takes));
        ends = λ is. file_given (gives old.reader) (gives last.reader) tells.records takes (ends is);
      }

-- ---- the whole table

module _ {R W : Type 0} (gives : R → List ℕ → ReadEnd → Type 0) (taken : W → Option (List ℕ)) where
  pub adds_nothing : (old : TableReading R) (olds : List (PeerSession W)) → Adds gives taken old old olds olds
  adds_nothing old olds =
      record { records = []; rows = []; takes = takes_nothing (gives old.reader); has = refl; go = all_nothing taken olds }

  pub adds_one : (old new : TableReading R) (olds news : List (PeerSession W)) (r : MrtRecord) (rows : List TableRow)
      → Takes (gives old.reader) (gives new.reader) (r ∷ []) → Has r rows → AllGo taken olds news rows
      → Adds gives taken old new olds news
  adds_one old new olds news r rows takes has go =
      record { records = r ∷ []; rows = rows ++ []; takes = takes; has = (rows, [], has, refl, refl); go = go_on }
    where
      go_on : AllGo taken olds news (rows ++ [])
      go_on = all_then taken olds news news rows [] go (all_nothing taken news)

  pub adds_then : (old mid new : TableReading R) (olds mids news : List (PeerSession W)) → Adds gives taken old mid olds mids
      → Adds gives taken mid new mids news → Adds gives taken old new olds news
  adds_then old mid new olds mids news first second =
      record {
        records = first.records ++ second.records;
        rows = first.rows ++ second.rows;
        takes = takes_then (gives old.reader) (gives mid.reader) (gives new.reader) first.records second.records first.takes second.takes;
        has = all_have first.records second.records first.rows second.rows first.has second.has;
        go = all_then taken olds mids news first.rows second.rows first.go second.go;
      }

  -- records were read behind the index, and then the table ends
  record Ended (first last : TableReading R) (records : List MrtRecord) (end : TableEnd) (after : List MrtRecord) : Type 0 where
    octets : List ℕ
    are : records_of octets ≡ records ++ after
    whole : end_of octets ≡ None
    given : Given gives taken first last octets end after

  ended : (first now last : TableReading R) (records : List MrtRecord) (end : TableEnd) (after : List MrtRecord)
      → Takes (gives first.reader) (gives now.reader) records → Ends gives taken now last end after → Ended first last records end after
  ended first now last records EndOfFile after takes ends =
      record {
        octets = takes.octets;
        are = file_records (gives first.reader) (gives now.reader) records takes
            ∙ sym (append-nil records) ∙ ap (λ rs. records ++ rs) (sym ends.1);
        whole = ap fault_of_rest (file_rest (gives first.reader) (gives now.reader) records takes);
        given = (file_given (gives first.reader) (gives now.reader) records takes ends.0, ends.1);
      }
  ended first now last records (NextIndex at) after takes ends =
      let next = ends.0 in
      let all = takes_then (gives first.reader) (gives now.reader) (gives last.reader) records (next ∷ []) takes ends.3 in
      record {
        octets = all.octets;
        are = file_records (gives first.reader) (gives last.reader) (records ++ next ∷ []) all
            ∙ ap (λ rs. records ++ rs) (sym ends.1);
        whole = ap fault_of_rest (file_rest (gives first.reader) (gives last.reader) (records ++ next ∷ []) all);
        given = (all.came, (next, ends.1, ends.2));
      }

  pub writes_table : (old new : TableReading R) (olds mids news : List (PeerSession W)) (end : TableEnd)
      → AddsAll gives taken old new olds mids end → AllEnd taken mids news [] → WritesTable gives taken old new olds news end
  writes_table old new olds mids news end adds ends first place time collector name peers index =
      let now = adds.now in
      let all = index.before ++ index.index ∷ [] in
      let records = adds.adds.records in
      let takes = takes_then (gives first.reader) (gives old.reader) (gives now.reader) all records index.takes adds.adds.takes in
      let there = ended first now new (all ++ records) end adds.after takes adds.ends in
      record {
        octets = there.octets;
        after = adds.after;
        given = there.given;
        rows = adds.adds.rows;
        is_table = record {
          before = index.before;
          index = index.index;
          behind = records;
          records = there.are ∙ append_assoc all records adds.after
              ∙ append_assoc index.before (index.index ∷ []) (records ++ adds.after);
          whole = there.whole;
          place_is = index.place_is;
          others = index.others;
          is_index = index.is_index;
          time_is = index.time_is;
          says = index.says;
          has = adds.adds.has;
        };
        all_end = all_end taken olds mids news adds.adds.rows adds.adds.go ends;
      }
