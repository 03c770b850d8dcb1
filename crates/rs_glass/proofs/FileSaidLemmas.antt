-- What records say, each change with its record, record by record.
use Rattle.std.proofs.Common.{◌≡◌, ◌∙◌, sym, ap, subst, refl, Bool, true, false, cond, not, List, [], ◌∷◌, ◌++◌, Option, Some}
use Rattle.std.proofs.Common.{None, find, append_assoc}
use Rattle.std.specs.Prelude.{map}
use Rattle.std.specs.List.{flat_map}
use Rattle.std.proofs.lemmas.List.{map-append}
use Rattle.std.proofs.lemmas.List.Sums.{take_while-cons}
use Rattle.rs_update.specs.declared.errors.Errors.{Errors}
use Rattle.rs_mrt.specs.Record.{MrtRecord}
use Rattle.rs_mrt.specs.declared.fault.SourceFault.{SourceFault}
use Rattle.rs_mrt.specs.declared.fault.SourceFault.TheVariants as faults
use Rattle.rs_session.specs.Change.{Change, ChangeBody, Closed, is_read}
use Rattle.rs_session.specs.Effect.{effect_of}
use Rattle.rs_session.specs.FileChanges.{changes_by, changes_of, closing, ends, open_records}
use Rattle.rs_session.specs.Stage.{Comes, fresh, passed_in_the_end}
use Rattle.rs_types.specs.declared.peer_id.PeerId.{PeerId}
use Rattle.rs_change.specs.declared.word.Reason.{Reason}
use Rattle.rs_change.specs.declared.word.Reason.TheVariants as reasons
use Rattle.rs_glass.specs.FileSaid.{SaidChange, all_said_by, closing_at_end, said_in, said_last, said_of}
use Rattle.rs_glass.specs.Happened.{IsSaidWhole}
use Rattle.rs_glass.specs.Recorded.{AreChangesOf, ClosesUnread, close_after, close_in, is_failed_read}
use Rattle.rs_glass.specs.declared.question.Question.{Question}
use Rattle.rs_glass.proofs.SaidLemmas.{close_in-more}

-- ---- the changes alone

changes : List SaidChange → List Change
changes = map (λ (one : SaidChange). one.change)

all_said_by-changes : (r : MrtRecord) (all : List Change) → changes (all_said_by r all) ≡ all
unfolding changes
all_said_by-changes r [] = refl
all_said_by-changes r (first ∷ later) = ap (λ (rest : List Change). first ∷ rest) (all_said_by-changes r later)

module _ (errors : Errors) (peer : PeerId) where
  by_record : MrtRecord → List Change
  by_record r = changes_by r.time (effect_of errors peer r)

  flat_map-changes : (records : List MrtRecord) → changes (flat_map (said_of errors peer) records) ≡ flat_map by_record records
  unfolding changes by_record
  flat_map-changes [] = refl
  flat_map-changes (r ∷ later) =
      map-append (λ (one : SaidChange). one.change) (said_of errors peer r) (flat_map (said_of errors peer) later)
      ∙ ap (λ (all : List Change). all ++ changes (flat_map (said_of errors peer) later)) (all_said_by-changes r (by_record r))
      ∙ ap (λ (all : List Change). by_record r ++ all) (flat_map-changes later)

  said_last-changes : (end : Option SourceFault) (found : Option MrtRecord)
      → changes (said_last errors peer end found) ≡ closing errors peer end found
  unfolding changes
  said_last-changes end (Some r) = all_said_by-changes r (changes_by r.time (effect_of errors peer r))
  said_last-changes end None = refl

  -- they are all changes of the session
  pub said_in-changes : (records : List MrtRecord) (end : Option SourceFault)
      → map (λ (one : SaidChange). one.change) (said_in errors peer records end) ≡ changes_of errors peer records end
  unfolding said_in changes_of changes by_record
  said_in-changes records end =
      let found = find (λ r. ends (effect_of errors peer r)) records in
      map-append (λ (one : SaidChange). one.change) (flat_map (said_of errors peer) (open_records errors peer records))
      (said_last errors peer end found)
      ∙ ap (λ (all : List Change). all ++ changes (said_last errors peer end found)) (flat_map-changes (open_records errors peer records))
      ∙ ap (λ (all : List Change). flat_map by_record (open_records errors peer records) ++ all) (said_last-changes end found)

  -- ---- one record more

  said_with : List MrtRecord → Option SourceFault → List MrtRecord → List SaidChange
  said_with read end records =
      flat_map (said_of errors peer) read ++ said_last errors peer end (find (λ r. ends (effect_of errors peer r)) records)

  open_records-by : (r : MrtRecord) (later : List MrtRecord) (b : Bool) → ends (effect_of errors peer r) ≡ b
      → open_records errors peer (r ∷ later) ≡ cond (not b) (r ∷ open_records errors peer later) []
  open_records-by r later b is =
      take_while-cons (λ x. not (ends (effect_of errors peer x))) r later
      ∙ ap (λ (d : Bool). cond (not d) (r ∷ open_records errors peer later) []) is

  -- the session goes on after it
  pub said_in-on : (r : MrtRecord) (later : List MrtRecord) (end : Option SourceFault) → ends (effect_of errors peer r) ≡ false
      → said_in errors peer (r ∷ later) end ≡ said_of errors peer r ++ said_in errors peer later end
  unfolding said_in said_with
  said_in-on r later end on =
      let found = find (λ x. ends (effect_of errors peer x)) later in
      let read = flat_map (said_of errors peer) (open_records errors peer later) in
      ap (λ (all : List MrtRecord). said_with all end (r ∷ later)) (open_records-by r later false on)
      ∙ ap (λ (b : Bool). (said_of errors peer r ++ read) ++ said_last errors peer end (cond b (Some r) found)) on
      ∙ append_assoc (said_of errors peer r) read (said_last errors peer end found)

  -- it ends the session
  pub said_in-ends : (r : MrtRecord) (later : List MrtRecord) (end : Option SourceFault) → ends (effect_of errors peer r) ≡ true
      → said_in errors peer (r ∷ later) end ≡ said_of errors peer r
  unfolding said_in said_with
  said_in-ends r later end closed =
      ap (λ (all : List MrtRecord). said_with all end (r ∷ later)) (open_records-by r later true closed)
      ∙ ap (λ (b : Bool). said_last errors peer end (cond b (Some r) (find (λ x. ends (effect_of errors peer x)) later))) closed

  -- none comes
  pub said_in-nil : (end : Option SourceFault) → said_in errors peer [] end ≡ said_last errors peer end None
  unfolding said_in
  said_in-nil end = refl

  -- ---- records that came

  module _ {S : Type 0} (comes : Comes S) (start : S) where
    -- these changes were said by records that came before whatever may come
    pub record HasSaid (said : List SaidChange) (source : S) : Type 0 where
      pub came : List MrtRecord
      pub before : (later : List MrtRecord) (end : Option SourceFault) → comes source later end → comes start (came ++ later) end
      pub splits : (later : List MrtRecord) (end : Option SourceFault)
          → said_in errors peer (came ++ later) end ≡ said ++ said_in errors peer later end

    pub has_said-none : HasSaid [] start
    has_said-none = record {
      came = [];
      before = λ later end come. come;
      splits = λ later end. refl;
    }

    pub has_said-more : (said : List SaidChange) (old new : S) (r : MrtRecord) → HasSaid said old
        → ((later : List MrtRecord) (end : Option SourceFault) → comes new later end → comes old (r ∷ later) end)
        → ends (effect_of errors peer r) ≡ false → HasSaid (said ++ said_of errors peer r) new
    has_said-more said old new r is come on = record {
      came = is.came ++ r ∷ [];
      before = λ later end c. subst (λ (all : List MrtRecord). comes start all end) (sym (append_assoc is.came (r ∷ []) later))
          (is.before (r ∷ later) end (come later end c));
      splits = λ later end.
          ap (λ (all : List MrtRecord). said_in errors peer all end) (append_assoc is.came (r ∷ []) later)
          ∙ is.splits (r ∷ later) end
          ∙ ap (λ (all : List SaidChange). said ++ all) (said_in-on r later end on)
          ∙ sym (append_assoc said (said_of errors peer r) (said_in errors peer later end));
    }

-- ---- all of a session

-- why a session closes is why the last change closes it
closed-last : (said : List SaidChange) (close : SaidChange) (reason : Reason) → close.change.body ≡ Closed reason
    → is_failed_read (close_in (map (λ (one : SaidChange). one.change) (said ++ close ∷ []))) ≡ is_read reason
closed-last said close reason is =
    ap (λ (all : List Change). is_failed_read (close_in all)) (map-append (λ (one : SaidChange). one.change) said (close ∷ []))
    ∙ ap is_failed_read (close_in-more (map (λ (one : SaidChange). one.change) said) close.change)
    ∙ ap (λ (body : ChangeBody). is_failed_read (close_after (close_in (map (λ (one : SaidChange). one.change) said)) body)) is

module _ {S : Type 0} (comes : Comes S) (shows : S → Option MrtRecord) (question : Question) (peer : PeerId) (start : S) where
  -- the changes of records that may come are those that the session may tell
  said-come : (said : List SaidChange) (records : List MrtRecord) (end : Option SourceFault) → comes start records end
      → said ≡ said_in question.errors peer records end
      → AreChangesOf comes shows question peer start (map (λ (one : SaidChange). one.change) said)
  said-come said records end come is = record {
    passed = passed_in_the_end (fresh start peer question.errors) records;
    says = record {
      records = records;
      end = end;
      may_read = record { later = records; come = come; read = refl };
      left = ap (map (λ (one : SaidChange). one.change)) is ∙ said_in-changes question.errors peer records end;
      counted = refl;
    };
  }

  module _ (said : List SaidChange) (source : S) (so_far : HasSaid question.errors peer comes start said source) where
    -- it closes for another reason than a failed read
    pub said-whole : (records : List MrtRecord) (end : Option SourceFault) (close : SaidChange) (reason : Reason)
        → comes source records end → said_in question.errors peer records end ≡ close ∷ []
        → close.change.body ≡ Closed reason → is_read reason ≡ false
        → IsSaidWhole comes shows question peer start (said ++ close ∷ [])
    said-whole records end close reason come says closes readable =
        let is : said ++ close ∷ [] ≡ said_in question.errors peer (so_far.came ++ records) end =
        sym (so_far.splits records end ∙ ap (λ (all : List SaidChange). said ++ all) says) in
        let all_come = so_far.before records end come in
        record {
          records = so_far.came ++ records;
          end = end;
          come = all_come;
          said_is = is;
          says = said-come (said ++ close ∷ []) (so_far.came ++ records) end all_come is;
          unfailed = closed-last said close reason closes ∙ readable;
        }

    -- or a read failed
    pub said-unread : comes source [] (Some faults.Read) → ClosesUnread comes shows question peer start
    said-unread come =
        let close : SaidChange = closing_at_end reasons.Read in
        let is : said ++ close ∷ [] ≡ said_in question.errors peer (so_far.came ++ []) (Some faults.Read) =
        sym (so_far.splits [] (Some faults.Read)
        ∙ ap (λ (all : List SaidChange). said ++ all) (said_in-nil question.errors peer (Some faults.Read))) in (
          map (λ (one : SaidChange). one.change) (said ++ close ∷ []),
          said-come (said ++ close ∷ []) (so_far.came ++ []) (Some faults.Read) (so_far.before [] (Some faults.Read) come) is,
          closed-last said close reasons.Read refl,
        )
