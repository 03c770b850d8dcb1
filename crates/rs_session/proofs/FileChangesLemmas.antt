-- What records say, record by record.
use Rattle.std.proofs.Common.{◌≡◌, ℕ, ◌+◌, true, false, not, List, [], ◌∷◌, ◌++◌, Option, refl, ◌∙◌, ap, arith, append_assoc, find}
use Rattle.std.proofs.Common.{count_by, cond}
use Rattle.std.specs.List.{flat_map}
use Rattle.std.proofs.lemmas.List.Sums.{take_while-cons, sum_by-cons}
use Rattle.rs_mrt.specs.Record.{MrtRecord}
use Rattle.rs_mrt.specs.declared.fault.SourceFault.{SourceFault}
use Rattle.rs_change.specs.Change.{Change}
use Rattle.rs_session.specs.Effect.{PassesOver, Gives, Ends, effect_of}
use Rattle.rs_session.specs.FileChanges.{changes_of, passed_of, close_at, reason_at_end, open_records, ends, passes_over, changes_by}
use Rattle.rs_session.specs.FileChanges.{closing}
use Rattle.rs_update.specs.declared.errors.Errors.{Errors}
use Rattle.rs_types.specs.declared.peer_id.PeerId.{PeerId}
use Rattle.rs_change.specs.declared.word.Reason.{Reason}

-- no records
pub changes_of-nil : (errors : Errors) (peer : PeerId) (end : Option SourceFault)
    → changes_of errors peer [] end ≡ close_at 0 (reason_at_end end) ∷ []
unfolding changes_of
changes_of-nil errors peer end = refl

pub passed_of-nil : (errors : Errors) (peer : PeerId) → passed_of errors peer [] ≡ 0
unfolding passed_of
passed_of-nil errors peer = refl

-- the session stays open at a record that doesn't end it
open_records-on : (errors : Errors) (peer : PeerId) (r : MrtRecord) (later : List MrtRecord) → ends (effect_of errors peer r) ≡ false
    → open_records errors peer (r ∷ later) ≡ r ∷ open_records errors peer later
open_records-on errors peer r later h =
    take_while-cons (λ x. not (ends (effect_of errors peer x))) r later ∙ ap (λ b. cond (not b) (r ∷ open_records errors peer later) []) h

open_records-end : (errors : Errors) (peer : PeerId) (r : MrtRecord) (later : List MrtRecord) → ends (effect_of errors peer r) ≡ true
    → open_records errors peer (r ∷ later) ≡ []
open_records-end errors peer r later h =
    take_while-cons (λ x. not (ends (effect_of errors peer x))) r later ∙ ap (λ b. cond (not b) (r ∷ open_records errors peer later) []) h

-- what the records that are read say, and then the close
changes_with : Errors → PeerId → List MrtRecord → Option SourceFault → List MrtRecord → List Change
changes_with errors peer read end records =
    flat_map (λ r. changes_by r.time (effect_of errors peer r)) read
    ++ closing errors peer end (find (λ r. ends (effect_of errors peer r)) records)

count_passed : Errors → PeerId → List MrtRecord → ℕ
count_passed errors peer read = count_by (λ r. passes_over (effect_of errors peer r)) read

-- a record that is passed over
pub changes_of-passes : (errors : Errors) (peer : PeerId) (r : MrtRecord) (later : List MrtRecord) (end : Option SourceFault)
    → effect_of errors peer r ≡ PassesOver → changes_of errors peer (r ∷ later) end ≡ changes_of errors peer later end
unfolding changes_of changes_with
changes_of-passes errors peer r later end e =
    ap (λ read. changes_with errors peer read end (r ∷ later)) (open_records-on errors peer r later (ap ends e)) ∙ rw e refl

pub passed_of-passes : (errors : Errors) (peer : PeerId) (r : MrtRecord) (later : List MrtRecord) → effect_of errors peer r ≡ PassesOver
    → passed_of errors peer (r ∷ later) ≡ 1 + passed_of errors peer later
unfolding passed_of count_passed
passed_of-passes errors peer r later e =
    ap (count_passed errors peer) (open_records-on errors peer r later (ap ends e))
    ∙ sum_by-cons (λ x. cond (passes_over (effect_of errors peer x)) 1 0) r (open_records errors peer later)
    ∙ rw e refl

-- a record that gives changes
pub changes_of-gives : (errors : Errors) (peer : PeerId) (r : MrtRecord) (changes : List Change) (later : List MrtRecord)
    (end : Option SourceFault) → effect_of errors peer r ≡ Gives changes
    → changes_of errors peer (r ∷ later) end ≡ changes ++ changes_of errors peer later end
unfolding changes_of changes_with
changes_of-gives errors peer r changes later end e =
    ap (λ read. changes_with errors peer read end (r ∷ later)) (open_records-on errors peer r later (ap ends e))
    ∙ rw e (append_assoc changes _ _)

pub passed_of-gives : (errors : Errors) (peer : PeerId) (r : MrtRecord) (changes : List Change) (later : List MrtRecord)
    → effect_of errors peer r ≡ Gives changes → passed_of errors peer (r ∷ later) ≡ passed_of errors peer later
unfolding passed_of count_passed
passed_of-gives errors peer r changes later e =
    ap (count_passed errors peer) (open_records-on errors peer r later (ap ends e))
    ∙ sum_by-cons (λ x. cond (passes_over (effect_of errors peer x)) 1 0) r (open_records errors peer later)
    ∙ rw e (omega arith)

-- a record that ends the session
pub changes_of-ends : (errors : Errors) (peer : PeerId) (r : MrtRecord) (reason : Reason) (later : List MrtRecord)
    (end : Option SourceFault) → effect_of errors peer r ≡ Ends reason
    → changes_of errors peer (r ∷ later) end ≡ close_at r.time reason ∷ []
unfolding changes_of changes_with
changes_of-ends errors peer r reason later end e =
    ap (λ read. changes_with errors peer read end (r ∷ later)) (open_records-end errors peer r later (ap ends e)) ∙ rw (e, e) refl

pub passed_of-ends : (errors : Errors) (peer : PeerId) (r : MrtRecord) (reason : Reason) (later : List MrtRecord)
    → effect_of errors peer r ≡ Ends reason → passed_of errors peer (r ∷ later) ≡ 0
unfolding passed_of count_passed
passed_of-ends errors peer r reason later e = ap (count_passed errors peer) (open_records-end errors peer r later (ap ends e))
