-- The session of a recorded file, what is still to come of it, change by change: for `new` and `send` of lane.rt.
use Rattle.std.proofs.Common.{◌≡◌, ℕ, List, [], ◌∷◌, Option, Some, None, Ok, refl, sym, ap, ◌∙◌}
use Rattle.rs_mrt.specs.Record.{MrtRecord, Reading}
use Rattle.rs_mrt.specs.Source.{IsLeft, source_end}
use Rattle.rs_mrt.specs.declared.fault.SourceFault.{SourceFault}
use Rattle.rs_session.specs.Change.{Change, change_of}
use Rattle.rs_session.specs.Stage.{Stage, May, Keeps, Says, SaysJust, to_read, changes_left, passed_in_the_end}
use Rattle.rs_change.specs.declared.word.Word.{Word}
use Rattle.rs_floor.specs.Lane.{to_come}

-- what a file as a source may give, and shows
abbrev pub comes : Reading → List MrtRecord → Option SourceFault → Type 0
comes reading later end = IsLeft reading later end

abbrev pub shows : Reading → Option MrtRecord
shows reading = reading.shown

abbrev pub records_to_come : Stage Reading → List MrtRecord
records_to_come stage = to_read stage.held stage.source.shown stage.source.left

-- they may come
pub to_come-may : (stage : Stage Reading) → May comes shows stage (to_come stage) (passed_in_the_end stage (records_to_come stage))
to_come-may stage = record {
  records = records_to_come stage;
  end = source_end stage.source.end;
  may_read = record { later = stage.source.left; come = (refl, refl); read = refl };
  left = refl;
  counted = refl;
}

-- and no others may
pub to_come-only : (stage : Stage Reading) (changes : List Change) (passed : ℕ) → May comes shows stage changes passed
    → changes ≡ to_come stage
to_come-only stage changes passed m =
    let records-are : m.records ≡ records_to_come stage =
    m.may_read.read ∙ ap (λ (later : List MrtRecord). to_read stage.held stage.source.shown later) m.may_read.come.0 in
    m.left ∙ ap (λ (rs : List MrtRecord). changes_left stage rs m.end) records-are
    ∙ ap (λ (e : Option SourceFault). changes_left stage (records_to_come stage) e) m.may_read.come.1

-- at first what the file says
pub to_come-says : (stage : Stage Reading) (changes : List Change) (passed : ℕ) → SaysJust comes shows stage changes passed
    → to_come stage ≡ changes
to_come-says stage changes passed h = ((h (to_come stage) (passed_in_the_end stage (records_to_come stage))).0 (to_come-may stage)).0

-- a change that is given was the first to come
pub to_come-given : (old new : Stage Reading) (word : Word) → Says comes shows old new (Ok (Some word))
    → to_come old ≡ change_of word ∷ to_come new
to_come-given old new word says =
    sym (to_come-only old (change_of word ∷ to_come new) (passed_in_the_end new (records_to_come new))
    (says.0 (to_come new) (passed_in_the_end new (records_to_come new)) (to_come-may new)))

-- nothing is given where nothing is to come
pub to_come-none : (old new : Stage Reading) → Says comes shows old new (Ok None) → to_come old ≡ []
to_come-none old new says = (says.0 (to_come old) (passed_in_the_end old (records_to_come old)) (to_come-may old)).0

-- refused, what is to come stays
pub to_come-kept : (old new : Stage Reading) → Keeps comes shows old new → to_come new ≡ to_come old
to_come-kept old new keeps =
    to_come-only old (to_come new) (passed_in_the_end new (records_to_come new))
    (keeps (to_come new) (passed_in_the_end new (records_to_come new)) (to_come-may new))
