-- What happened on a prefix in the file of a peer, as far as the file was read (our choice: record by record).
use Rattle.std.specs.Prelude.{◌≡◌, ℕ, Bool, true, false, List, [], ◌∷◌, ◌++◌, Option, Some}
use Rattle.rs_update.specs.declared.errors.Errors.{Errors}
use Rattle.rs_mrt.specs.Record.{MrtRecord}
use Rattle.rs_mrt.specs.declared.fault.SourceFault.{SourceFault}
use Rattle.rs_mrt.specs.declared.fault.SourceFault.TheVariants as faults
use Rattle.rs_session.specs.Change.{Closed, is_read}
use Rattle.rs_session.specs.Effect.{RecordEffect, PassesOver, Gives, Ends, effect_of}
use Rattle.rs_session.specs.FileChanges.{ends}
use Rattle.rs_session.specs.Stage.{Comes}
use Rattle.rs_types.specs.declared.peer_id.PeerId.{PeerId}
use Rattle.rs_change.specs.declared.word.Reason.{Reason}
use Rattle.rs_glass.specs.FileSaid.{SaidChange, counts_at, moment_of, said_in, said_of}
use Rattle.rs_glass.specs.Happened.{contents_of, happened_in}
use Rattle.rs_glass.specs.Moments.{later_of}
use Rattle.rs_glass.specs.declared.fault.GlassFault.{GlassFault}
use Rattle.rs_glass.specs.declared.fault.GlassFault.TheVariants.{Memory, Read}
use Rattle.rs_glass.specs.declared.listing.Listing.{Listing}
use Rattle.rs_glass.specs.declared.question.Question.{Question}

-- what happened by these changes is listed, and a later change counts no earlier than the latest moment
pub record IsListing (question : Question) (peer : ℕ) (said : List SaidChange) (listing : Listing) : Type 0 where
  pub question_is : listing.question ≡ question
  pub peer_is : listing.peer ≡ peer
  pub latest : (next : SaidChange) → counts_at said next ≡ later_of listing.latest (moment_of next)
  pub lists : contents_of listing.all.items ≡ happened_in question peer said

-- the listing takes these changes, after all earlier ones
abbrev pub Lists : Listing → List SaidChange → Listing → Type 0
Lists old more new =
    (question : Question) (peer : ℕ) (said : List SaidChange) → IsListing question peer said old
    → IsListing question peer (said ++ more) new

-- a session goes on after a record, unless the record ends it; no record can say that records cannot be read
abbrev pub GoesOnBy : RecordEffect → Bool → Type 0
GoesOnBy PassesOver goes_on = goes_on ≡ true
GoesOnBy (Gives changes) goes_on = goes_on ≡ true
GoesOnBy (Ends reason) goes_on = (goes_on ≡ false) × (is_read reason ≡ false)

module _ {S : Type 0} (comes : Comes S) (errors : Errors) (peer : PeerId) (old new : S) (before after : Listing) where
  -- the next record is taken, and the session goes on
  pub record TakesRecord : Type 0 where
    pub next : MrtRecord
    pub come : (later : List MrtRecord) (end : Option SourceFault) → comes new later end → comes old (next ∷ later) end
    pub goes_on : ends (effect_of errors peer next) ≡ false
    pub lists : Lists before (said_of errors peer next) after

  -- the close of the session is taken, for a reason other than a failed read
  pub record TakesClose : Type 0 where
    pub records : List MrtRecord
    pub end : Option SourceFault
    pub come : comes old records end
    pub close : SaidChange
    pub reason : Reason
    pub is_close : close.change.body ≡ Closed reason
    pub readable : is_read reason ≡ false
    pub says : said_in errors peer records end ≡ close ∷ []
    pub lists : Lists before (close ∷ []) after

  abbrev pub TakesNext : Bool → Type 0
  TakesNext true = TakesRecord
  TakesNext false = TakesClose

-- no record is taken, because a read failed or memory was refused
abbrev pub FailsNext : {S : Type 0} → Comes S → S → ℕ → GlassFault → Type 0
FailsNext comes old peer Memory = Unit {0}
FailsNext comes old peer (Read faulty) = (faulty ≡ peer) × comes old [] (Some faults.Read)
