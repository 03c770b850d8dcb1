-- What a session over a source of records may tell. Which records the source will show is unknown, so statements speak
-- of each list of changes that the session may give. Nothing here is from a standard: all of it is our choice.
use Rattle.std.specs.Prelude.{◌≡◌, ℕ, false, List, [], ◌∷◌, ◌++◌, Option}
use Rattle.rs_mrt.specs.Record.{MrtRecord}
use Rattle.rs_change.specs.Change.{Change, is_read}
use Rattle.rs_change.specs.declared.word.Reason.{Reason}
use Rattle.rs_change.specs.declared.word.Reason.TheVariants as reasons
use Rattle.rs_session.specs.FileChanges.{close_at}
use Rattle.rs_session.specs.Given.{AreEach, FailsFirstAt}
use Rattle.rs_session.specs.Stage.{Comes, May, fresh}
use Rattle.rs_types.specs.declared.peer_id.PeerId.{PeerId}
use Rattle.rs_update.specs.declared.errors.Errors.{Errors}

-- what a session tells: all its changes, and how many records it passes over
pub record Told : Type 0 where
  pub changes : List Change
  pub passed : ℕ

-- the last change is a close for this reason
pub record ClosesFor (changes : List Change) (reason : Reason) : Type 0 where
  pub before : List Change
  pub time : ℕ
  pub splits : changes ≡ before ++ close_at time reason ∷ []

module _ {S : Type 0} (comes : Comes S) (shows : S → Option MrtRecord) (errors : Errors) where
  -- the session of the peer over the source may tell this
  abbrev pub MayTell : PeerId → S → Told → Type 0
  MayTell peer source told = May comes shows (fresh source peer errors) told.changes told.passed

  -- it may tell this, and does not close because records cannot be read
  pub record Tells (peer : PeerId) (source : S) (told : Told) : Type 0 where
    pub may : MayTell peer source told
    pub reason : Reason
    pub closes : ClosesFor told.changes reason
    pub read : is_read reason ≡ false

  -- the session may close because records cannot be read
  pub record MayFailToTell (peer : PeerId) (source : S) : Type 0 where
    pub told : Told
    pub may : MayTell peer source told
    pub closes : ClosesFor told.changes reasons.Read

  -- there is for each peer what its session may tell, and the statement is true of that
  abbrev pub OverTold : List PeerId → List S → (List Told → Type 0) → Type 0
  OverTold peers sources Holds = (all : List Told) × AreEach Tells peers sources all × Holds all

  -- the session over the source at this place may fail, and those before it may tell their changes
  abbrev pub MayFailToTellAt : List PeerId → List S → ℕ → Type 0
  MayFailToTellAt = FailsFirstAt Tells MayFailToTell
