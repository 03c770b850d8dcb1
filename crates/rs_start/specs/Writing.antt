-- The beginning of a session that is being written. Nothing here is from a standard: all of it is our choice.
use Rattle.std.specs.Prelude.{◌≡◌, ℕ, List, [], ◌++◌, Option, map}
use Rattle.std.specs.List.{AllByRecursion}
use Rattle.std.specs.Io.KnownBytes.{Appends}
use Rattle.rs_session.specs.FileChanges.{changes_in_by}
use Rattle.rs_update.specs.declared.errors.Errors.{Errors}
use Rattle.rs_start.specs.declared.start.Start.{Start}
use Rattle.rs_start.specs.Opening.{Announcing, IsSound, TableRoute, announced, opening_spelling, routes_in}
use Rattle.rs_start.specs.Opening.{updates_spelling}

-- the writer, whose session it is, the octets that wait to be written, and the UPDATE that is being filled, if there
-- is one
pub record Writing (W : Type 0) : Type 0 where
  pub out : W
  pub start : Start
  pub waiting : List ℕ
  pub held : List Announcing

-- The octets that a writer has taken since, and those that wait, begin a session with these routes. Routes of the
-- UPDATE that is being filled count among these, though their octets are still to come.
pub record IsBegun {W : Type 0} (taken : W → Option (List ℕ)) (before : Option (List ℕ)) (writing : Writing W)
    (routes : List TableRoute) : Type 0 where
  pub sent : List ℕ
  pub updates : List Announcing
  pub appends : Appends before (taken writing.out) sent
  pub follows : sent ++ writing.waiting ≡ opening_spelling writing.start updates
  pub sound : AllByRecursion IsSound updates
  pub adds_up : routes_in updates ++ routes_in writing.held ≡ routes

-- after this, the session begins with these further routes
abbrev pub Goes : {W : Type 0} → (W → Option (List ℕ)) → Writing W → Writing W → List TableRoute → Type 0
Goes taken old new more =
    (before : Option (List ℕ)) (routes : List TableRoute) → IsBegun taken before old routes
    → IsBegun taken before new (routes ++ more)

-- These octets, read as the peer's session, give one announcement for each of these routes, in order and at the
-- start's time. Then come the changes of the octets behind them. If there are none, that is the close at the end of
-- the file.
abbrev pub Announces : Start → List ℕ → List TableRoute → Type 0
Announces start octets routes =
    (errors : Errors) (behind : List ℕ)
    → changes_in_by errors start.peer (octets ++ behind)
    ≡ map (announced start.time) routes ++ changes_in_by errors start.peer behind

-- all is written: the writer has since taken exactly the octets that announce these routes
pub record IsWhole (before now : Option (List ℕ)) (start : Start) (routes : List TableRoute) : Type 0 where
  pub octets : List ℕ
  pub appends : Appends before now octets
  pub announces : Announces start octets routes

abbrev pub Ends : {W : Type 0} → (W → Option (List ℕ)) → Writing W → Writing W → Type 0
Ends taken old new =
    (before : Option (List ℕ)) (routes : List TableRoute) → IsBegun taken before old routes
    → IsWhole before (taken new.out) old.start routes

-- the waiting octets were written
pub record Flushes {W : Type 0} (taken : W → Option (List ℕ)) (old new : Writing W) : Type 0 where
  pub appends : Appends (taken old.out) (taken new.out) old.waiting
  pub waiting : new.waiting ≡ []
  pub start : new.start ≡ old.start
  pub held : new.held ≡ old.held

-- the UPDATE that was being filled waits to be written
pub record Closes {W : Type 0} (old new : Writing W) : Type 0 where
  pub sound : AllByRecursion IsSound old.held
  pub waiting : new.waiting ≡ old.waiting ++ updates_spelling old.start old.held
  pub held : new.held ≡ []
  pub out : new.out ≡ old.out
  pub start : new.start ≡ old.start
