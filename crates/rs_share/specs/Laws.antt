-- What is true of the definitions: each statement is the contract of a function that does nothing.
use Rattle.std.specs.Prelude.{◌≡◌, List, Option}
use Rattle.rs_mrt.specs.Record.{MrtRecord}
use Rattle.rs_mrt.specs.declared.fault.SourceFault.{SourceFault}
use Rattle.rs_session.specs.FileChanges.{changes_of, passed_of}
use Rattle.rs_types.specs.declared.peer_id.PeerId.{PeerId}
use Rattle.rs_update.specs.declared.errors.Errors.{Errors}
use Rattle.rs_share.specs.Own.{heard, own}
use Rattle.rs_share.specs.Sharing.{ComesOf, untaken}
use Rattle.rs_share.specs.Taking.{MayCome}
use Rattle.rs_share.specs.Telling.{Comes}

-- a session over the records that are for its peer gives the changes of a session over all records
abbrev pub OwnSaysTheSame : Type 0
OwnSaysTheSame =
    (errors : Errors) (peer : PeerId) (records : List MrtRecord) (end : Option SourceFault)
    → changes_of errors peer (own peer records) end ≡ changes_of errors peer records end

-- no record that is for the peer is passed over
abbrev pub NoOwnIsPassed : Type 0
NoOwnIsPassed =
    (errors : Errors) (peer : PeerId) (records : List MrtRecord) → passed_of errors peer (own peer records) ≡ 0

-- a session over what its peer hears gives the same changes, and passes over as many records
pub record HearsTheSame (errors : Errors) (peer : PeerId) (records : List MrtRecord) (end : Option SourceFault) : Type 0 where
  pub changes : changes_of errors peer (heard peer records) end ≡ changes_of errors peer records end
  pub passed : passed_of errors peer (heard peer records) ≡ passed_of errors peer records

abbrev pub HeardSaysTheSame : Type 0
HeardSaysTheSame =
    (errors : Errors) (peer : PeerId) (records : List MrtRecord) (end : Option SourceFault)
    → HearsTheSame errors peer records end

-- what may come for a peer of a shared reading, before anything is read
abbrev pub TakesOwn : {S : Type 0} → Comes S → Type 0
TakesOwn {S} comes =
    (source : S) (peer : PeerId) (records : List MrtRecord) (end : Option SourceFault)
    → MayCome comes (untaken source peer) records end → ComesOf comes source peer records end
