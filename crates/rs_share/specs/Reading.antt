-- The reader of a shared recording, and what goes to all its peers.
use Rattle.std.specs.Prelude.{◌≡◌, ℕ, ◌+◌, ◌≤◌, ◌^◌, true, List, [], ◌∷◌, ◌++◌, Option, Some, length, map, slice_get}
use Rattle.rs_mrt.specs.Record.{MrtRecord}
use Rattle.rs_mrt.specs.declared.fault.SourceFault.{SourceFault}
use Rattle.rs_types.specs.declared.peer_id.PeerId.{PeerId}
use Rattle.rs_share.specs.Lines.{IsEnded, MayGive, TellsOn}
use Rattle.rs_share.specs.Telling.{Comes, octets_in}
use Rattle.rs_share.specs.declared.line.Line.{Line}
use Rattle.rs_share.specs.declared.reader.Reader.{Reader}

module _ {S : Type 0} where
  -- whose records go through the lines
  abbrev pub ids_of : List (Line S) → List PeerId
  ids_of lines = map (λ (line : Line S). line.id) lines

  -- each peer was told what it hears of these records
  abbrev pub AllTell : List (Line S) → List MrtRecord → Type 0
  AllTell lines given = (place : ℕ) (line : Line S) → slice_get lines place ≡ Some line → TellsOn line given

  -- all lines are of this source
  abbrev pub AreOf : S → List (Line S) → Type 0
  AreOf source lines = (place : ℕ) (line : Line S) → slice_get lines place ≡ Some line → line.source.value ≡ source

  -- the records that were read so far, so many
  pub record AreAt (comes : Comes S) (room : S → ℕ) (lines : List (Line S)) (count : ℕ) : Type 0 where
    pub source : S
    pub given : List MrtRecord
    pub may : MayGive comes room source given
    pub tell : AllTell lines given
    pub are_of : AreOf source lines
    pub counted : length given ≡ count

  -- the same, and one more record behind them
  pub record AreAtMore (comes : Comes S) (room : S → ℕ) (lines : List (Line S)) (count : ℕ) (r : MrtRecord) : Type 0 where
    pub source : S
    pub given : List MrtRecord
    pub may : MayGive comes room source given
    pub more : MayGive comes room source (given ++ r ∷ [])
    pub tell : AllTell lines given
    pub are_of : AreOf source lines
    pub counted : length given ≡ count

  -- the records that were read are all, so many, and they end so
  abbrev pub AreEnded : Comes S → (S → ℕ) → List (Line S) → ℕ → Option SourceFault → Type 0
  AreEnded comes room lines count end =
      (place : ℕ) (line : Line S) → slice_get lines place ≡ Some line → line.open ≡ true → IsEnded comes room line count end

  -- the lines are of the same sources and the same peers as before
  pub record AreSameLines (old new : List (Line S)) : Type 0 where
    pub ids : ids_of new ≡ ids_of old
    pub sources : (source : S) → AreOf source old → AreOf source new

  -- each peer hears of one record more
  abbrev pub TellMore : List (Line S) → List (Line S) → ℕ → MrtRecord → Type 0
  TellMore old new count r =
      (given : List MrtRecord) → length given ≡ count → AllTell old given → AllTell new (given ++ r ∷ [])

  -- A reader: the records that it read are the first that its source may give, and each peer was told what it hears of
  -- them. The lines are those of the directory.
  pub record IsReading (comes : Comes S) (room : S → ℕ) (reader : Reader S) : Type 0 where
    pub source : S
    pub given : List MrtRecord
    pub walked : (later : List MrtRecord) (end : Option SourceFault) → comes reader.source later end
        → comes source (given ++ later) end
    pub octets : octets_in given + room reader.source ≤ room source
    pub few : room source ≤ 2 ^ 50
    pub tell : AllTell reader.lines.items given
    pub are_of : AreOf source reader.lines.items
    pub counted : length given ≡ reader.count
    pub ids : ids_of reader.lines.items ≡ reader.directory
