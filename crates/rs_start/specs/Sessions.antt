-- The sessions into which a table is read. Nothing here is from a standard: all of it is our choice.
use Rattle.std.specs.Prelude.{◌≡◌, ℕ, ◌<◌, List, [], ◌++◌, ◌∷◌, length, Option, Some, None, slice_index_or}
use Rattle.rs_mrt.specs.Reader.{ReadEnd, FileEnds}
use Rattle.rs_mrt.specs.Record.{MrtRecord}
use Rattle.rs_update.specs.IpPrefix.{IpPrefix}
use Rattle.rs_start.specs.Counting.{Counted, outcomes_from}
use Rattle.rs_start.specs.Opening.{TableRoute}
use Rattle.rs_start.specs.Table.{Leads, TableEntry, entry_at}
use Rattle.rs_start.specs.TableFile.{AllHave, HasRoutes, IsTable, TableRow, part_of, rows_of, told_from}
use Rattle.rs_start.specs.TableReading.{Came, ReadsIndex, TableReading, Takes}
use Rattle.rs_start.specs.Writing.{Goes, IsBegun, IsWhole, Writing}
use Rattle.rs_start.specs.declared.index.IndexPeer.{IndexPeer}
use Rattle.rs_start.specs.declared.part.Part.TheVariants.{Index}
use Rattle.rs_start.specs.declared.part.TableEnd.{TableEnd}
use Rattle.rs_start.specs.declared.part.TableEnd.TheVariants.{EndOfFile, NextIndex}
use Rattle.rs_start.specs.declared.fault.RoutesFault.{RoutesFault}
use Rattle.rs_start.specs.declared.fault.RoutesFault.TheVariants.{Table, Memory, Write}
use Rattle.rs_start.specs.declared.sessions.EntriesFault.{EntriesFault}
use Rattle.rs_start.specs.declared.sessions.EntriesFault.TheVariants as EntriesFault
use Rattle.rs_start.specs.declared.sessions.PeerSession.{PeerSession}

-- what became of the rows of each peer is counted for that peer
abbrev pub CountsGo : {W : Type 0} → List (PeerSession W) → List (PeerSession W) → List TableRow → Type 0
CountsGo {W} olds news rows =
    (place : ℕ) (d : PeerSession W) → place < length olds
    → Counted (slice_index_or olds place d).counts (slice_index_or news place d).counts
    (outcomes_from (slice_index_or olds place d).writer place rows)

-- ---- failed writes

module _ {W : Type 0} (failures : W → ℕ) where
  -- the writer of a session has failed
  abbrev pub HasFailed : Option (Writing W) → Type 0
  HasFailed (Some writing) = 0 < failures writing.out
  HasFailed None = ⊥

  -- that of the peer at a place of the index has
  pub record PeerFailed (sessions : List (PeerSession W)) (place : ℕ) : Type 0 where
    pub known : place < length sessions
    pub failed : (d : PeerSession W) → HasFailed (slice_index_or sessions place d).writer

  -- a fault of a write names such a peer
  abbrev pub NamesPeer : List (PeerSession W) → RoutesFault → Type 0
  NamesPeer sessions (Write place) = PeerFailed sessions place
  NamesPeer sessions (Table fault) = Unit {0}
  NamesPeer sessions Memory = Unit {0}

  -- the same of the entries of a record
  abbrev pub EntriesNamePeer : List (PeerSession W) → EntriesFault → Type 0
  EntriesNamePeer sessions (EntriesFault.Write place) = PeerFailed sessions place
  EntriesNamePeer sessions (EntriesFault.Part fault) = Unit {0}
  EntriesNamePeer sessions EntriesFault.Memory = Unit {0}

-- ---- sessions that go on

module _ {W : Type 0} (taken : W → Option (List ℕ)) where
  -- the session of a peer begins with these further routes, if a session is written
  pub record GoesOn (old new : Writing W) (more : List TableRoute) : Type 0 where
    pub goes : Goes taken old new more
    pub start : new.start ≡ old.start

  abbrev pub GoesBy : Option (Writing W) → Option (Writing W) → List TableRoute → Type 0
  GoesBy (Some old) (Some new) more = GoesOn old new more
  GoesBy (Some old) None more = ⊥
  GoesBy None (Some new) more = ⊥
  GoesBy None None more = Unit {0}

  -- Each session goes on with the routes that its peer has in these rows, and what became of the rows is counted.
  pub record AllGo (olds news : List (PeerSession W)) (rows : List TableRow) : Type 0 where
    pub count : length news ≡ length olds
    pub each : (place : ℕ) (d : PeerSession W) → place < length olds
        → GoesBy (slice_index_or olds place d).writer (slice_index_or news place d).writer (told_from place rows)
    pub counts : CountsGo olds news rows

  -- so many entries stand at the beginning of the octets, and then the rest; their rows were added to the sessions
  pub record AddsEntries (prefix : IpPrefix) (count : ℕ) (octets rest : List ℕ) (olds news : List (PeerSession W))
      : Type 0 where
    pub entries : List TableEntry
    pub counted : length entries ≡ count
    pub leads : Leads entry_at octets entries rest
    pub go : AllGo olds news (rows_of prefix entries)

  -- the rows of a record of routes were added to the sessions
  pub record AddsRoutes (body : List ℕ) (olds news : List (PeerSession W)) : Type 0 where
    pub rows : List TableRow
    pub has : HasRoutes body rows
    pub go : AllGo olds news rows

  -- The session of a peer is written whole, if one is written. What was taken of it announces the routes with which
  -- it began, and these.
  abbrev pub EndsWith : Writing W → Writing W → List TableRoute → Type 0
  EndsWith old new more =
      (before : Option (List ℕ)) (routes : List TableRoute) → IsBegun taken before old routes
      → IsWhole before (taken new.out) old.start (routes ++ more)

  abbrev pub EndsBy : Option (Writing W) → Option (Writing W) → List TableRoute → Type 0
  EndsBy (Some old) (Some new) more = EndsWith old new more
  EndsBy (Some old) None more = ⊥
  EndsBy None (Some new) more = ⊥
  EndsBy None None more = Unit {0}

  -- Each session is written whole, with the routes that its peer has in these rows, and what became of the rows is
  -- counted.
  pub record AllEnd (olds news : List (PeerSession W)) (rows : List TableRow) : Type 0 where
    pub count : length news ≡ length olds
    pub each : (place : ℕ) (d : PeerSession W) → place < length olds
        → EndsBy (slice_index_or olds place d).writer (slice_index_or news place d).writer (told_from place rows)
    pub counts : CountsGo olds news rows

module _ {R W : Type 0} (gives : R → List ℕ → ReadEnd → Type 0) (taken : W → Option (List ℕ)) where
  -- records behind the index were read, and their rows added to the sessions
  pub record Adds (old new : TableReading R) (olds news : List (PeerSession W)) : Type 0 where
    pub records : List MrtRecord
    pub rows : List TableRow
    pub takes : Takes (gives old.reader) (gives new.reader) records
    pub has : AllHave records rows
    pub go : AllGo taken olds news rows

  -- a table ends: the file could end at once, or the index of another table was read
  abbrev pub Ends : TableReading R → TableReading R → TableEnd → List MrtRecord → Type 0
  Ends old new EndOfFile after = gives old.reader [] FileEnds × (after ≡ [])
  Ends old new (NextIndex at) after =
      (next : MrtRecord) × (after ≡ next ∷ []) × (part_of next ≡ Index) × Takes (gives old.reader) (gives new.reader) (next ∷ [])

  -- the next record was read and its rows were added, or the table ends
  abbrev pub AddsNext : TableReading R → TableReading R → List (PeerSession W) → List (PeerSession W) → Option TableEnd
      → Type 0
  AddsNext old new olds news None = Adds old new olds news
  AddsNext old new olds news (Some end) = ((after : List MrtRecord) × Ends old new end after) × (news ≡ olds)

  -- all records were read to the end of the table
  pub record AddsAll (old new : TableReading R) (olds news : List (PeerSession W)) (end : TableEnd) : Type 0 where
    pub now : TableReading R
    pub adds : Adds old now olds news
    pub after : List MrtRecord
    pub ends : Ends now new end after

  -- A reader may have given a file that is these octets. Or the file begins with these octets, if their last record
  -- is the index of the next table.
  abbrev pub Given : TableReading R → TableReading R → List ℕ → TableEnd → List MrtRecord → Type 0
  Given first last octets EndOfFile after = gives first.reader octets FileEnds × (after ≡ [])
  Given first last octets (NextIndex at) after =
      Came (gives first.reader) (gives last.reader) octets × ((next : MrtRecord) × (after ≡ next ∷ []) × (part_of next ≡ Index))

  -- One table is in what a reader may have given, and the sessions have what the table has of each peer.
  pub record Written (first last : TableReading R) (place time collector : ℕ) (name : List ℕ) (peers : List IndexPeer)
      (olds news : List (PeerSession W)) (end : TableEnd) : Type 0 where
    pub octets : List ℕ
    pub after : List MrtRecord
    pub given : Given first last octets end after
    pub rows : List TableRow
    pub is_table : IsTable octets place time collector name peers rows after
    pub all_end : AllEnd taken olds news rows

  -- whichever index was read before, one table is written
  abbrev pub WritesTable : TableReading R → TableReading R → List (PeerSession W) → List (PeerSession W) → TableEnd → Type 0
  WritesTable old new olds news end =
      (first : TableReading R) (place time collector : ℕ) (name : List ℕ) (peers : List IndexPeer)
      → ReadsIndex gives first old place time collector name peers
      → Written first new place time collector name peers olds news end
