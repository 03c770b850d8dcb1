-- A reading that several peers share, before anything is read.
use Rattle.std.specs.Prelude.{◌≡◌, ◌⊎◌, ◌≤◌, ◌^◌, ℕ, List, [], ◌∷◌, ◌++◌, map, Option, Some, None}
use Rattle.rs_mrt.specs.Record.{MrtRecord}
use Rattle.rs_mrt.specs.declared.fault.SourceFault.{SourceFault}
use Rattle.rs_mrt.specs.declared.fault.SourceFault.TheVariants.{Read}
use Rattle.rs_types.specs.declared.peer_id.PeerId.{PeerId}
use Rattle.rs_share.specs.Own.{own}
use Rattle.rs_share.specs.Reading.{AllTell, AreOf, ids_of}
use Rattle.rs_share.specs.Taking.{Taking}
use Rattle.rs_share.specs.Telling.{Comes}
use Rattle.rs_share.specs.declared.part.Begin.{Begin}
use Rattle.rs_share.specs.declared.part.Part.{Part}
use Rattle.rs_share.specs.declared.reader.Reader.{Reader}

-- what a peer takes of a source, before anything is read
abbrev pub untaken : {S : Type 0} → S → PeerId → Taking S
untaken source peer =
    record { source = source; peer = peer; told = []; left = []; shown = None; others = 0; stopped = None }

-- what may come for a peer of these records and this end: its own records and the end, or a beginning of them and then a
-- failed read
pub record ComesOf {S : Type 0} (comes : Comes S) (source : S) (peer : PeerId) (records : List MrtRecord)
    (end : Option SourceFault) : Type 0 where
  pub all : List MrtRecord
  pub last : Option SourceFault
  pub given : comes source all last
  pub rest : List MrtRecord
  pub splits : own peer all ≡ records ++ rest
  pub ends : ((rest ≡ []) × (end ≡ last)) ⊎ (end ≡ Some Read)

-- the first part was sent and received: it says of which source the parts are, and whose
pub record IsOpened {S : Type 0} (source : S) (peer : PeerId) (sent received : List (Part S)) : Type 0 where
  pub first : Part S
  pub begin : Begin S
  pub begins : first.begin ≡ Some begin
  pub source_is : begin.source.value ≡ source
  pub peer_is : begin.peer ≡ peer
  pub none : first.batch ≡ []
  pub no_last : first.last ≡ None
  pub sent_is : sent ≡ first ∷ []
  pub received_is : received ≡ first ∷ []

-- The reader and the peers' sides for these peers: nothing was read yet.
pub record IsSharing {S : Type 0} (room : S → ℕ) (reader : Reader S) (taken : List (Taking S)) (peers : List PeerId)
    : Type 0 where
  pub directory : reader.directory ≡ peers
  pub ids : ids_of reader.lines.items ≡ peers
  pub tell : AllTell reader.lines.items []
  pub are_of : AreOf reader.source reader.lines.items
  pub count : reader.count ≡ 0
  pub taken_is : taken ≡ map (untaken reader.source) peers
  pub few : room reader.source ≤ 2 ^ 50
