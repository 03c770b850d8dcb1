-- What the reader of a shared recording tells a peer, part by part.
use Rattle.std.specs.Prelude.{◌≡◌, ◌⊎◌, ℕ, ◌≤◌, true, All, List, [], ◌∷◌, ◌++◌, Option, Some, None}
use Rattle.std.specs.List.{flat_map, sum_by}
use Rattle.rs_mrt.specs.Record.{MrtRecord, octets_of}
use Rattle.rs_mrt.specs.declared.fault.SourceFault.{SourceFault}
use Rattle.rs_mrt.specs.declared.fault.SourceFault.TheVariants.{Read}
use Rattle.rs_types.specs.declared.peer_id.PeerId.{PeerId}
use Rattle.rs_share.specs.Batches.{Heard, silences, spread}
use Rattle.rs_share.specs.Own.{heard, is_for}
use Rattle.rs_share.specs.declared.part.Begin.{Begin}
use Rattle.rs_share.specs.declared.part.Last.{Last}
use Rattle.rs_share.specs.declared.part.Part.{Part}

-- what may come of a source
abbrev pub Comes : Type 0 → Type 1
Comes S = S → List MrtRecord → Option SourceFault → Type 0

-- ---- what a peer hears of parts

-- the records of others behind the last record of the peer
abbrev pub trailing : Option Last → List MrtRecord
trailing None = []
trailing (Some last) = silences last.others

-- what a peer hears of one part
abbrev pub told_in : List Heard → Option Last → List MrtRecord
told_in batch last = spread batch ++ trailing last

-- how many octets records have
abbrev pub octets_in : List MrtRecord → ℕ
octets_in records = sum_by (λ r. octets_of (Some r)) records

-- how the records end if this is said to be the end: nothing more is heard, and the records end so; or a read failed
abbrev pub EndsAs : List MrtRecord → Option SourceFault → Option Last → Type 0
EndsAs rest end None = Unit {0}
EndsAs rest end (Some last) = ((rest ≡ []) × (last.end ≡ end)) ⊎ (last.end ≡ Some Read)

module _ {S : Type 0} where
  abbrev pub told_by : Part S → List MrtRecord
  told_by part = told_in part.batch part.last

  -- what a peer hears of these parts
  abbrev pub told : List (Part S) → List MrtRecord
  told parts = flat_map told_by parts

  -- The parts say the first of what the peer hears of records that the source may give.
  pub record IsTold (comes : Comes S) (source : S) (peer : PeerId) (all : List MrtRecord) (last : Option Last) : Type 0 where
    pub records : List MrtRecord
    pub end : Option SourceFault
    pub given : comes source records end
    pub rest : List MrtRecord
    pub splits : heard peer records ≡ all ++ rest
    pub ends : EndsAs rest end last

  -- ---- what a part may be

  -- a part that comes behind others, of which this was the first
  pub record Follows (comes : Comes S) (room : S → ℕ) (begin : Begin S) (all : List MrtRecord) (part : Part S) : Type 0 where
    pub is_told : IsTold comes begin.source.value begin.peer all part.last
    pub own : All (λ (h : Heard). is_for begin.peer h.own ≡ true) part.batch
    pub octets : octets_in all ≤ room begin.source.value

  abbrev pub FollowsBegin : Comes S → (S → ℕ) → Option (Begin S) → List MrtRecord → Part S → Type 0
  FollowsBegin comes room None all part = ⊥
  FollowsBegin comes room (Some begin) all part = Follows comes room begin all part

  -- The first part says of whose records of which source the parts are. Each later one goes on with what the peer hears.
  abbrev pub MayFollow : Comes S → (S → ℕ) → List (Part S) → Part S → Type 0
  MayFollow comes room [] part = Unit {0}
  MayFollow comes room (first ∷ before) part =
      FollowsBegin comes room first.begin (told (first ∷ before) ++ told_by part) part
