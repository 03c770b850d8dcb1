-- The inventory of the records that a source may give.
use Rattle.std.specs.Prelude.{◌≡◌, ℕ, Bool, true, false, List, [], ◌∷◌, ◌++◌, map, Option, Some}
use Rattle.rs_mrt.specs.Reader.{ReadEnd}
use Rattle.rs_mrt.specs.Record.{MrtRecord}
use Rattle.rs_mrt.specs.Source.{source_end}
use Rattle.rs_mrt.specs.declared.fault.MrtFault.{MrtFault}
use Rattle.rs_mrt.specs.declared.fault.SourceFault.{SourceFault}
use Rattle.rs_mrt.specs.declared.fault.SourceFault.TheVariants.{Read}
use Rattle.rs_inventory.specs.Compression.{compression_of}
use Rattle.rs_inventory.specs.Finding.{finding_of}
use Rattle.rs_inventory.specs.Inventory.{Content, Holds}
use Rattle.rs_inventory.specs.declared.compression.Compression.{Compression}
use Rattle.rs_inventory.specs.declared.depth.Depth.{Depth}
use Rattle.rs_inventory.specs.declared.depth.Depth.TheVariants.{Outline, Whole}

-- a reader may give octets that begin like a file compressed in this way
abbrev pub MayBeCompressed : {R : Type 0} → (R → List ℕ → ReadEnd → Type 0) → R → Option Compression → Type 0
MayBeCompressed gives reader compression =
    (octets : List ℕ) × (end : ReadEnd) × gives reader octets end × (compression_of octets ≡ compression)

-- These records may be all that come. The inventory has their content, with messages read so deep, and says how the
-- records end.
pub record IsReadingOf {S : Type 0} (depth : Depth)
    (comes : S → List MrtRecord → Option SourceFault → Type 0) (source : S)
    (content : Content) : Type 0 where
  pub records : List MrtRecord
  pub come : comes source records (source_end content.end)
  pub holds : Holds (map (finding_of depth) records) content

-- the inventory of a source, with messages read whole
abbrev pub IsInventoryOf : {S : Type 0} → (S → List MrtRecord → Option SourceFault → Type 0) → S → Content → Type 0
IsInventoryOf comes source content = IsReadingOf Whole comes source content

-- the outline of a source: of messages only the types are read
abbrev pub IsOutlineOf : {S : Type 0} → (S → List MrtRecord → Option SourceFault → Type 0) → S → Content → Type 0
IsOutlineOf comes source content = IsReadingOf Outline comes source content

-- records may come, and then a failed read
abbrev pub MayFail : {S : Type 0} → (S → List MrtRecord → Option SourceFault → Type 0) → S → Type 0
MayFail comes source = (records : List MrtRecord) × comes source records (Some Read)

-- These records came so far, and others may still come behind them. This is the content of those that came.
pub record Going {S : Type 0} (depth : Depth)
    (comes : S → List MrtRecord → Option SourceFault → Type 0) (initial now : S)
    (content : Content) : Type 0 where
  pub done : List MrtRecord
  pub behind : (later : List MrtRecord) (fault : Option SourceFault) → comes now later fault
      → comes initial (done ++ later) fault
  pub holds : Holds (map (finding_of depth) done) content

-- The next record may come, if there is one: then it is shown. If there is none, no record may come, and the records
-- end so.
abbrev pub GivesRecord : {S : Type 0} → (S → List MrtRecord → Option SourceFault → Type 0) → S → S → Option MrtRecord
    → Option MrtFault → Bool → Type 0
GivesRecord comes old new shown end true =
    (r : MrtRecord) × (shown ≡ Some r)
    × ((later : List MrtRecord) (fault : Option SourceFault) → comes new later fault → comes old (r ∷ later) fault)
GivesRecord comes old new shown end false = comes old [] (source_end end)
