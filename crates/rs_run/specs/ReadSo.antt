-- Recorded files in memory as sources of records, of which nothing was read yet (our choice).
use Rattle.std.specs.Prelude.{◌≡◌, ℕ, List, Option, Some, map, slice_get}
use Rattle.rs_losses.specs.Losses.{with_losses}
use Rattle.rs_losses.specs.WithLosses.{ComesBy as ComesWithLosses, Inferring, end_within as end_below, room_by}
use Rattle.rs_losses.specs.WithLosses.{within as below}
use Rattle.rs_losses.specs.declared.losses.Sought.{Sought}
use Rattle.rs_mrt.specs.Bounds.{end_within, records_until}
use Rattle.rs_mrt.specs.Entry.{front_of}
use Rattle.rs_mrt.specs.Leniency.{ComesBy as ComesLeniently, Leniency}
use Rattle.rs_mrt.specs.MemoryReading.{MemoryReading, Comes}
use Rattle.rs_mrt.specs.Record.{MrtRecord}
use Rattle.rs_mrt.specs.RecordReading.{MayCome, RecordReading, read_limit, room_left}
use Rattle.rs_mrt.specs.Source.{source_end}
use Rattle.rs_mrt.specs.declared.bounds.FileReading.{FileReading}
use Rattle.rs_mrt.specs.declared.fault.SourceFault.{SourceFault}
use Rattle.rs_mrt.specs.declared.losses.Losses.{Losses}
use Rattle.rs_mrt.specs.declared.losses.Losses.TheVariants.{Recorded, Inferred}

-- a file that is read so far
abbrev pub Reading : Type 0
Reading = Inferring (Leniency (RecordReading MemoryReading))

-- how many octets a source still shows at most
abbrev pub room_of : Reading → ℕ
room_of source = room_by source.losses (λ lenient. room_left lenient.source) source

-- these records may come of a source, and then this end
abbrev pub comes : Reading → List MrtRecord → Option SourceFault → Type 0
comes source =
    ComesWithLosses source.losses (λ lenient. lenient.source.shown) (ComesLeniently (MayCome Comes)) source

-- These are the records that are shown, and their end. Where losses are put in, they are shown as long as all records take
-- fewer than 2^50 octets.
abbrev pub AreShown : Losses → Sought → List MrtRecord → Option SourceFault → List MrtRecord → Option SourceFault
    → Type 0
AreShown Recorded who records end shown last = (shown ≡ records) × (last ≡ end)
AreShown Inferred who records end shown last =
    (shown ≡ below read_limit (with_losses who records))
    × (last ≡ end_below read_limit (with_losses who records) end)

-- what may come of the source are the records of the file within its bounds, with the losses of a peer that count
abbrev pub IsReadSo : FileReading → Sought → List ℕ → Reading → Type 0
IsReadSo reading who file source =
    (records : List MrtRecord) (end : Option SourceFault) → comes source records end
    → AreShown reading.losses who (map front_of (records_until reading.bounds.until file))
    (source_end (end_within reading.bounds file)) records end

-- each source is that of the file at its place, with the losses of the peer there
abbrev pub AreReadSo : FileReading → List Sought → List (List ℕ) → List Reading → Type 0
AreReadSo reading whose files sources =
    (place : ℕ) (who : Sought) (file : List ℕ) (source : Reading) → slice_get whose place ≡ Some who
    → slice_get files place ≡ Some file → slice_get sources place ≡ Some source → IsReadSo reading who file source
