-- How the recorded files of the peers are opened: to be read within bounds, with the losses of each peer (our choice).
use Rattle.std.specs.Prelude.{◌≡◌, ℕ, ◌==◌, false, List, Some, count_by, slice_get}
use Rattle.std.specs.Option.{option_map_or}
use Rattle.rs_choice.specs.Plan.{Peer, Plan, id_of}
use Rattle.rs_inventory.specs.OutlinedRecords.{Outlining}
use Rattle.rs_losses.specs.WithLosses.{Inferring, room_by, unbegun}
use Rattle.rs_losses.specs.declared.losses.Sought.{Sought}
use Rattle.rs_mrt.specs.Leniency.{Leniency}
use Rattle.rs_mrt.specs.RecordReading.{room_left, unread_until}
use Rattle.rs_mrt.specs.declared.bounds.FileReading.{FileReading}

-- ---- whose losses are looked for

-- how many peers have an AS number
abbrev pub count_of_asn : List Peer → ℕ → ℕ
count_of_asn peers asn = count_by (λ peer. peer.asn == asn) peers

-- A peer, as its losses are looked for. No other peer has its AS number if only one peer has it.
abbrev pub sought_among : List Peer → Peer → Sought
sought_among peers peer = record {
  peer = id_of peer;
  alone = count_of_asn peers peer.asn == 1;
}

-- what stands for the peer of a number that no peer has
abbrev pub nobody : Sought
nobody = record { peer = record { address = 0; asn = 0 }; alone = false }

-- the peer of a number, among the peers of a plan
abbrev pub sought_of : Plan → ℕ → Sought
sought_of plan number = option_map_or (sought_among plan.peers) (slice_get plan.peers number) nobody

-- ---- how files are read

-- the records of a file that is read so far, its tail, its outline and its losses
abbrev pub Replaying : Type 0 → Type 0
Replaying F = Inferring (Leniency (Outlining F))

-- A file of which nothing was read. Its records are shown up to this time, with this tail, and with these losses of a
-- peer.
abbrev pub IsReadSo : {F : Type 0} → FileReading → Sought → Replaying F → Type 0
IsReadSo reading who file =
    (file ≡ unbegun file.source reading.losses who) × (file.source.tail ≡ reading.bounds.tail)
    × (file.source.source.source ≡ unread_until reading.bounds.until file.source.source.source.inflow.reader)

-- the file of each number is read so, with the losses of the peer of that number
abbrev pub AreReadSo : {F : Type 0} → FileReading → Plan → List (Replaying F) → Type 0
AreReadSo {F} reading plan files =
    (number : ℕ) (file : Replaying F) → slice_get files number ≡ Some file
    → IsReadSo reading (sought_of plan number) file

-- how many octets a file still shows at most
abbrev pub room_of : {F : Type 0} → Replaying F → ℕ
room_of file = room_by file.losses (λ lenient. room_left lenient.source.source) file
