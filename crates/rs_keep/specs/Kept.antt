-- The dumps that are kept of tables. Nothing here is from a standard: all of it is our choice.
use Rattle.std.specs.Prelude.{◌≡◌, ℕ, ◌<◌, ◌⊎◌, List, ◌++◌, Option, codes, length, map, take}
use Rattle.std.specs.List.{enumerate_from}
use Rattle.rs_choice.specs.Plan.{Peer}
use Rattle.rs_dump.specs.Dump.{dumped}
use Rattle.rs_outlet.specs.Outlet.{KeptDump, Grows}
use Rattle.rs_outlet.specs.declared.run_fault.RunFault.{RunFault}
use Rattle.rs_outlet.specs.declared.run_fault.RunFault.TheVariants.{Memory, Unsettled, Dump, Report, Read}
use Rattle.rs_table.specs.Content.{TablesContent}
use Rattle.rs_table.specs.Table.{table_of}

-- the name under which a client's dump is kept
abbrev pub dump_name : List ℕ → List ℕ
dump_name client = client ++ codes ".mrt"

-- the dump of the client that has this number
abbrev pub kept_dump_of : TablesContent → ℕ → ℕ × Peer → KeptDump
kept_dump_of tables time (client, peer) =
    record { name = dump_name peer.name; octets = dumped tables.plan client (table_of tables client) time }

-- the dumps of all clients, in their order
abbrev pub dumps_of : TablesContent → ℕ → List KeptDump
dumps_of tables time = map (kept_dump_of tables time) (enumerate_from 0 tables.plan.peers)

-- an outlet that lists its dumps has kept the first of these dumps, perhaps none or all
abbrev pub GrowsByBeginning : Option (List KeptDump) → Option (List KeptDump) → List KeptDump → Type 0
GrowsByBeginning old new dumps = (n : ℕ) × Grows old new (take n dumps)

-- how many rows a dump can have: their Sequence Numbers have four octets (RFC 6396, section 4.3.2)
abbrev pub MAX_ROWS : ℕ
MAX_ROWS = 4294967295

-- why a dump of so many rows is not kept: the outlet counted failures, or else the rows are too many
abbrev pub IsDumpFailure : ℕ → ℕ → ℕ → Type 0
IsDumpFailure before after rows = (before < after) ⊎ ((after ≡ before) × (MAX_ROWS < rows))

-- the fault at the dump of a client
abbrev pub IsFaultAt : ℕ → ℕ → ℕ → ℕ → RunFault → Type 0
IsFaultAt client rows before after Memory = after ≡ before
IsFaultAt client rows before after (Dump at) = (at ≡ client) × IsDumpFailure before after rows
IsFaultAt client rows before after (Unsettled peer) = ⊥
IsFaultAt client rows before after Report = ⊥
IsFaultAt client rows before after (Read peer) = ⊥

-- the answer if not all dumps of these tables were kept, and which dumps were kept before it
abbrev pub IsStop : TablesContent → ℕ → Option (List KeptDump) → Option (List KeptDump) → ℕ → ℕ → RunFault → Type 0
IsStop tables time kept later before after Memory =
    GrowsByBeginning kept later (dumps_of tables time) × (after ≡ before)
IsStop tables time kept later before after (Dump client) =
    (client < length tables.plan.peers)
    × Grows kept later (take client (dumps_of tables time))
    × IsDumpFailure before after (length (table_of tables client))
IsStop tables time kept later before after (Unsettled peer) = ⊥
IsStop tables time kept later before after Report = ⊥
IsStop tables time kept later before after (Read peer) = ⊥
