-- Dumps that are begun, written and kept. Nothing here is from a standard: all of it is our choice.
use Rattle.std.specs.Prelude.{◌≡◌, ℕ, ⊤, ◌+◌, ◌<◌, ◌≤◌, List, Option, None, Some, IsFalse}
use Rattle.std.specs.Prelude.{length, map, slice_index_or, string_bytes}
use Rattle.rs_choice.specs.Plan.{Plan}
use Rattle.rs_dump.specs.Dump.{dumped}
use Rattle.rs_dump.specs.declared.side_by_side.Writing.{Writing}
use Rattle.rs_outlet.specs.Outlet.{KeptDump, TellsNothingTaken}
use Rattle.rs_table.specs.Content.{TablesContent}
use Rattle.rs_table.specs.Table.{table_of}
use Rattle.rs_keep.specs.declared.dumps.DumpFile.{DumpFile}
use Rattle.rs_keep.specs.Kept.{dump_name}

-- the name of a file
abbrev pub file_name : DumpFile → List ℕ
file_name file = string_bytes file.name

-- there is a file for each client, under its name
abbrev pub AreDumpFiles : Plan → List DumpFile → Type 0
AreDumpFiles plan files = map file_name files ≡ map (λ peer. dump_name peer.name) plan.peers

-- if the outlet lists its dumps, the writer says which octets it has taken, and these are they
abbrev pub TellsTaken : Option (List KeptDump) → Option (List ℕ) → List ℕ → Type 0
TellsTaken None taken octets = ⊤
TellsTaken (Some kept) taken octets = taken ≡ Some octets

module _ {W : Type 0} (taken : W → Option (List ℕ)) (failures : W → ℕ) (kept : Option (List KeptDump))
    (tables : TablesContent) (time : ℕ) where
  -- the dump of a client is begun, and nothing of it is written
  pub record IsBegun (client : ℕ) (writing : Writing W) : Type 0 where
    pub not_failed : IsFalse writing.failed
    pub octets : writing.dump.octets ≡ dumped tables.plan client (table_of tables client) time
    pub rows : writing.dump.spelled + writing.dump.rows ≡ length (table_of tables client)
    pub no_failure : failures writing.out ≡ 0
    pub nothing_taken : TellsNothingTaken kept (taken writing.out)

  -- the dump of a client is written, unless a write of it failed
  pub record IsWrittenOf (client : ℕ) (writing : Writing W) : Type 0 where
    pub told : IsFalse writing.failed
        → TellsTaken kept (taken writing.out) (dumped tables.plan client (table_of tables client) time)
    pub rows : IsFalse writing.failed → writing.dump.spelled ≡ length (table_of tables client)

  -- the dumps of clients one after another are begun, starting with this client
  abbrev pub AreBegun : ℕ → List (Writing W) → Type 0
  AreBegun client some = (k : ℕ) (d : Writing W) → k < length some → IsBegun (client + k) (slice_index_or some k d)

  -- the dumps of clients one after another are written, starting with this client, and there are no more dumps than
  -- clients
  pub record AreWritten (client : ℕ) (some : List (Writing W)) : Type 0 where
    pub each : (k : ℕ) (d : Writing W) → k < length some → IsWrittenOf (client + k) (slice_index_or some k d)
    pub known : client + length some ≤ length tables.plan.peers
