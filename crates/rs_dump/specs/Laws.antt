-- What is true of the definitions: a dump as a file of records.
use Rattle.std.specs.Prelude.{ℕ, ◌^◌, ◌<◌, ◌≤◌, List, [], length}
use Rattle.std.specs.List.{AllByRecursion}
use Rattle.rs_update.specs.IpPrefix.{IpPrefix, IsPrefix}
use Rattle.rs_update.specs.Prefix.{spelled_prefix, Spells}
use Rattle.rs_update.specs.Spelling.{written}
use Rattle.rs_choice.specs.declared.plan.TheConstants.{MAX_PEERS, MAX_NAME_LEN}
use Rattle.rs_choice.specs.Plan.{Plan}
use Rattle.rs_mrt.specs.Record.{Splits}
use Rattle.rs_table.specs.Table.{TableRow}
use Rattle.rs_dump.specs.Dump.{dump_records, dumped}
use Rattle.rs_records.specs.PeerIndex.{view_name}

-- a prefix is spelled in a dump as in an UPDATE (RFC 6396, section 4.3.2; RFC 4271, section 4.3)
abbrev pub PrefixIsSpelled : Type 0
PrefixIsSpelled =
    (prefix : IpPrefix) → prefix.address < 2 ^ 32 → IsPrefix prefix.address prefix.len
    → Spells (spelled_prefix prefix) prefix

-- a row fits its record: the prefix has at most 32 bits, and the attributes fit a message
pub record Fits (row : TableRow) : Type 0 where
  pub prefix : row.prefix.len ≤ 32
  pub attributes : length (written row.route.attributes) ≤ 4073

-- as a file of MRT records (RFC 6396, section 2), a dump is exactly its records, with nothing left over
abbrev pub DumpIsItsRecords : Type 0
DumpIsItsRecords =
    (plan : Plan) (client : ℕ) (rows : List TableRow) (time : ℕ)
    → length plan.peers ≤ MAX_PEERS
    → length (view_name plan client) ≤ MAX_NAME_LEN
    → AllByRecursion Fits rows
    → time < 2 ^ 32
    → Splits (dumped plan client rows time) (dump_records plan client rows time) []
