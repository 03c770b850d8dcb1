-- A dump that is being written, by its fields (our choice).
use Rattle.std.specs.Prelude.{◌+◌, ◌<◌, ◌≤◌, ◌++◌, All, length, vec_capacity}
use Rattle.rs_dump.specs.declared.table_dump.TableDump.TheInside.{Inside}
use Rattle.rs_dump.specs.declared.table_dump.TheConstants.{TURN_LEN}
use Rattle.rs_dump.specs.declared.under_way.TheConstants.{BUFFER_LEN}
use Rattle.rs_dump.specs.Dump.{spelled_rows}
use Rattle.rs_dump.specs.TableDump.{ToWrite}

-- the octets that wait in the buffer, and then those of the rows that are not spelled yet
abbrev pub to_write : Inside → ToWrite
to_write fields =
    record {
      octets = fields.buffer.items ++ spelled_rows fields.time fields.spelled fields.rows;
      rows = length fields.rows;
      spelled = fields.spelled;
    }

-- all rows have Sequence Numbers, their peers are in the peer table, and there is room for one more row
pub record CanGoOn (fields : Inside) : Type 0 where
  pub numbered : fields.spelled + length fields.rows ≤ 4294967295
  pub peers_known : All (λ row. row.route.peer < 65536) fields.rows
  pub buffer : BUFFER_LEN ≤ vec_capacity fields.buffer
  pub turn : TURN_LEN ≤ vec_capacity fields.turn
