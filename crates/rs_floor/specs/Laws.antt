-- What is true of the definitions: each statement is the contract of a function that does nothing.
use Rattle.std.specs.Prelude.{◌≡◌, ℕ, List, length, slice_get, Some}
use Rattle.rs_choice.specs.Plan.{Plan}
use Rattle.rs_session.specs.Change.{Change}
use Rattle.rs_dump.specs.Dump.{dumped}
use Rattle.rs_serve.specs.Served.{tables_of}
use Rattle.rs_table.specs.Content.{TablesContent}
use Rattle.rs_table.specs.Table.{table_of}
use Rattle.rs_floor.specs.FloorContent.{FloorContent, IsReplayed, recorded_by}
use Rattle.rs_floor.specs.declared.counts.Counts.{Counts}
use Rattle.rs_floor.specs.declared.turn.Turn.{Turn}

-- all recorded changes were received
abbrev pub IsDrained : List (List Change) → FloorContent → Type 0
IsDrained recorded floor =
    (peer : ℕ) (changes : List Change) (counts : Counts) → slice_get recorded peer ≡ Some changes
    → slice_get floor.counts peer ≡ Some counts
    → counts.received ≡ length changes

-- if all changes were received, the tables are those of the recorded changes, whatever the capacity and the turns
-- were
abbrev pub DrainedSchedulesAgree : Type 0
DrainedSchedulesAgree =
    (plan : Plan) (files : List (List ℕ)) (capacity : ℕ) (turns : List Turn) (floor : FloorContent)
    → IsReplayed plan (recorded_by plan files) capacity turns floor → IsDrained (recorded_by plan files) floor
    → floor.tables ≡ tables_of plan (recorded_by plan files)

-- ---- the dumps (RFC 6396, section 4.3)

-- the dump of a client of these tables
abbrev pub dump_of : TablesContent → ℕ → ℕ → List ℕ
dump_of tables client time = dumped tables.plan client (table_of tables client) time

-- if all changes of the files were received, each dump depends on the files alone
abbrev pub DrainedDumpsAreOfFiles : Type 0
DrainedDumpsAreOfFiles =
    (plan : Plan) (files : List (List ℕ)) (capacity : ℕ) (turns : List Turn) (floor : FloorContent)
    → IsReplayed plan (recorded_by plan files) capacity turns floor → IsDrained (recorded_by plan files) floor
    → (client time : ℕ)
    → dump_of floor.tables client time ≡ dump_of (tables_of plan (recorded_by plan files)) client time

-- any two such schedules, of whatever capacity, give the same octets
abbrev pub DrainedDumpsAgree : Type 0
DrainedDumpsAgree =
    (plan : Plan) (files : List (List ℕ)) (capacity other_capacity : ℕ) (turns other_turns : List Turn)
    (one other : FloorContent)
    → IsReplayed plan (recorded_by plan files) capacity turns one → IsDrained (recorded_by plan files) one
    → IsReplayed plan (recorded_by plan files) other_capacity other_turns other
    → IsDrained (recorded_by plan files) other
    → (client time : ℕ) → dump_of one.tables client time ≡ dump_of other.tables client time
