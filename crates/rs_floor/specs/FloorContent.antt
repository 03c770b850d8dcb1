-- The end of a schedule.
use Rattle.std.specs.Prelude.{◌≡◌, ◌<◌, ◌^◌, ℕ, List, All, map, length, take, slice_get, slice_index_or, Some, refl}
use Rattle.std.specs.Borrow.{Bor}
use Rattle.std.specs.Coded.{Coded, code_by, coded×, coded_ℕ, coded_list}
use Rattle.std.specs.List.{zip}
use Rattle.rs_choice.specs.Plan.{Peer, Plan, id_of}
use Rattle.rs_session.specs.Change.{Change}
use Rattle.rs_session.specs.FileChanges.{changes_in}
use Rattle.rs_table.specs.Codes.{tables_code}
use Rattle.rs_table.specs.Content.{TablesContent, rib_left}
use Rattle.rs_floor.specs.Lane.{LaneContent, fresh_lane}
use Rattle.rs_floor.specs.Schedule.{at_start, after_turns}
use Rattle.rs_floor.specs.declared.counts.Counts.{Counts}
use Rattle.rs_floor.specs.declared.turn.Turn.{Turn}

-- the tables, and how many changes of each peer were sent and received
pub record FloorContent : Type 0 where
  pub tables : TablesContent
  pub counts : List Counts

abbrev pub counts_code : Coded Counts
counts_code =
    code_by (ℕ × ℕ) (coded× coded_ℕ coded_ℕ) (λ c. (c.sent, c.received))
    (λ p. record { sent = p.0; received = p.1 }) (λ _. refl)

abbrev pub floor_code : Coded FloorContent
floor_code =
    code_by (TablesContent × List Counts) (coded× tables_code (coded_list counts_code)) (λ f. (f.tables, f.counts))
    (λ p. record { tables = p.0; counts = p.1 }) (λ _. refl)

-- the changes in each peer's file, in the order of the peers
abbrev pub recorded_by : Plan → List (List ℕ) → List (List Change)
recorded_by plan files = map (λ (peer, file). changes_in (id_of peer) file) (zip plan.peers files)

-- each file is shorter than 2^50 octets
abbrev pub FitAll : List (Bor (List ℕ)) → Type 0
FitAll files = All (λ file. length file.now < 2 ^ 50) files

-- a lane for each peer, before the first turn
abbrev pub AreFresh : Plan → List (List ℕ) → ℕ → List LaneContent → Type 0
AreFresh plan files capacity lanes =
    (number : ℕ) (peer : Peer) (file : List ℕ) → slice_get plan.peers number ≡ Some peer
    → slice_get files number ≡ Some file
    → slice_get lanes number ≡ Some (fresh_lane capacity (id_of peer) file)

abbrev pub counts_of : List Counts → ℕ → Counts
counts_of counts peer = slice_index_or counts peer at_start

-- a peer with these changes at the end of a schedule: its counts are right, and the tables have what its received
-- changes leave
pub record IsPeerReplayed (changes : List Change) (counts : Counts) (floor : FloorContent) (peer : ℕ) : Type 0 where
  pub counts_are : slice_get floor.counts peer ≡ Some counts
  pub rib : slice_get floor.tables.ribs peer ≡ Some (rib_left (take counts.received changes))

-- The end of a schedule, if these changes are recorded of the peers. The counts of each peer are those that the
-- turns give, beginning with nothing sent.
pub record IsReplayed (plan : Plan) (recorded : List (List Change)) (capacity : ℕ) (turns : List Turn)
    (floor : FloorContent) : Type 0 where
  pub plan_is : floor.tables.plan ≡ plan
  pub as_many : length floor.tables.ribs ≡ length recorded
  pub counted : length floor.counts ≡ length recorded
  pub peers : (peer : ℕ) (changes : List Change) → slice_get recorded peer ≡ Some changes
      → IsPeerReplayed changes (after_turns capacity (length changes) peer at_start turns) floor peer
