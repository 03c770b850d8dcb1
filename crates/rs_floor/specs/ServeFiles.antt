-- What a run on threads answers for files that are in memory as a whole. Nothing here is from a standard: all of it
-- is our choice.
use Rattle.std.specs.Prelude.{◌≡◌, ◌<◌, ℕ, true, false, List, Result, Ok, Err, length}
use Rattle.rs_choice.specs.Plan.{Plan}
use Rattle.rs_ring.specs.Items.{is_capacity}
use Rattle.rs_serve.specs.Served.{IsServed, ServedContent}
use Rattle.rs_serve.specs.declared.fault.FloorRefused.{FloorRefused}
use Rattle.rs_serve.specs.declared.fault.FloorRefused.TheVariants.{Memory, Unsettled, Capacity, Read, Shards}
use Rattle.rs_update.specs.declared.errors.Errors.{Errors}

-- what a run with one shard answers for files; the number of shards is right, and no read fails
abbrev pub ServeFilesAnswer : Errors → Plan → List (List ℕ) → ℕ → Result ServedContent FloorRefused → Type 0
ServeFilesAnswer errors plan files capacity (Ok served) =
    (is_capacity capacity ≡ true) × IsServed errors plan files served
ServeFilesAnswer errors plan files capacity (Err Capacity) = is_capacity capacity ≡ false
ServeFilesAnswer errors plan files capacity (Err Shards) = ⊥
ServeFilesAnswer errors plan files capacity (Err Memory) = is_capacity capacity ≡ true
ServeFilesAnswer errors plan files capacity (Err (Read peer)) = ⊥
ServeFilesAnswer errors plan files capacity (Err (Unsettled peer)) =
    (is_capacity capacity ≡ true) × (peer < length plan.peers)
