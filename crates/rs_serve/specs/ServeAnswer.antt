-- The meaning of each answer of a run on threads. Nothing here is from a standard: all of it is our choice.
use Rattle.std.specs.Prelude.{◌≡◌, ◌<◌, ℕ, true, false, List, Option, Result, Ok, Err, length, map}
use Rattle.rs_choice.specs.Plan.{Plan, id_of}
use Rattle.rs_mrt.specs.Reader.{ReadEnd}
use Rattle.rs_ring.specs.Items.{is_capacity}
use Rattle.rs_mrt.specs.Record.{MrtRecord}
use Rattle.rs_session.specs.Given.{MayFailAt}
use Rattle.rs_session.specs.Stage.{Comes}
use Rattle.rs_session.specs.Told.{MayFailToTellAt}
use Rattle.rs_update.specs.declared.errors.Errors.{Errors}
use Rattle.rs_serve.specs.Served.{IsServedBy, IsServedOver, ServedContent, is_shard_count}
use Rattle.rs_serve.specs.declared.fault.FloorRefused.{FloorRefused}
use Rattle.rs_serve.specs.declared.fault.FloorRefused.TheVariants.{Memory, Unsettled, Capacity, Read, Shards}

-- the capacity of the rings and the number of shards are within their limits
abbrev pub WithinLimits : ℕ → ℕ → Type 0
WithinLimits capacity shards = (is_capacity capacity ≡ true) × (is_shard_count shards ≡ true)

-- why a capacity or a number of shards is refused; the capacity is tested first
abbrev pub AreBeyondLimits : ℕ → ℕ → FloorRefused → Type 0
AreBeyondLimits capacity shards Capacity = is_capacity capacity ≡ false
AreBeyondLimits capacity shards Shards = (is_capacity capacity ≡ true) × (is_shard_count shards ≡ false)
AreBeyondLimits capacity shards other = ⊥

-- the answers of a run on threads; the capacity of the rings is tested first, then the number of shards
abbrev pub AnswersBy : (ServedContent → Type 0) → (ℕ → Type 0) → Plan → ℕ → ℕ → Result ServedContent FloorRefused
    → Type 0
AnswersBy Serves Fails plan capacity shards (Ok served) = WithinLimits capacity shards × Serves served
AnswersBy Serves Fails plan capacity shards (Err Capacity) = is_capacity capacity ≡ false
AnswersBy Serves Fails plan capacity shards (Err Shards) = (is_capacity capacity ≡ true) × (is_shard_count shards ≡ false)
AnswersBy Serves Fails plan capacity shards (Err Memory) = WithinLimits capacity shards
AnswersBy Serves Fails plan capacity shards (Err (Read peer)) = WithinLimits capacity shards × Fails peer
AnswersBy Serves Fails plan capacity shards (Err (Unsettled peer)) =
    WithinLimits capacity shards × (peer < length plan.peers)

-- the reader of this peer may fail, and the readers of the peers before it may give files
abbrev pub ReadFailed : {R : Type 0} → (R → List ℕ → ReadEnd → Type 0) → Errors → Plan → List R → ℕ → Type 0
ReadFailed gives errors plan readers peer =
    (peer < length plan.peers) × MayFailAt gives errors (map id_of plan.peers) readers peer

-- the session over this peer's source may fail, and those of the peers before it may tell their changes
abbrev pub SourceFailed : {S : Type 0} → Comes S → (S → Option MrtRecord) → Errors → Plan → List S → ℕ → Type 0
SourceFailed comes shows errors plan sources peer =
    (peer < length plan.peers) × MayFailToTellAt comes shows errors (map id_of plan.peers) sources peer

-- the answers over readers: what is served is that of files that they may give
abbrev pub ServeAnswer : {R : Type 0} → (R → List ℕ → ReadEnd → Type 0) → Errors → Plan → List R → ℕ → ℕ
    → Result ServedContent FloorRefused → Type 0
ServeAnswer gives errors plan readers =
    AnswersBy (IsServedBy gives errors plan readers) (ReadFailed gives errors plan readers) plan

-- the answers over sources: what is served is that of changes that their sessions may tell
abbrev pub ServeSourcesAnswer : {S : Type 0} → Comes S → (S → Option MrtRecord) → Errors → Plan → List S → ℕ → ℕ
    → Result ServedContent FloorRefused → Type 0
ServeSourcesAnswer comes shows errors plan sources =
    AnswersBy (IsServedOver comes shows errors plan sources) (SourceFailed comes shows errors plan sources) plan
