-- Rings before a run on threads begins.
use Rattle.std.specs.Prelude.{◌≡◌, ◌≤◌, ◌^◌, ◌++◌, ◌∷◌, ℕ, [], List, All, map, length}
use Rattle.rs_choice.specs.Plan.{Peer, Plan, id_of}
use Rattle.rs_ring.specs.Ends.{Receiving, Sending}
use Rattle.rs_router.specs.ShardParts.{IsShardCount}
use Rattle.rs_router.specs.declared.routed.Routed.{Routed}
use Rattle.rs_change.specs.declared.word.Word.{Word}
use Rattle.rs_serve.specs.Crew.{IsReady}
use Rattle.rs_serve.specs.Laws.{IsOfPlan}
use Rattle.rs_serve.specs.declared.shard_crew.ShardJob.{ShardJob}
use Rattle.rs_worker.specs.declared.crew.Job.{Job}

-- ---- the rings between peers and router

-- a worker's source has no more octets than a session reads
abbrev pub HasFewOctets : {S : Type 0} → (S → ℕ) → Job S → Type 0
HasFewOctets room job = room job.source ≤ 2 ^ 50

-- The work of a worker is to read one source for a peer, and to send the changes through a ring. The receiving end
-- of the ring is here.
pub record IsLine {S : Type 0} (peer : Peer) (source : S) (job : Job S)
    (receiver : Receiving Word) : Type 0 where
  pub source_is : job.source ≡ source
  pub id : job.id ≡ id_of peer
  pub ring : job.out.ring ≡ receiver.ring
  pub unsent : job.out.sent ≡ []
  pub unreceived : receiver.received ≡ []

-- one more line was opened, with room for so many changes
pub record HasLineMore {S : Type 0} (capacity : ℕ) (peer : Peer) (source : S) (jobs_before : List (Job S))
    (receivers_before : List (Receiving Word)) (jobs : List (Job S)) (receivers : List (Receiving Word)) : Type 0 where
  pub job : Job S
  pub receiver : Receiving Word
  pub jobs_are : jobs ≡ jobs_before ++ job ∷ []
  pub receivers_are : receivers ≡ receivers_before ++ receiver ∷ []
  pub line : IsLine peer source job receiver
  pub capacity_is : job.out.capacity ≡ capacity

-- all workers can begin: the receiving end of each ring is here, and nothing was sent or received through it
pub record CanWork {S : Type 0} (jobs : List (Job S)) (receivers : List (Receiving Word)) : Type 0 where
  pub rings : map (λ job. job.out.ring) jobs ≡ map (λ receiver. receiver.ring) receivers
  pub unsent : All (λ job. job.out.sent ≡ []) jobs
  pub unreceived : All (λ receiver. receiver.received ≡ []) receivers

-- each ring through which workers send has room for so many changes
abbrev pub HaveRoom : {S : Type 0} → ℕ → List (Job S) → Type 0
HaveRoom capacity jobs = All (λ job. job.out.capacity ≡ capacity) jobs

-- each worker's job is that of one peer of the plan
pub record AreLines {S : Type 0} (plan : Plan) (sources : List S) (jobs : List (Job S))
    (receivers : List (Receiving Word)) : Type 0 where
  pub sources_are : map (λ job. job.source) jobs ≡ sources
  pub peers : map (λ job. job.id) jobs ≡ map id_of plan.peers
  pub can : CanWork jobs receivers

-- ---- the rings between router and shards

-- The work of a shard is to receive through a ring, into tables of the plan without any route. The sending end of
-- the ring is here.
pub record IsRing (plan : Plan) (job : ShardJob) (sender : Sending Routed) : Type 0 where
  pub tables : IsOfPlan plan job.tables
  pub ring : job.from.ring ≡ sender.ring
  pub unsent : sender.sent ≡ []
  pub ready : IsReady job

-- one more ring was opened, with room for so many items
pub record HasRingMore (capacity : ℕ) (plan : Plan) (jobs_before : List ShardJob) (senders_before : List (Sending Routed))
    (jobs : List ShardJob) (senders : List (Sending Routed)) : Type 0 where
  pub job : ShardJob
  pub sender : Sending Routed
  pub jobs_are : jobs ≡ jobs_before ++ job ∷ []
  pub senders_are : senders ≡ senders_before ++ sender ∷ []
  pub ring : IsRing plan job sender
  pub room : sender.capacity ≡ capacity

-- all shards can begin: the sending end of each ring is here, and nothing was sent through it
pub record CanShare (jobs : List ShardJob) (senders : List (Sending Routed)) : Type 0 where
  pub counted : IsShardCount (length jobs)
  pub rings : map (λ job. job.from.ring) jobs ≡ map (λ sender. sender.ring) senders
  pub unsent : All (λ sender. sender.sent ≡ []) senders
  pub ready : All IsReady jobs

-- each ring to a shard has room for so many items
abbrev pub RingsHaveRoom : ℕ → List (Sending Routed) → Type 0
RingsHaveRoom capacity senders = All (λ sender. sender.capacity ≡ capacity) senders

-- each shard begins with tables of the plan
pub record AreRings (plan : Plan) (jobs : List ShardJob) (senders : List (Sending Routed)) : Type 0 where
  pub tables : All (λ job. IsOfPlan plan job.tables) jobs
  pub can : CanShare jobs senders
