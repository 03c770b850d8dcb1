-- A run, from the start of its threads to their join: for crew.rt, and `serve_within` of serving.rt.
use mathlib.Core.List.{IsPrefix, map-map}
use Rattle.std.proofs.Common.{◌≡◌, ◌∙◌, sym, ap, ℕ, ◌≤◌, ◌^◌, All, arith, Option, Result, Ok, Err, Bool, true, false, List, [], ◌++◌, length, map, get_or}
use Rattle.std.proofs.Common.{append-nil, length-append}
use Rattle.std.specs.Prelude.{IfErr, IfOk, slice_get}
use Rattle.std.proofs.lemmas.List.{length-map, nil_from_length}
use Rattle.std.proofs.lemmas.List.Elements.{All-map}
use Rattle.std.proofs.lemmas.Option.{slice_get-get_or, slice_get_within}
use Rattle.rs_choice.specs.Plan.{Plan, id_of}
use Rattle.rs_mrt.specs.Record.{MrtRecord}
use Rattle.rs_ring.specs.Ends.{Receiving, Sending}
use Rattle.rs_router.specs.Routing.{AreClosed, AreShardParts, received_lists}
use Rattle.rs_router.specs.declared.routed.Routed.{Routed}
use Rattle.rs_change.specs.declared.word.Word.{Word}
use Rattle.rs_serve.specs.Crew as shards
use Rattle.rs_serve.specs.Crew.{AllHold}
use Rattle.rs_serve.specs.Laws.{IsOfPlan, AreShardsOf, IsRun, RunShardsAreWhole, ShardsMerge}
use Rattle.rs_serve.specs.declared.shard_crew.ShardJob.{ShardJob}
use Rattle.rs_session.specs.Change.{is_read}
use Rattle.rs_session.specs.Stage.{Comes}
use Rattle.rs_table.specs.Content.{TablesContent}
use Rattle.rs_update.specs.declared.errors.Errors.{Errors}
use Rattle.rs_worker.specs.Crew.{AllJoined, Charge, charge_of}
use Rattle.rs_worker.specs.declared.crew.Job.{Job}
use Rattle.rs_worker.specs.declared.crew.Joined.{Joined}
use Rattle.rs_serve.specs.Lines.{AreLines, AreRings, HasFewOctets}
use Rattle.rs_serve.specs.Run.{HasRun, CanMerge, IsAnswer, IsRefusal}
use Rattle.rs_serve.specs.ServeAnswer.{ServeSourcesAnswer, WithinLimits}
use Rattle.rs_serve.specs.Served.{ServedContent, IsServedOver}
use Rattle.rs_serve.specs.declared.fault.FloorRefused.{FloorRefused}
use Rattle.rs_serve.specs.declared.fault.FloorRefused.TheVariants.{Memory, Capacity, Read, Shards, Unsettled}
use Rattle.rs_patience.proofs.PlaceLemmas.{all-at, get-map, same-counted}
use Rattle.rs_serve.proofs.serving.AllServedLemmas.{all-served, fails-first, within-peers}

-- a beginning that is as long is the whole
pub prefix-whole : {X : Type 0} (xs ys : List X) → IsPrefix xs ys → length xs ≡ length ys → xs ≡ ys
prefix-whole xs ys prefix counts =
    let none : prefix.0 ≡ [] = nil_from_length prefix.0 (omega (arith, ap length prefix.1, length-append xs prefix.0, counts)) in
    sym (append-nil xs) ∙ ap (λ zs. xs ++ zs) (sym none) ∙ prefix.1

-- where all were started, each is charged with its job
pub all-charged : {H J C : Type 0} (charged : H → C) (charge : J → C) (handles : List H) (jobs : List J)
    → IsPrefix (map charged handles) (map charge jobs) → length handles ≡ length jobs → map charged handles ≡ map charge jobs
all-charged charged charge handles jobs prefix counts =
    prefix-whole (map charged handles) (map charge jobs) prefix (length-map handles charged ∙ counts ∙ sym (length-map jobs charge))

-- there are no more handles than jobs
pub prefix-shorter : {H J C : Type 0} (charged : H → C) (charge : J → C) (handles : List H) (jobs : List J)
    → IsPrefix (map charged handles) (map charge jobs) → length handles ≤ length jobs
prefix-shorter charged charge handles jobs prefix =
    omega (arith, ap length prefix.1, length-append (map charged handles) prefix.0, length-map handles charged, length-map jobs charge)

-- and has the ring whose other end is here
pub rings-of : {H J C Q E : Type 0} (charged : H → C) (charge : J → C) (ring : C → Q) (end : E → Q) (handles : List H) (jobs : List J)
    (before after : List E)
    → map charged handles ≡ map charge jobs → map (λ job. ring (charge job)) jobs ≡ map end before → map end after ≡ map end before
    → map (λ handle. ring (charged handle)) handles ≡ map end after
rings-of charged charge ring end handles jobs before after same rings kept =
    sym (map-map ring charged handles) ∙ ap (map ring) same ∙ map-map ring charge jobs ∙ rings ∙ sym kept

-- all were joined
pub has-run : {S : Type 0} (comes : Comes S) (shows : S → Option MrtRecord) (workers : List (Charge S))
    (of_shards : List shards.Charge) (routed joined : List (Receiving Word)) (sent : List (List Routed))
    (ends : List Joined) (parts : List TablesContent) (whole : Bool)
    → AreClosed (received_lists routed) → AreShardParts (received_lists routed) sent
    → map (λ receiver. receiver.received) joined ≡ map (λ receiver. receiver.received) routed
    → length routed ≡ length workers → length sent ≡ length of_shards → length ends ≡ length workers
    → AllJoined comes shows workers joined ends → (whole ≡ true → AllHold of_shards sent parts)
    → HasRun comes shows workers of_shards ends parts whole
has-run comes shows workers of_shards routed joined sent ends parts whole closed shard_parts same counted sizes ended known held = record {
  receivers = joined;
  sent = sent;
  closed = rw same closed;
  shard_parts = rw same shard_parts;
  counted = same-counted (λ (r : Receiving Word). r.received) (λ (r : Receiving Word). r.received) joined routed same ∙ counted;
  shared = sizes;
  joined = ended;
  known = known;
  held = held;
}

-- the jobs' sources have no more octets than a session reads
pub few-octets : {S : Type 0} (room : S → ℕ) (plan : Plan) (sources : List S) (jobs : List (Job S)) (lines : List (Receiving Word))
    → AreLines plan sources jobs lines → All (λ source. room source ≤ 2 ^ 50) sources → All (HasFewOctets room) jobs
few-octets {S} room plan sources jobs lines are few = λ place d below.
    let job_at = slice_get-get_or jobs place d below in
    all-at (λ (source : S). room source ≤ 2 ^ 50) sources few place (get_or jobs place d).source
    (sym (ap (λ (ss : List S). slice_get ss place) are.sources_are) ∙ get-map (λ (j : Job S). j.source) jobs place (get_or jobs place d) job_at)

module _ {S : Type 0} (comes : Comes S) (shows : S → Option MrtRecord) (errors : Errors) (plan : Plan) (sources : List S)
    (jobs : List (Job S)) (lines : List (Receiving Word))
    (of_shards : List ShardJob) (senders : List (Sending Routed)) (ends : List Joined) (parts : List TablesContent) (whole : Bool)
    (are : AreLines plan sources jobs lines) (rings : AreRings plan of_shards senders)
    (run : HasRun comes shows (map (charge_of errors) jobs) (map shards.charge_of of_shards) ends parts whole) where
  peers-counted : length jobs ≡ length plan.peers
  peers-counted = same-counted (λ (job : Job S). job.id) id_of jobs plan.peers are.peers

  is-run : whole ≡ true → IsRun plan (received_lists run.receivers) run.sent (map shards.charge_of of_shards) parts
  is-run is = record {
    counted = rw (run.shared, length-map of_shards shards.charge_of) rings.can.counted;
    peers = length-map run.receivers (λ (r : Receiving Word). r.received) ∙ run.counted ∙ length-map jobs (charge_of errors)
        ∙ peers-counted;
    shards = sym run.shared;
    charged = all-at (λ (charge : shards.Charge). IsOfPlan plan charge.tables) (map shards.charge_of of_shards)
        (All-map (λ (charge : shards.Charge). IsOfPlan plan charge.tables) shards.charge_of of_shards rings.tables);
    closed = run.closed;
    shard_parts = run.shard_parts;
    hold = run.held is;
  }

  whole-shards : RunShardsAreWhole → whole ≡ true → AreShardsOf plan (received_lists run.receivers) parts
  whole-shards law is = law plan (received_lists run.receivers) run.sent (map shards.charge_of of_shards) parts (is-run is)

  -- the shards' tables can be made one
  pub can-merge : RunShardsAreWhole → ShardsMerge → whole ≡ true → CanMerge (length ends) parts
  can-merge law merge is =
      let shards_of = whole-shards law is in
      record {
        some = shards_of.counted.0;
        parts_are = (merge plan (received_lists run.receivers) parts shards_of).0;
        counted = λ place d below. ap (λ (p : Plan). length p.peers)
            (shards_of.each place (get_or parts place d) (slice_get-get_or parts place d below)).of_plan.plan_is
            ∙ sym (run.joined ∙ length-map jobs (charge_of errors) ∙ peers-counted);
      }

  -- and then they are what the sessions leave
  pub run-served : RunShardsAreWhole → ShardsMerge → (served : ServedContent) → IsAnswer ends parts whole served
      → IsServedOver comes shows errors plan sources served
  run-served law merge served answer =
      all-served comes shows errors plan sources jobs lines of_shards ends parts whole are run served answer
      ((merge plan (received_lists run.receivers) parts (whole-shards law answer.whole_is)).1 served.tables answer.merged
      answer.one_for_each)

  -- what a run answers of which all threads were joined
  pub run-answers : (capacity of_shard : ℕ) → WithinLimits capacity of_shard → RunShardsAreWhole → ShardsMerge
      → (result : Result ServedContent FloorRefused) → IfOk result (IsAnswer ends parts whole) → IfErr result (IsRefusal ends whole)
      → ServeSourcesAnswer comes shows errors plan sources capacity of_shard result
  run-answers capacity of_shard within law merge (Ok served) answer refused =
      (within, run-served law merge served answer)
  run-answers capacity of_shard within law merge (Err Memory) answer refused = within
  run-answers capacity of_shard within law merge (Err Capacity) answer refused = absurd refused
  run-answers capacity of_shard within law merge (Err Shards) answer refused = absurd refused
  run-answers capacity of_shard within law merge (Err (Read peer)) answer refused = (
    within,
    (
      within-peers comes shows errors plan sources jobs lines of_shards ends parts whole are run peer
          (omega (
            arith,
            slice_get_within (map (λ (end : Joined). is_read end.reason) ends) peer true refused.least.has,
            length-map ends (λ (end : Joined). is_read end.reason),
          )),
      fails-first comes shows errors plan sources jobs lines of_shards ends parts whole are run peer refused,
    ),
  )
  run-answers capacity of_shard within law merge (Err (Unsettled peer)) answer refused = (
    within,
    within-peers comes shows errors plan sources jobs lines of_shards ends parts whole are run peer
        (omega (
          arith,
          slice_get_within (map (λ (end : Joined). end.settled) ends) peer false refused.least.has,
          length-map ends (λ (end : Joined). end.settled),
        )),
  )
