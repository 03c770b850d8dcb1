-- The end of a schedule, peer by peer: for `run_turns` of steps.rt, `replay` of schedule.rt, and `drained_schedules_agree` of laws.rt.
use Rattle.std.proofs.Common.{◌≡◌, ◌∙◌, sym, ap, subst, refl, ℕ, ◌<◌, suc, zero, arith, List, [], ◌∷◌, length, take, map, Option, Some}
use Rattle.std.specs.Prelude.{slice_get}
use Rattle.std.specs.List.{zip}
use Rattle.std.specs.Option.{option_map}
use Rattle.std.proofs.lemmas.List.{length-map}
use Rattle.std.proofs.lemmas.Option.{slice_get-map, slice_get-get_or, slice_get_within}
use Rattle.std.proofs.Math.Seq.{take-length}
use Rattle.rs_choice.specs.Plan.{Peer, Plan, id_of}
use Rattle.rs_session.specs.Change.{Change}
use Rattle.rs_session.specs.FileChanges.{changes_in}
use Rattle.rs_table.specs.Content.{RibContent, TablesContent, rib_of, rib_left, nothing_held}
use Rattle.rs_floor.specs.FloorContent.{IsPeerReplayed, IsReplayed, recorded_by}
use Rattle.rs_floor.specs.Lane.{LaneContent, fresh_lane, lane_through, received_of}
use Rattle.rs_floor.specs.Laws.{DrainedSchedulesAgree}
use Rattle.rs_floor.specs.Schedule.{at_start, after_turns}
use Rattle.rs_floor.specs.Steps.{HoldReceived, IsEnd}
use Rattle.rs_floor.specs.declared.counts.Counts.{Counts}
use Rattle.rs_floor.specs.declared.turn.Turn.{Turn}
use Rattle.rs_table.proofs.RibLemmas.{rib_left-nothing}
use Rattle.rs_patience.proofs.PlaceLemmas.{map-get, some-at}
use Rattle.rs_serve.proofs.ListLemmas.{same-places, zip-counted}

-- the peer and the file whose changes stand at a place
pub record IsRecordedAt (peers : List Peer) (files : List (List ℕ)) (at : ℕ) (changes : List Change) : Type 0 where
  pub peer : Peer
  pub file : List ℕ
  pub peer_at : slice_get peers at ≡ Some peer
  pub file_at : slice_get files at ≡ Some file
  pub says : changes_in (id_of peer) file ≡ changes

pub recorded-at : (peers : List Peer) (files : List (List ℕ)) (at : ℕ) (changes : List Change)
    → slice_get (map (λ (peer, file). changes_in (id_of peer) file) (zip peers files)) at ≡ Some changes
    → IsRecordedAt peers files at changes
recorded-at [] files at changes e = absurd cc
recorded-at (p ∷ peers) [] at changes e = absurd cc
recorded-at (p ∷ peers) (f ∷ files) zero changes e = record { peer = p; file = f; peer_at = refl; file_at = refl; says = cc }
recorded-at (p ∷ peers) (f ∷ files) (suc at) changes e =
    let later = recorded-at peers files at changes e in
    record { peer = later.peer; file = later.file; peer_at = later.peer_at; file_at = later.file_at; says = later.says }

pub length-recorded : (peers : List Peer) (files : List (List ℕ)) → length files ≡ length peers
    → length (map (λ (peer, file). changes_in (id_of peer) file) (zip peers files)) ≡ length peers
length-recorded peers files e = length-map (zip peers files) (λ (peer, file). changes_in (id_of peer) file) ∙ zip-counted peers files e

-- before the first turn nothing was received
pub held-fresh : (plan : Plan) (files : List (List ℕ)) (capacity : ℕ) (lanes : List LaneContent) (tables : TablesContent)
    → length files ≡ length plan.peers → length lanes ≡ length files
    → ((number : ℕ) (peer : Peer) (file : List ℕ) → slice_get plan.peers number ≡ Some peer → slice_get files number ≡ Some file
    → slice_get lanes number ≡ Some (fresh_lane capacity (id_of peer) file))
    → ((peer : ℕ) → rib_of tables peer ≡ nothing_held) → HoldReceived tables lanes
held-fresh plan files capacity lanes tables as_many lanes_many fresh empty number lane e =
    let below = slice_get_within lanes number lane e in
    let peer = some-at plan.peers number (omega (arith, below)) in
    let file = some-at files number (omega (arith, below)) in
    let start : LaneContent = fresh_lane capacity (id_of peer.0) file.0 in
    let found : slice_get lanes number ≡ Some start = fresh number peer.0 file.0 peer.1 file.1 in
    let same : start ≡ lane = cc in
    empty number ∙ sym rib_left-nothing ∙ ap (λ (l : LaneContent). rib_left (received_of l)) same

-- the end of the lanes, lane by lane
pub ended : (turns : List Turn) (lanes after : List LaneContent) (counts : List Counts) (tables : TablesContent)
    → length after ≡ length lanes
    → ((peer : ℕ) → slice_get after peer ≡ option_map (lane_through turns peer) (slice_get lanes peer)) → HoldReceived tables after
    → counts ≡ map (λ lane. lane.counts) after
    → IsEnd turns lanes counts tables
ended turns lanes after counts tables as_many turned held counted = record {
  counted = ap (λ (cs : List Counts). length cs) counted ∙ length-map after (λ lane. lane.counts) ∙ as_many;
  counts_are = λ peer lane e.
      ap (λ (cs : List Counts). slice_get cs peer) counted ∙ slice_get-map (λ lane. lane.counts) after peer
      ∙ ap (λ (o : Option LaneContent). option_map (λ (one : LaneContent). one.counts) o)
      (turned peer ∙ ap (λ (o : Option LaneContent). option_map (lane_through turns peer) o) e);
  held = λ peer lane e. held peer (lane_through turns peer lane)
      (turned peer ∙ ap (λ (o : Option LaneContent). option_map (lane_through turns peer) o) e);
}

-- the end of the lanes is the end of the schedule
pub replayed : (plan : Plan) (files : List (List ℕ)) (capacity : ℕ) (turns : List Turn) (lanes : List LaneContent) (tables : TablesContent)
    (counts : List Counts)
    → length files ≡ length plan.peers → length lanes ≡ length files → tables.plan ≡ plan → length tables.ribs ≡ length plan.peers
    → ((number : ℕ) (peer : Peer) (file : List ℕ) → slice_get plan.peers number ≡ Some peer → slice_get files number ≡ Some file
    → slice_get lanes number ≡ Some (fresh_lane capacity (id_of peer) file))
    → IsEnd turns lanes counts tables
    → IsReplayed plan (recorded_by plan files) capacity turns (record { tables = tables; counts = counts })
replayed plan files capacity turns lanes tables counts as_many lanes_many plan_is ribs_many fresh end =
    let recorded_many : length (recorded_by plan files) ≡ length plan.peers = length-recorded plan.peers files as_many in
    record {
      plan_is = plan_is;
      as_many = ribs_many ∙ sym recorded_many;
      counted = end.counted ∙ lanes_many ∙ as_many ∙ sym recorded_many;
      peers = λ number changes e.
          let at = recorded-at plan.peers files number changes e in
          let start : LaneContent = fresh_lane capacity (id_of at.peer) at.file in
          let here : slice_get lanes number ≡ Some start = fresh number at.peer at.file at.peer_at at.file_at in
          let P : List Change → Type 0 =
          λ cs. IsPeerReplayed cs (after_turns capacity (length cs) number at_start turns) (record { tables = tables; counts = counts })
          number in
          let below : number < length tables.ribs =
          omega (arith, slice_get_within (recorded_by plan files) number changes e, recorded_many, ribs_many) in
          subst P at.says (record {
            counts_are = end.counts_are number start here;
            rib = slice_get-get_or tables.ribs number nothing_held below ∙ ap Some (end.held number start here);
          });
    }

-- where all was received, what the tables hold is what is recorded
pub drained : DrainedSchedulesAgree
drained plan files capacity turns floor replayed_so all =
    let recorded : List (List Change) = recorded_by plan files in
    let places : (at : ℕ) (rib : RibContent) → slice_get (map rib_left recorded) at ≡ Some rib → slice_get floor.tables.ribs at ≡ Some rib =
    λ at rib e.
    let found = map-get rib_left recorded at rib e in
    let one = replayed_so.peers at found.0 found.1.0 in
    let whole = all at found.0 (after_turns capacity (length found.0) at at_start turns) found.1.0 one.counts_are in
    one.rib ∙ ap (λ (n : ℕ). Some (rib_left (take n found.0))) whole ∙ ap (λ (cs : List Change). Some (rib_left cs)) (take-length found.0)
    ∙ ap Some found.1.1 in
    let ribs : floor.tables.ribs ≡ map rib_left recorded =
    same-places (map rib_left recorded) floor.tables.ribs (length-map recorded rib_left ∙ sym replayed_so.as_many) places in
    let plan_is : floor.tables.plan ≡ plan = replayed_so.plan_is in
    let tables : TablesContent = floor.tables in
    ap (λ (held : Plan). let made : TablesContent = record { plan = held; ribs = tables.ribs } in made) plan_is
    ∙ ap (λ (held : List RibContent). let made : TablesContent = record { plan = plan; ribs = held } in made) ribs
