-- Rings as they are opened, one after another: for `open_lines` of lines.rt, and `open_rings` of rings.rt.
use Rattle.std.proofs.Common.{◌≡◌, ◌∙◌, sym, ap, refl, ℕ, arith, List, [], ◌∷◌, ◌++◌, All, drop, length, map, take, ◌≤◌, Some}
use Rattle.std.proofs.Common.{length-append}
use Rattle.std.specs.Prelude.{slice_get}
use Rattle.std.proofs.lemmas.List.{length-drop, map-append, take_all}
use Rattle.std.proofs.lemmas.List.Elements.{All-nil, All-push}
use Rattle.rs_choice.specs.Plan.{Peer, Plan, id_of}
use Rattle.rs_ring.specs.Ends.{Receiving, Sending}
use Rattle.rs_router.specs.declared.routed.Routed.{Routed}
use Rattle.rs_change.specs.declared.word.Word.{Word}
use Rattle.rs_serve.specs.Crew.{IsReady}
use Rattle.rs_serve.specs.Laws.{IsOfPlan}
use Rattle.rs_serve.specs.declared.shard_crew.ShardJob.{ShardJob}
use Rattle.rs_worker.specs.declared.crew.Job.{Job}
use Rattle.rs_serve.specs.Lines.{IsLine, IsRing, CanWork, AreLines}
use Rattle.rs_patience.proofs.PlaceLemmas.{drop-front, drop-later, take-more}

-- two lists made alike stay so with one member more
map-more : {X Y Z : Type 0} (f : X → Z) (g : Y → Z) (xs : List X) (ys : List Y) (x : X) (y : Y) → map f xs ≡ map g ys → f x ≡ g y
    → map f (xs ++ x ∷ []) ≡ map g (ys ++ y ∷ [])
map-more f g xs ys x y same e = rw (map-append f xs (x ∷ []), map-append g ys (y ∷ []), same, e)

-- the rings of some sources were opened, those of the rest weren't
pub record Opening {S : Type 0} (peers : List Peer) (all rest : List S) (jobs : List (Job S))
    (receivers : List (Receiving Word)) : Type 0 where
  pub left : rest ≡ drop (length jobs) all
  pub sources : map (λ job. job.source) jobs ≡ take (length jobs) all
  pub ids : map (λ job. job.id) jobs ≡ map id_of (take (length jobs) peers)
  pub can : CanWork jobs receivers

module _ {S : Type 0} (plan : Plan) where
  pub opening-none : (all : List S) (jobs : List (Job S)) (receivers : List (Receiving Word)) → jobs ≡ [] → receivers ≡ []
      → Opening plan.peers all all jobs receivers
  opening-none all jobs receivers no_jobs no_receivers =
      rw (no_jobs, no_receivers) (record {
        left = refl;
        sources = refl;
        ids = refl;
        can = record {
          rings = refl;
          unsent = All-nil (λ (j : Job S). j.out.sent ≡ []);
          unreceived = All-nil (λ (r : Receiving Word). r.received ≡ []);
        };
      })

  pub opening-next : (all rest : List S) (jobs : List (Job S)) (receivers : List (Receiving Word)) (peer : Peer)
      (source : S) (job : Job S) (receiver : Receiving Word)
      → Opening plan.peers all (source ∷ rest) jobs receivers → slice_get plan.peers (length jobs) ≡ Some peer
      → IsLine peer source job receiver → Opening plan.peers all rest (jobs ++ job ∷ []) (receivers ++ receiver ∷ [])
  opening-next all rest jobs receivers peer source job receiver so_far at line =
      let taken = take-more all (length jobs) source (drop-front all (length jobs) source rest (sym so_far.left)) in
      let peers = take-more plan.peers (length jobs) peer at in
      let more = length-append jobs (job ∷ []) in
      record {
        left = rw more (sym (drop-later all (length jobs) source rest (sym so_far.left)));
        sources = rw (more, taken) (map-append (λ (j : Job S). j.source) jobs (job ∷ [])
            ∙ ap (λ (ss : List S). ss ++ job.source ∷ []) so_far.sources
            ∙ ap (λ (s : S). take (length jobs) all ++ s ∷ []) line.source_is);
        ids = rw (more, peers) (map-more (λ (j : Job S). j.id) id_of jobs (take (length jobs) plan.peers)
            job peer so_far.ids line.id);
        can = record {
          rings = map-more (λ (j : Job S). j.out.ring) (λ (r : Receiving Word). r.ring)
              jobs receivers job receiver so_far.can.rings line.ring;
          unsent = All-push (λ (j : Job S). j.out.sent ≡ []) jobs job so_far.can.unsent line.unsent;
          unreceived = All-push (λ (r : Receiving Word). r.received ≡ []) receivers receiver so_far.can.unreceived line.unreceived;
        };
      }

  pub opening-all : (all : List S) (jobs : List (Job S)) (receivers : List (Receiving Word))
      → Opening plan.peers all [] jobs receivers → length all ≡ length plan.peers → AreLines plan all jobs receivers
  opening-all all jobs receivers so_far as_many =
      let most : length all ≤ length jobs = omega (arith, length-drop (length jobs) all, ap length so_far.left) in
      record {
        sources_are = so_far.sources ∙ take_all (length jobs) all most;
        peers = so_far.ids ∙ ap (map id_of) (take_all (length jobs) plan.peers (omega (arith, most, as_many)));
        can = so_far.can;
      }

-- the rings of some shards were opened
pub record OpeningRings (plan : Plan) (jobs : List ShardJob) (senders : List (Sending Routed)) : Type 0 where
  pub tables : All (λ job. IsOfPlan plan job.tables) jobs
  pub rings : map (λ job. job.from.ring) jobs ≡ map (λ sender. sender.ring) senders
  pub unsent : All (λ sender. sender.sent ≡ []) senders
  pub ready : All IsReady jobs

pub rings-next : (plan : Plan) (jobs : List ShardJob) (senders : List (Sending Routed)) (job : ShardJob) (sender : Sending Routed)
    → OpeningRings plan jobs senders → IsRing plan job sender
    → OpeningRings plan (jobs ++ job ∷ []) (senders ++ sender ∷ [])
rings-next plan jobs senders job sender so_far one = record {
  tables = All-push (λ (j : ShardJob). IsOfPlan plan j.tables) jobs job so_far.tables one.tables;
  rings = map-more (λ (j : ShardJob). j.from.ring) (λ (s : Sending Routed). s.ring) jobs senders job sender so_far.rings one.ring;
  unsent = All-push (λ (s : Sending Routed). s.sent ≡ []) senders sender so_far.unsent one.unsent;
  ready = All-push IsReady jobs job so_far.ready one.ready;
}
