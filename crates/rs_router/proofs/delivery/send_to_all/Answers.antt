-- One shard more was sent the item; after the last one all were.
use Rattle.std.proofs.Common.{◌≡◌, ◌∙◌, sym, ap, arith, ℕ, ◌++◌, ◌∷◌, [], List, Some, get_or, length}
use Rattle.std.specs.Prelude.{slice_get}
use Rattle.std.proofs.lemmas.List.{length-map}
use Rattle.std.proofs.lemmas.Option.{slice_get-get_or}
use Rattle.rs_ring.specs.Ends.{Sending}
use Rattle.rs_router.specs.Delivery.{item_of, sent_lists}
use Rattle.rs_router.specs.declared.routed.Routed.{Routed}
use Rattle.rs_patience.proofs.PlaceLemmas.{get-set_other, map-set_same}
use Rattle.rs_router.proofs.PlaceLemmas.{map_from, map_from-end, map_from-step}
use Rattle.rs_router.proofs.delivery.send_to_all.Goals as goal

pub loop-sender-preserved : goal.loop-sender-preserved
loop-sender-preserved g c =
    let to : List (Sending Routed) = c.loop-sender.to in
    let at : ℕ = c.loop-sender.sender-index in
    let old : Sending Routed = get_or to at c.sender-item.result in
    let here : slice_get to at ≡ Some old = slice_get-get_or to at c.sender-item.result (omega (arith, c.loop-sender-test.true)) in
    let new : Sending Routed = c.offer.new.sender in
    record {
      sent = map_from-step (λ (s : Sending Routed). s.sent) (λ sent. sent ++ item_of c.args.shared ∷ []) at to old new here
          (c.offer.ensures.sent ∙ ap (λ (item : Routed). old.sent ++ item ∷ []) c.item.ensures)
          ∙ c.loop-sender.invariant.sent;
      rings = map-set_same (λ (s : Sending Routed). s.ring) to at old new here c.offer.ensures.same ∙ c.loop-sender.invariant.rings;
      later = λ shard from. get-set_other to at new shard (λ e. omega (arith, from, e))
          ∙ c.loop-sender.invariant.later shard (omega (arith, from));
    }

pub returns-clause-sent : goal.returns-clause-sent
returns-clause-sent g c =
    let lists : List (List Routed) = sent_lists c.loop-sender.to in
    let more : List Routed → List Routed = λ sent. sent ++ item_of c.args.shared ∷ [] in
    let all : length lists ≡ c.loop-sender.sender-index =
    omega (
      arith,
      length-map c.loop-sender.to (λ (s : Sending Routed). s.sent),
      c.loop-sender.auto.to,
      c.loop-sender.auto.sender-index-end,
      c.loop-sender-test.false,
    ) in
    sym (map_from-end more lists) ∙ ap (λ (n : ℕ). map_from more n lists) all ∙ c.loop-sender.invariant.sent
