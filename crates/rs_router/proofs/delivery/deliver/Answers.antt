-- The shard of the prefix was sent the change, or all were.
use Rattle.std.proofs.Common.{◌≡◌, ◌∙◌, sym, ap, inl, inr, ℕ, List, Some, get_or, length, rules}
use Rattle.std.specs.Prelude.{◌==◌, slice_get, slice_set}
use Rattle.std.proofs.lemmas.List.{length-map, map-set}
use Rattle.std.proofs.lemmas.Option.{slice_get-get_or}
use Rattle.rs_ring.specs.Ends.{Sending}
use Rattle.rs_change.specs.Change.{body_of, change_of}
use Rattle.rs_change.specs.declared.word.Body.{Body}
use Rattle.rs_router.specs.ShardParts.{gets, gets_body, shard_of}
use Rattle.rs_router.specs.Delivery.{Delivered, sent_lists}
use Rattle.rs_router.specs.declared.routed.Routed.{Routed}
use Rattle.rs_patience.proofs.PlaceLemmas.{get-map, map-set_same}
use Rattle.rs_router.proofs.RoutingLemmas.{delivered_to_one}
use Rattle.rs_router.proofs.delivery.deliver.Goals as goal

pub returns-in-Announce-clause-sent : goal.returns-in-Announce-clause-sent
returns-in-Announce-clause-sent g c =
    let to : List (Sending Routed) = c.args.to.now in
    let at : ℕ = c.shard_of-shard.result in
    let old : Sending Routed = get_or to at c.index-to-shard.result in
    let here : slice_get to at ≡ Some old = slice_get-get_or to at c.index-to-shard.result c.shard_of-shard.ensures.below in
    let new : Sending Routed = c.offer.new.sender in
    let on : (shards shard : ℕ) → gets shards shard (change_of c.args.word) ≡ (shard_of c.in-Announce.prefix shards == shard) =
    λ shards shard. elim c.in-Announce.is [
      | inl told ↦ ap (λ (body : Body). gets_body shards shard (body_of body)) told.1
      | inr told ↦ ap (λ (body : Body). gets_body shards shard (body_of body)) told
    ] in
    let count : length to ≡ length (sent_lists to) = sym (length-map to (λ (s : Sending Routed). s.sent)) in
    let told : Delivered c.args.peer c.args.word (sent_lists to) (slice_set (sent_lists to) at new.sent) =
    delivered_to_one (sent_lists to) c.args.peer c.args.word c.in-Announce.prefix at old.sent new.sent on
    (c.shard_of-shard.ensures.shard ∙ ap (λ (n : ℕ). shard_of c.in-Announce.prefix n) count)
    (get-map (λ (s : Sending Routed). s.sent) to at old here) c.offer.ensures.sent in
    λ shard. ap (λ (lists : List (List Routed)). slice_get lists shard) (map-set (λ (s : Sending Routed). s.sent) to at new) ∙ told shard

pub returns-in-Announce-clause-same : goal.returns-in-Announce-clause-same
returns-in-Announce-clause-same g c =
    let to : List (Sending Routed) = c.args.to.now in
    let at : ℕ = c.shard_of-shard.result in
    map-set_same (λ (s : Sending Routed). s.ring) to at (get_or to at c.index-to-shard.result) c.offer.new.sender
    (slice_get-get_or to at c.index-to-shard.result c.shard_of-shard.ensures.below) c.offer.ensures.same

pub returns-in-Close-clause-same : goal.returns-in-Close-clause-same
returns-in-Close-clause-same g c = search rules

pub returns-in-Down-clause-same : goal.returns-in-Down-clause-same
returns-in-Down-clause-same g c = search rules
