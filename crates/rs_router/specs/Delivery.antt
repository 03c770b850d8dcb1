-- One more item is sent to the shards that get it.
use Rattle.std.specs.Prelude.{◌≡◌, ◌<◌, ◌^◌, ◌++◌, ◌∷◌, [], ℕ, false, List, length, map, slice_get, Some, if◌then◌else◌}
use Rattle.std.specs.Option.{option_map}
use Rattle.rs_ring.specs.Ends.{Sending}
use Rattle.rs_ring.specs.Items.{has_close}
use Rattle.rs_change.specs.Change.{change_of}
use Rattle.rs_change.specs.declared.word.Body.TheVariants.{Down, Close}
use Rattle.rs_change.specs.declared.word.Word.{Word}
use Rattle.rs_router.specs.ShardParts.{gets}
use Rattle.rs_router.specs.RoutedItems.{is_last}
use Rattle.rs_router.specs.declared.delivery.Shared.{Shared}
use Rattle.rs_router.specs.declared.delivery.Shared.TheVariants as shared
use Rattle.rs_router.specs.declared.routed.Routed.{Routed}
use Rattle.rs_router.specs.declared.routed.Routed.TheVariants as items

-- what was sent to each shard
abbrev pub sent_lists : List (Sending Routed) → List (List Routed)
sent_lists senders = map (λ sender. sender.sent) senders

-- the senders are ends of the same rings
abbrev pub SameSenders : List (Sending Routed) → List (Sending Routed) → Type 0
SameSenders before after = map (λ sender. sender.ring) after ≡ map (λ sender. sender.ring) before

-- each shard may be sent one more item: its last item was not sent yet, and its ring is below its limit
abbrev pub CanSend : List (Sending Routed) → Type 0
CanSend senders =
    (shard : ℕ) (sender : Sending Routed) → slice_get senders shard ≡ Some sender
    → (has_close is_last sender.sent ≡ false) × (length sender.sent < 2 ^ 60)

-- an item that each shard gets, as it is sent to one of them
abbrev pub item_of : Shared → Routed
item_of (shared.Down peer time) = items.Word peer (record { time = time; body = Down })
item_of (shared.Close peer time reason) = items.Word peer (record { time = time; body = Close reason })
item_of shared.Last = items.Last

-- each shard was sent the item
abbrev pub IsSentToAll : Routed → List (List Routed) → List (List Routed) → Type 0
IsSentToAll item before after = after ≡ map (λ sent. sent ++ item ∷ []) before

-- the items sent to one shard, and then a peer's change, if the shard gets this change
abbrev pub with_word : ℕ → ℕ → Word → ℕ → List Routed → List Routed
with_word shards peer word shard sent =
    if gets shards shard (change_of word) then sent ++ items.Word peer word ∷ [] else sent

-- a peer's change was sent to each shard that gets it
abbrev pub Delivered : ℕ → Word → List (List Routed) → List (List Routed) → Type 0
Delivered peer word before after =
    (shard : ℕ) → slice_get after shard
    ≡ option_map (with_word (length before) peer word shard) (slice_get before shard)
