-- The changes of all peers, on their way from the peers' rings to the shards.
use Rattle.std.specs.Prelude.{◌≡◌, ◌≤◌, ◌^◌, ◌++◌, ◌∷◌, [], ℕ, Bool, true, false, List, length, map, sum_by, slice_get}
use Rattle.std.specs.Prelude.{Some}
use Rattle.std.specs.List.{list_all, list_any}
use Rattle.rs_ring.specs.Ends.{Receiving}
use Rattle.rs_change.specs.Change.{change_of, is_close}
use Rattle.rs_change.specs.declared.word.Word.{Word}
use Rattle.rs_router.specs.ShardParts.{shard_part}
use Rattle.rs_router.specs.RoutedItems.{is_known, is_last, of_peer}
use Rattle.rs_router.specs.declared.routed.Routed.{Routed}
use Rattle.rs_router.specs.declared.routed.Routed.TheVariants.{Last}

-- the changes that were received of each peer
abbrev pub received_lists : List (Receiving Word) → List (List Word)
received_lists receivers = map (λ receiver. receiver.received) receivers

-- the receivers are ends of the same rings
abbrev pub SameReceivers : List (Receiving Word) → List (Receiving Word) → Type 0
SameReceivers before after = map (λ receiver. receiver.ring) after ≡ map (λ receiver. receiver.ring) before

-- whether a list of changes has a close
abbrev pub is_closed : List Word → Bool
is_closed received = list_any (λ word. is_close (change_of word)) received

-- whether each peer's session closed
abbrev pub all_closed : List (Receiving Word) → Bool
all_closed receivers = list_all (λ receiver. is_closed receiver.received) receivers

-- the last change is a close, and the only one
pub record EndsClosed (received : List Word) : Type 0 where
  pub earlier : List Word
  pub close : Word
  pub is : received ≡ earlier ++ close ∷ []
  pub until_then : is_closed earlier ≡ false
  pub closes : is_close (change_of close) ≡ true

-- of each peer, the last change is a close, and the only one
abbrev pub AreClosed : List (List Word) → Type 0
AreClosed received = (peer : ℕ) (words : List Word) → slice_get received peer ≡ Some words → EndsClosed words

-- of the changes received of each peer, each shard was sent its part
abbrev pub AreShardParts : List (List Word) → List (List Routed) → Type 0
AreShardParts received sent =
    (peer shard : ℕ) (words : List Word) (items : List Routed) → slice_get received peer ≡ Some words
    → slice_get sent shard ≡ Some items
    → of_peer peer items ≡ shard_part (length sent) shard (map change_of words)

-- no shard was sent a change of a peer that does not exist
abbrev pub AreKnown : ℕ → List (List Routed) → Type 0
AreKnown peers sent =
    (shard : ℕ) (items : List Routed) → slice_get sent shard ≡ Some items → list_all (is_known peers) items ≡ true

-- the last item says that it is the last, and no item before it does
pub record EndsLast (items : List Routed) : Type 0 where
  pub earlier : List Routed
  pub is : items ≡ earlier ++ Last ∷ []
  pub until_then : list_any is_last earlier ≡ false

-- for each shard, the last item says that it is the last, and no item before it does
abbrev pub EndLast : List (List Routed) → Type 0
EndLast sent = (shard : ℕ) (items : List Routed) → slice_get sent shard ≡ Some items → EndsLast items

-- The state between two changes. Of each peer, fewer changes than its ring's limit were received, and only the last
-- may be a close. Each shard was sent its part of them, and no more changes than were received of all peers.
pub record IsRouted (received : List (List Word)) (sent : List (List Routed)) : Type 0 where
  pub shard_parts : AreShardParts received sent
  pub known : AreKnown (length received) sent
  pub unended : (shard : ℕ) (items : List Routed) → slice_get sent shard ≡ Some items → list_any is_last items ≡ false
  pub fits : (shard : ℕ) (items : List Routed) → slice_get sent shard ≡ Some items
      → length items ≤ sum_by length received
  pub below : (peer : ℕ) (words : List Word) → slice_get received peer ≡ Some words → length words ≤ 2 ^ 51
  pub at_end : (peer : ℕ) (words : List Word) → slice_get received peer ≡ Some words → is_closed words ≡ true
      → EndsClosed words
