-- The items of a ring.
use Rattle.std.specs.Prelude.{◌≡◌, ◌<◌, ◌&&◌, ℕ, Bool, false, nat_le, List, length, if◌then◌else◌}
use Rattle.std.specs.List.{list_any}
use Rattle.rs_ring.specs.declared.fault.SendRefused.{SendRefused}
use Rattle.rs_ring.specs.declared.fault.SendRefused.TheVariants.{Closed, Full}

module _ {T : Type 0} where
  -- whether a list has a closing item
  abbrev pub has_close : (T → Bool) → List T → Bool
  has_close closes items = list_any closes items

  -- an item may follow earlier items if these are fewer than the limit, and none of them closes the ring
  abbrev pub MayFollow : (T → Bool) → ℕ → List T → Type 0
  MayFollow closes limit before = (length before < limit) × (has_close closes before ≡ false)

  -- Why an item is refused after the items that were sent; the item is given back. If the ring is closed and full,
  -- the refusal says that it is closed.
  abbrev pub refusal : (T → Bool) → List T → T → SendRefused T
  refusal closes sent item = if has_close closes sent then Closed item else Full item

-- whether a ring may have this capacity
abbrev pub is_capacity : ℕ → Bool
is_capacity capacity = nat_le 1 capacity && nat_le capacity 65536
