-- Attributes at their places in a message, as values (RFC 4271, section 4.3).
use Rattle.std.specs.Prelude.{ℕ, List}
use Rattle.std.specs.Borrow.{Bor}
use Rattle.rs_types.specs.declared.item.Item.{Item as ItemThere}
use Rattle.rs_types.specs.Gathered.{passed_on_of}
use Rattle.rs_types.specs.PathAttributes.{PassedOn}
use Rattle.rs_types.specs.Section.{Item}

abbrev pub item_of : ItemThere → Item
item_of item = record { flags = item.flags.octet; kind = item.kind; value = item.value.now }

-- an attribute and the octets behind it
abbrev pub split_of : ItemThere × Bor (List ℕ) → Item × List ℕ
split_of split = (item_of split.0, split.1.now)

-- an attribute that is passed on, as callers see it
abbrev pub passed_of : ItemThere → PassedOn
passed_of item = passed_on_of (item_of item)
