-- A change in a list by its fields.
use Rattle.std.specs.Prelude.{◌≡◌, ◌≤◌, ℕ, Option, Some, None}
use Rattle.rs_types.specs.PathAttributes.{PathAttributes}
use Rattle.rs_types.specs.Prefix.{network_of}
use Rattle.rs_table.specs.declared.logged.LoggedChange.TheInside.{Inside}
use Rattle.rs_table.specs.declared.logged.Packed.{Packed}
use Rattle.rs_table.specs.declared.logged.Packed.TheVariants.{Announced, Withdrawn}
use Rattle.rs_table.specs.Logged.{Logged}

-- an entry by its fields, in the order in which they are packed
abbrev pub logged_by : ℕ → ℕ → ℕ → ℕ → ℕ → Option PathAttributes → Logged
logged_by len peer address time losses attributes = record {
  prefix = record { address = address; len = len };
  time = time;
  losses = losses;
  peer = peer;
  attributes = attributes;
}

abbrev pub unpacked : Packed → Logged
unpacked (Announced len peer address time losses attributes) = logged_by len peer address time losses (Some attributes.value)
unpacked (Withdrawn len peer address time losses) = logged_by len peer address time losses None

abbrev pub logged_view : Inside → Logged
logged_view fields = unpacked fields.change

-- the bits of the address behind the length of the prefix are 0
pub record IsLogged (fields : Inside) : Type 0 where
  pub bound : (logged_view fields).prefix.len ≤ 32
  pub clear : network_of (logged_view fields).prefix.address (logged_view fields).prefix.len
      ≡ (logged_view fields).prefix
