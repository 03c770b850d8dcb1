-- The dumps that an outlet has kept. Nothing here is from a standard: all of it is our choice.
use Rattle.std.specs.Prelude.{◌≡◌, ℕ, ⊤, List, [], ◌∷◌, ◌++◌, Option, None, Some, string_bytes}
use Rattle.rs_outlet.specs.declared.memory_outlet.Kept.{Kept}

-- a dump that is kept: its name and its octets
pub record KeptDump : Type 0 where
  pub name : List ℕ
  pub octets : List ℕ

-- An outlet that lists its dumps has kept these dumps more. An outlet need not list them, as one that writes files
-- does not.
abbrev pub Grows : Option (List KeptDump) → Option (List KeptDump) → List KeptDump → Type 0
Grows None new dumps = ⊤
Grows (Some kept) None dumps = ⊥
Grows (Some kept) (Some later) dumps = later ≡ kept ++ dumps

-- if both the outlet lists its dumps and the writer says which octets it has taken, the outlet has kept one dump
-- more: this name with these octets
abbrev pub KeepsTaken : Option (List KeptDump) → Option (List KeptDump) → List ℕ → Option (List ℕ) → Type 0
KeepsTaken old new name None = ⊤
KeepsTaken old new name (Some octets) = Grows old new (record { name = name; octets = octets } ∷ [])

-- if the outlet lists its dumps, the writer says that it has taken nothing
abbrev pub TellsNothingTaken : Option (List KeptDump) → Option (List ℕ) → Type 0
TellsNothingTaken None taken = ⊤
TellsNothingTaken (Some kept) taken = taken ≡ Some []

-- an outlet over memory: the dumps that it has kept, the names of the writers that it has given away, and how many
-- failures it has counted
pub record InMemory : Type 0 where
  pub kept : List KeptDump
  pub started : List (List ℕ)
  pub failures : ℕ

-- a kept dump as a value
abbrev pub dump_of : Kept → KeptDump
dump_of dump = record { name = string_bytes dump.name; octets = dump.octets.items }
