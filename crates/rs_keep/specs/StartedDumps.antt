-- The writers that an outlet has given away while dumps are kept. Nothing here is from a standard: all of it is our
-- choice.
use Rattle.std.specs.Prelude.{◌≡◌, ℕ, ⊤, List, ◌++◌, Option, None, Some, drop, length, map, take}
use Rattle.std.specs.Option.{option_map}
use Rattle.rs_dump.specs.declared.side_by_side.Writing.{Writing}
use Rattle.rs_outlet.specs.Started.{Names, AreSameNames}
use Rattle.rs_keep.specs.declared.dumps.DumpFile.{DumpFile}
use Rattle.rs_keep.specs.Written.{file_name}

-- the names of so many files, starting with the file of this client
abbrev pub names_from : List DumpFile → ℕ → ℕ → List (List ℕ)
names_from files client count = take count (drop client (map file_name files))

-- the outlet has given away the same writers as before, and one more for each of these names
abbrev pub AreOutToo : Names → Names → List (List ℕ) → Type 0
AreOutToo before now more = AreSameNames (option_map (λ names. more ++ names) before) now

module _ {W : Type 0} (label : W → Option (List ℕ)) where
  -- if the outlet lists names, the label of each of these dumps' writers is the name for which it was given
  abbrev pub TellNames : Names → List (Writing W) → List (List ℕ) → Type 0
  TellNames None some names = ⊤
  TellNames (Some told) some names = map (λ writing. label writing.out) some ≡ map (λ name. Some name) names

  -- the outlet has given away the writers of these dumps, for these names, and the same others as before
  pub record AreOut (before now : Names) (some : List (Writing W)) (names : List (List ℕ)) : Type 0 where
    pub too : AreOutToo before now names
    pub told : TellNames before some names

  -- the outlet has given away the writers of dumps for the files of clients one after another, starting with this
  -- client
  abbrev pub AreOutFrom : List DumpFile → ℕ → Names → Names → List (Writing W) → Type 0
  AreOutFrom files client before now some = AreOut before now some (names_from files client (length some))

  -- the outlet has given away the writers of these dumps
  abbrev pub AreAllOut : Names → List (Writing W) → Type 0
  AreAllOut now some = (before : Names) × (names : List (List ℕ)) × AreOut before now some names

  -- the writers of these dumps were given back
  abbrev pub AreAllBack : Names → Names → List (Writing W) → Type 0
  AreAllBack now later some =
      (before : Names) (names : List (List ℕ)) → AreOut before now some names → AreSameNames before later
