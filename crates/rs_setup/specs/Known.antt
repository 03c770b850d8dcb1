-- Lists that were read, each with the path of its file.
use Rattle.std.specs.Prelude.{◌≡◌, ℕ, List, string_bytes}
use Rattle.std.specs.List.{All, Contains}
use Rattle.rs_setup.specs.Lists.{FileSays, Holding, SaysNumbers, SaysPatterns}
use Rattle.rs_setup.specs.declared.lists.Known.{Known}
use Rattle.rs_setup.specs.declared.lists.KnownLists.{KnownLists}

-- each list is what the file at its path says
abbrev pub AreKnown : {S : Type 0} → (List ℕ → S → Type 0) → List (Known S) → Type 0
AreKnown Says known = All (λ one. Says (string_bytes one.path) one.list.value) known

-- the same of both kinds of lists
abbrev pub AreAllKnown : Holding → KnownLists → Type 0
AreAllKnown Holds known =
    AreKnown (FileSays Holds SaysPatterns) known.prefix_lists.items
    × AreKnown (FileSays Holds SaysNumbers) known.as_lists.items

-- a list is known under a path
abbrev pub IsAmong : {S : Type 0} → List (Known S) → List ℕ → S → Type 0
IsAmong known path list = (one : Known _) × Contains known one × (string_bytes one.path ≡ path) × (one.list.value ≡ list)
