-- The writers that an outlet has given away, by the names of their dumps. Nothing here is from a standard: all of it
-- is our choice.
use Rattle.std.specs.Prelude.{◌≡◌, ℕ, ⊤, List, ◌∷◌, Option, None, Some}
use Rattle.std.specs.List.{Contains}
use Rattle.std.specs.Prelude.{IsPermutation}

-- The names of the dumps whose writers an outlet has given away, if it lists them. Each name stands once for each of
-- its writers.
abbrev pub Names : Type 0
Names = Option (List (List ℕ))

-- the same writers are given away, in any order
abbrev pub AreSameNames : Names → Names → Type 0
AreSameNames None None = ⊤
AreSameNames None (Some later) = ⊥
AreSameNames (Some names) None = ⊥
AreSameNames (Some names) (Some later) = IsPermutation names later

-- a writer for this name is given away
abbrev pub IsOut : Names → List ℕ → Type 0
IsOut None name = ⊤
IsOut (Some names) name = Contains names name

-- one more writer is given away, for this name
abbrev pub GoesOut : Names → Names → List ℕ → Type 0
GoesOut None None name = ⊤
GoesOut None (Some later) name = ⊥
GoesOut (Some names) None name = ⊥
GoesOut (Some names) (Some later) name = later ≡ name ∷ names

-- if the call gave a writer, one more is given away, for this name; if it gave none, nothing changed
abbrev pub GoesOutAhead : {W : Type 0} → Option W → Names → Names → List ℕ → Type 0
GoesOutAhead None names later name = later ≡ names
GoesOutAhead (Some out) names later name = GoesOut names later name

-- a writer for this name was given back, and all others are still given away
abbrev pub ComesBack : Names → Names → List ℕ → Type 0
ComesBack None None name = ⊤
ComesBack None (Some later) name = ⊥
ComesBack (Some names) None name = ⊥
ComesBack (Some names) (Some later) name = IsPermutation names (name ∷ later)

-- if the outlet lists names, the writer's label is the name for which it was given
abbrev pub TellsName : Names → Option (List ℕ) → List ℕ → Type 0
TellsName None label name = ⊤
TellsName (Some names) label name = label ≡ Some name

-- a writer for the name in the label is given away
abbrev pub IsLabelOut : Names → Option (List ℕ) → Type 0
IsLabelOut names label = (name : List ℕ) × TellsName names label name × IsOut names name

-- the writer for the name in the label was given back
abbrev pub LabelComesBack : Names → Names → Option (List ℕ) → Type 0
LabelComesBack names later label = (name : List ℕ) → TellsName names label name → ComesBack names later name
