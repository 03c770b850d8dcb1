-- Comparisons of two candidates by several steps of the decision process at once (RFC 4271, sections 9.1.1
-- and 9.1.2.2).
use Rattle.std.specs.Prelude.{◌≡◌, ◌<◌, ◌⊎◌}
use Rattle.rs_choice.specs.declared.candidate.Standing.{Standing}
use Rattle.rs_types.specs.Spelling.{origin_code}

-- the first relation is true, or both are equal by it and the second relation is true
abbrev pub FirstOrSecond : {M : Type 0} → (M → M → Type 0) → (M → M → Type 0) → (M → M → Type 0) → M → M → Type 0
FirstOrSecond First Equal Second one other = First one other ⊎ (Equal one other × Second one other)

abbrev pub IsPreferred : Standing → Standing → Type 0
IsPreferred one other = other.preference < one.preference

abbrev pub IsAsPreferred : Standing → Standing → Type 0
IsAsPreferred one other = one.preference ≡ other.preference

abbrev pub IsShorter : Standing → Standing → Type 0
IsShorter one other = one.path_length < other.path_length

-- one is before the other by preference, then by path length
abbrev pub IsPreferredOrShorter : Standing → Standing → Type 0
IsPreferredOrShorter = FirstOrSecond IsPreferred IsAsPreferred IsShorter

abbrev pub IsAsLong : Standing → Standing → Type 0
IsAsLong one other = (one.preference ≡ other.preference) × (one.path_length ≡ other.path_length)

abbrev pub HasLowerOrigin : Standing → Standing → Type 0
HasLowerOrigin one other = origin_code one.origin < origin_code other.origin

-- one is before the other by preference, path length and origin
abbrev pub IsAhead : Standing → Standing → Type 0
IsAhead = FirstOrSecond IsPreferredOrShorter IsAsLong HasLowerOrigin

-- both are equal in preference, path length and origin
abbrev pub IsLevel : Standing → Standing → Type 0
IsLevel one other =
    (one.preference ≡ other.preference) × (one.path_length ≡ other.path_length)
    × (origin_code one.origin ≡ origin_code other.origin)

abbrev pub HasLowerMed : Standing → Standing → Type 0
HasLowerMed one other = (one.neighbour ≡ other.neighbour) × (one.med < other.med)

-- One is before the other by the first four steps. Candidates that are equal in the first three steps are compared
-- by MED, within one neighbour AS.
abbrev pub IsAheadByMed : Standing → Standing → Type 0
IsAheadByMed = FirstOrSecond IsAhead IsLevel HasLowerMed

abbrev pub HasLowerId : Standing → Standing → Type 0
HasLowerId one other = one.id < other.id

abbrev pub HasSameId : Standing → Standing → Type 0
HasSameId one other = one.id ≡ other.id

abbrev pub HasLowerAddress : Standing → Standing → Type 0
HasLowerAddress one other = one.address < other.address

-- one is before the other by identifier, then by address
abbrev pub Precedes : Standing → Standing → Type 0
Precedes = FirstOrSecond HasLowerId HasSameId HasLowerAddress

abbrev pub HasSameMed : Standing → Standing → Type 0
HasSameMed one other = (one.neighbour ≡ other.neighbour) × (one.med ≡ other.med)

-- one is before the other by MED, identifier and address, within one neighbour AS
abbrev pub OutdoesByMed : Standing → Standing → Type 0
OutdoesByMed = FirstOrSecond HasLowerMed HasSameMed Precedes

-- One is before the other by all six steps. Of different neighbour ASes, only the first three steps count.
abbrev pub Outdoes : Standing → Standing → Type 0
Outdoes = FirstOrSecond IsAhead IsLevel OutdoesByMed
