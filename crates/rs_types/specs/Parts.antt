-- Parts that stand one after another in a field: prefixes, path attributes, segments of an AS_PATH (RFC 4271,
-- section 4.3).
use Rattle.std.specs.Prelude.{◌≡◌, ℕ, zero, suc, ◌<◌, List, [], ◌∷◌, ◌++◌, Option, Some, None, length, slice_index}

-- each number is an octet
abbrev pub AreOctets : List ℕ → Type 0
AreOctets octets = (i : ℕ) → slice_index octets i < 256

-- the octets are the spellings of these parts, one after another, and then the rest
abbrev pub IsSpelledBy : {A : Type 0} → (List ℕ → A → Type 0) → List ℕ → List A → List ℕ → Type 0
IsSpelledBy Spells octets [] rest = octets ≡ rest
IsSpelledBy Spells octets (part ∷ later) rest =
    (front : List ℕ) × (behind : List ℕ) × (octets ≡ front ++ behind) × Spells front part
    × IsSpelledBy Spells behind later rest

-- the octets do not begin with a part
abbrev pub IsNoPart : {A : Type 0} → (List ℕ → A → Type 0) → List ℕ → Type 0
IsNoPart {A} Spells octets = (front behind : List ℕ) (part : A) → octets ≡ front ++ behind → Spells front part → ⊥

-- the octets are these parts and then a rest, and the rest does not begin with a further part
abbrev pub IsWholeFront : {A : Type 0} → (List ℕ → A → Type 0) → List ℕ → List A → List ℕ → Type 0
IsWholeFront Spells octets parts rest = IsSpelledBy Spells octets parts rest × IsNoPart Spells rest

-- The parts that octets spell, and the rest, computed. The reader takes one part from the octets and gives the
-- octets behind it. The number is the most parts that are read; a field has no more parts than octets.
unfoldable pub parts_within : {A : Type 0} → (List ℕ → Option (A × List ℕ)) → ℕ → List ℕ → List A × List ℕ
parts_within read zero octets = ([], octets)
parts_within read (suc fuel) octets =
    elim (read octets) [
      | None ↦ ([], octets)
      | Some part ↦ let later = parts_within read fuel part.1 in (part.0 ∷ later.0, later.1)
    ]

-- all parts that octets spell one after another, and the rest, computed
abbrev pub parts_of : {A : Type 0} → (List ℕ → Option (A × List ℕ)) → List ℕ → List A × List ℕ
parts_of read octets = parts_within read (length octets) octets
