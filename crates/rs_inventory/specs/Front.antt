-- A reader whose first octets were taken, and which gives these again. Nothing here is from a standard: all of it is
-- our choice.
use Rattle.std.specs.Prelude.{◌≡◌, ◌<◌, ℕ, suc, ◌-◌, if◌then◌else◌, ◌||◌, nat_le, Bool, true, false, List, [], ◌++◌}
use Rattle.std.specs.Prelude.{length, refl}
use Rattle.rs_mrt.specs.Reader.{ReadEnd, FileEnds, ReadFails, SomethingIsGiven}

-- octets that were taken from a reader, and whether the reader has no more
pub record Taken : Type 0 where
  pub octets : List ℕ
  pub ended : Bool

-- the octets that were taken and not given again yet, whether the reader has no more, and the reader
pub record Rewound (R : Type 0) : Type 0 where
  pub held : List ℕ
  pub ended : Bool
  pub inner : R

-- the octets that may come from a reader that perhaps has no more
abbrev pub GivesUnlessEnded : {R : Type 0} → (R → List ℕ → ReadEnd → Type 0) → Bool → R → List ℕ → ReadEnd → Type 0
GivesUnlessEnded gives true inner octets end = (octets ≡ []) × (end ≡ FileEnds)
GivesUnlessEnded gives false inner octets end = gives inner octets end

-- the octets that were taken may come, and then what the reader may give
pub record RewoundGives {R : Type 0} (gives : R → List ℕ → ReadEnd → Type 0) (whole : Rewound R) (octets : List ℕ)
    (end : ReadEnd) : Type 0 where
  pub later : List ℕ
  pub splits : octets ≡ whole.held ++ later
  pub given : GivesUnlessEnded gives whole.ended whole.inner later end

unless_ended : {R : Type 0} (gives : R → List ℕ → ReadEnd → Type 0) (ended : Bool) (inner : R)
    → SomethingIsGiven (gives inner) → SomethingIsGiven (GivesUnlessEnded gives ended inner)
unless_ended gives true inner some = ([], FileEnds, (refl, refl))
unless_ended gives false inner some = some

-- there is always something that may come
pub rewound_may_come : {R : Type 0} (gives : R → List ℕ → ReadEnd → Type 0)
    → ((inner : R) → SomethingIsGiven (gives inner))
    → (whole : Rewound R) → SomethingIsGiven (RewoundGives gives whole)
rewound_may_come gives some whole =
    let inner = unless_ended gives whole.ended whole.inner (some whole.inner) in
    (whole.held ++ inner.0, inner.1, record { later = inner.0; splits = refl; given = inner.2 })

-- no taken octet was given again yet
abbrev pub rewound : {R : Type 0} → Taken → R → Rewound R
rewound front inner = record { held = front.octets; ended = front.ended; inner = inner }

-- how many octets show whether a file is compressed
abbrev pub front_len : ℕ
front_len = 6

-- how many octets there is room for
abbrev pub room_len : ℕ
room_len = 12

-- so many octets were taken, or the reader has no more
abbrev pub is_done : Taken → Bool
is_done front = front.ended || nat_le front_len (length front.octets)

-- how many more octets are wanted at most; one is added so that the end of the reader is found
abbrev pub octets_wanted : Taken → ℕ
octets_wanted front = if front.ended then 0 else suc (front_len - length front.octets)

-- Whatever may come of the taken octets and then of the reader, might have come of the reader before. If the reader
-- has no more, the octets that were taken may be all.
abbrev pub IsFrontOf : {R : Type 0} → (R → List ℕ → ReadEnd → Type 0) → R → R → Taken → Type 0
IsFrontOf gives old new front =
    (octets : List ℕ) → (end : ReadEnd) → RewoundGives gives (rewound front new) octets end → gives old octets end

-- octets may be given, fewer than show whether a file is compressed, and after them a read fails
abbrev pub ReadMayFail : {R : Type 0} → (R → List ℕ → ReadEnd → Type 0) → R → Type 0
ReadMayFail gives reader = (octets : List ℕ) × gives reader octets ReadFails × (length octets < front_len)

-- one call took more octets
abbrev pub TakesMore : {R : Type 0} → (R → List ℕ → ReadEnd → Type 0) → (R → ℕ) → Taken → R → Taken → R → Type 0
TakesMore gives failures front old more new =
    ((octets : List ℕ) → (end : ReadEnd) → RewoundGives gives (rewound more new) octets end
    → RewoundGives gives (rewound front old) octets end)
    × (failures new ≡ failures old)
