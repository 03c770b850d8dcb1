-- What a reader may still give, and when a call on it has failed. Nothing here is from a standard: all of it is our
-- choice.
use Rattle.std.specs.Prelude.{◌≡◌, ℕ, zero, suc, List, [], ◌∷◌, ◌++◌, take, Option, None, Some, Result, Ok, Err, refl}
use Rattle.rs_mrt.specs.declared.stream.Failed.{Failed}

-- the end of the octets of a reader: the file ends, or a read fails
pub data ReadEnd : Type 0 where
  FileEnds : ReadEnd
  ReadFails : ReadEnd

-- How many calls failed in a call to read: one if it answers an error.
abbrev pub failed_reads : Result ℕ Failed → ℕ
failed_reads (Err failed) = 1
failed_reads (Ok n) = 0

-- What a call to `read` shows of the octets that the reader may give. `old` is what the reader could give before the
-- call, and `new` is what it can give after the call. `piece` is the caller's buffer after the call.
-- - An error: the reader could fail at once.
-- - No octet for a buffer that isn't empty: the reader could end at once, as a file does.
-- - No octet for an empty buffer: whatever the reader can give now, it could give before.
-- - Some octets: these octets, and then whatever the reader can give now, it could give before.
abbrev pub ReadGives : (List ℕ → ReadEnd → Type 0) → (List ℕ → ReadEnd → Type 0) → Result ℕ Failed → List ℕ → Type 0
ReadGives old new (Err failed) piece = old [] ReadFails
ReadGives old new (Ok zero) (octet ∷ octets) = old [] FileEnds
ReadGives old new (Ok zero) [] = (later : List ℕ) (end : ReadEnd) → new later end → old later end
ReadGives old new (Ok (suc n)) piece =
    (later : List ℕ) (end : ReadEnd) → new later end → old (take (suc n) piece ++ later) end

-- There are octets and an end that the reader may give.
abbrev pub SomethingIsGiven : (List ℕ → ReadEnd → Type 0) → Type 0
SomethingIsGiven gives = (octets : List ℕ) × (end : ReadEnd) × gives octets end

-- ---- a reader of the standard library as a reader of this crate

-- What may come from a reader of the standard library. If the library says which octets are left, these come, or a
-- beginning of them and then a failed read. If the library says nothing, as for a file, anything may come.
abbrev pub MayBeLeft : Option (List ℕ) → List ℕ → ReadEnd → Type 0
MayBeLeft None octets end = Unit {0}
MayBeLeft (Some left) octets FileEnds = octets ≡ left
MayBeLeft (Some left) octets ReadFails = (n : ℕ) × (octets ≡ take n left)

-- there is always something that may come
pub may_be_left : (left : Option (List ℕ)) → SomethingIsGiven (MayBeLeft left)
may_be_left None = ([], FileEnds, tt)
may_be_left (Some left) = (left, FileEnds, refl)
