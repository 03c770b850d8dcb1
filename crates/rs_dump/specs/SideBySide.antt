-- Several dumps that are written at the same time. Nothing here is from a standard: all of it is our choice.
use Rattle.std.specs.Prelude.{◌≡◌, ℕ, ◌+◌, ◌<◌, List, Option, IsFalse, IsTrue}
use Rattle.std.specs.Io.KnownBytes.{Appends}
use Rattle.rs_mrt.specs.Stream.{AppendsBeginning}
use Rattle.rs_dump.specs.UnderWay.{IsUnderWay}
use Rattle.rs_dump.specs.declared.side_by_side.Writing.{Writing}

-- a dump can be continued, unless a write of it failed
abbrev pub CanGo : {W : Type 0} → (W → ℕ) → Writing W → Type 0
CanGo failures writing = IsFalse writing.failed → failures writing.out < 18446744073709551615

-- no write of the dump failed, and the dump can be continued
abbrev pub CanBegin : {W : Type 0} → (W → ℕ) → Writing W → Type 0
CanBegin failures writing = IsFalse writing.failed × (failures writing.out < 18446744073709551615)

module _ {W : Type 0} (taken : W → Option (List ℕ)) (failures : W → ℕ)
    (label : W → Option (List ℕ)) where
  -- a write of the dump failed, and a beginning of the dump was written
  pub record IsLost (old new : Writing W) : Type 0 where
    pub beginning : AppendsBeginning (taken old.out) (taken new.out) old.dump.octets
    pub failure : failures new.out ≡ failures old.out + 1

  -- some rows of a dump were written, unless a write of it failed
  pub record GoesOn (old new : Writing W) : Type 0 where
    pub sent : IsFalse new.failed → IsUnderWay (taken old.out) (taken new.out) new.dump.octets old.dump.octets
    pub no_failure : IsFalse new.failed → failures new.out ≡ failures old.out
    pub rows : IsFalse new.failed → new.dump.spelled + new.dump.rows ≡ old.dump.spelled + old.dump.rows
    pub lost : IsTrue new.failed → IsLost old new
    pub label_stays : label new.out ≡ label old.out

  -- the whole dump was written, unless a write of it failed
  pub record IsWritten (old new : Writing W) : Type 0 where
    pub sent : IsFalse new.failed → Appends (taken old.out) (taken new.out) old.dump.octets
    pub no_failure : IsFalse new.failed → failures new.out ≡ failures old.out
    pub rows : IsFalse new.failed → new.dump.spelled ≡ old.dump.spelled + old.dump.rows
    pub lost : IsTrue new.failed → IsLost old new
    pub label_stays : label new.out ≡ label old.out

  -- some rows of a dump were written, unless a write of it failed; if a write had failed before, nothing was done
  pub record Goes (old new : Writing W) : Type 0 where
    pub on : IsFalse old.failed → GoesOn old new
    pub not_on : IsTrue old.failed → new ≡ old

  pub record IsWrittenFrom (old new : Writing W) : Type 0 where
    pub on : IsFalse old.failed → IsWritten old new
    pub not_on : IsTrue old.failed → new ≡ old
