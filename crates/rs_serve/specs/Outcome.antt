-- How a run ended, once all its threads were joined.
use Rattle.std.specs.Prelude.{◌≡◌, ◌<◌, ℕ, Bool, true, false, List, All, Result, Ok, Err, Option}
use Rattle.std.specs.Prelude.{Some, None, slice_get}
use Rattle.rs_serve.specs.declared.fault.FloorRefused.{FloorRefused}
use Rattle.rs_serve.specs.declared.fault.FloorRefused.TheVariants.{Memory, Unsettled, Capacity, Read, Shards}

-- the first place in a list that has this value; each place before it has the other value
pub record IsLeastPlace (value other : Bool) (values : List Bool) (place : ℕ) : Type 0 where
  pub has : slice_get values place ≡ Some value
  pub least : (before : ℕ) → before < place → slice_get values before ≡ Some other

-- the least place of a list that has the value; None if all places have the other value
abbrev pub IsFirst : Bool → Bool → List Bool → Option ℕ → Type 0
IsFirst value other values (Some place) = IsLeastPlace value other values place
IsFirst value other values None = All (λ v. v ≡ other) values

-- The verdict on a run: first of all that memory was refused, then that a read failed, then that a peer is
-- unsettled.
abbrev pub IsVerdict : Bool → List Bool → List Bool → Result (Unit {0}) FloorRefused → Type 0
IsVerdict memory failed settled (Err Memory) = memory ≡ true
IsVerdict memory failed settled (Err (Read peer)) = (memory ≡ false) × IsLeastPlace true false failed peer
IsVerdict memory failed settled (Err (Unsettled peer)) =
    (memory ≡ false) × All (λ v. v ≡ false) failed × IsLeastPlace false true settled peer
IsVerdict memory failed settled (Err Capacity) = ⊥
IsVerdict memory failed settled (Err Shards) = ⊥
IsVerdict memory failed settled (Ok done) = (memory ≡ false) × All (λ v. v ≡ false) failed × All (λ v. v ≡ true) settled
