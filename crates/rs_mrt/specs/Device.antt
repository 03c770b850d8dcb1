-- A reader or a writer of the standard library as one of this crate (our choice).
use Rattle.std.specs.Prelude.{ℕ}

-- the library's reader or writer, and how many calls have failed
pub record Device (W : Type 0) : Type 0 where
  pub inner : W
  pub failures : ℕ
