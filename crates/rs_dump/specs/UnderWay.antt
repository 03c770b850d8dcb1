-- A dump that is being written: a part was written, and the octets that wait in the buffer follow (our choice).
use Rattle.std.specs.Prelude.{◌≡◌, ℕ, List, ◌++◌, Option}
use Rattle.std.specs.Io.KnownBytes.{Appends}

-- the octets that the writer has taken since, and then the waiting ones, are this whole
pub record IsUnderWay (old now : Option (List ℕ)) (waiting whole : List ℕ) : Type 0 where
  pub sent : List ℕ
  pub taken : Appends old now sent
  pub follows : sent ++ waiting ≡ whole
