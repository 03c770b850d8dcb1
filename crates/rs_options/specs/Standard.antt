-- The standards by which faults in messages are handled, by their names on a command line (our choice).
use Rattle.std.specs.Prelude.{ℕ, List, codes}
use Rattle.rs_update.specs.declared.errors.Errors.{Errors}
use Rattle.rs_update.specs.declared.errors.Errors.TheVariants.{Rfc4271, Rfc7606}

-- the name of a standard on the command line
abbrev pub standard_name : Errors → List ℕ
standard_name Rfc4271 = codes "rfc4271"
standard_name Rfc7606 = codes "rfc7606"
