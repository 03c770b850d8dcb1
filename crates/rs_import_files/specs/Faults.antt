-- When a file is refused for what it says.
use Rattle.std.specs.Prelude.{◌≡◌, Bool, true, false}
use Rattle.rs_import_files.specs.declared.fault.ListFault.{ListFault}
use Rattle.rs_import_files.specs.declared.fault.ListFault.TheVariants.{Line, Row, Whole, TooMany, Memory}
use Rattle.rs_import_files.specs.Texts.{StandsForNone}

-- a fault is of the file; the others are of the room that a run has
abbrev pub is_of_file : ListFault → Bool
is_of_file (Line line reason) = true
is_of_file (Row row reason) = true
is_of_file (Whole reason) = true
is_of_file TooMany = false
is_of_file Memory = false

-- what is refused by a fault of the file stands for nothing
abbrev pub Refuses : {V A : Type 0} → (V → A → Type 0) → V → ListFault → Type 0
Refuses StandsFor value fault = is_of_file fault ≡ true → StandsForNone StandsFor value
