-- The first fault that a list of tests finds (RFC 4271, section 6).
use Rattle.std.specs.Prelude.{Bool, List, [], ◌∷◌, Option, Some, None, if◌then◌else◌}

-- each test stands with the fault that it finds; the fault is that of the first test that succeeds
abbrev pub first_fault : {F : Type 0} → List (Bool × F) → Option F
first_fault [] = None
first_fault (test ∷ later) = if test.0 then Some test.1 else first_fault later

-- the earlier fault if there is one, or else the later one
abbrev pub or_else : {F : Type 0} → Option F → Option F → Option F
or_else None later = later
or_else (Some fault) later = Some fault
