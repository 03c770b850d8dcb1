-- The numbers of the faults of recorded octets (our choice).
use Rattle.std.specs.Prelude.{ℕ}
use Rattle.rs_mrt.specs.declared.fault.MrtFault.{MrtFault}
use Rattle.rs_mrt.specs.declared.fault.MrtFault.TheVariants.{HeaderCutShort, BodyCutShort, FieldsCutShort}
use Rattle.rs_mrt.specs.declared.fault.MrtFault.TheVariants.{MicrosecondsCutShort}

-- the order in which they are declared: in a header, in a body, in the fields of a body, in the microseconds before
-- the fields
abbrev pub number_of : MrtFault → ℕ
number_of HeaderCutShort = 1
number_of BodyCutShort = 2
number_of FieldsCutShort = 3
number_of MicrosecondsCutShort = 4
