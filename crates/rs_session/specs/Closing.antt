-- Where a session closed.
use Rattle.std.specs.Prelude.{Bool, false, ◌==◌, ◌||◌}
use Rattle.rs_mrt.specs.Fault.{number_of}
use Rattle.rs_mrt.specs.declared.fault.MrtFault.TheVariants.{HeaderCutShort, BodyCutShort}
use Rattle.rs_change.specs.declared.word.Reason.{Reason}
use Rattle.rs_change.specs.declared.word.Reason.TheVariants.{EndOfFile, Bgp, Mrt, Memory, Read}

-- The reason is a record that the end of its file cuts short, in its header or in its body (RFC 6396, section 2). Then
-- there is no whole record.
abbrev pub is_cut_short : Reason → Bool
is_cut_short (Mrt number) = (number == number_of HeaderCutShort) || (number == number_of BodyCutShort)
is_cut_short EndOfFile = false
is_cut_short (Bgp code subcode) = false
is_cut_short Memory = false
is_cut_short Read = false
