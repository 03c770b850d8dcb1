-- A record that the end of its file cuts short, in its header or in its body (RFC 6396, section 2).
use Rattle.std.specs.Prelude.{ℕ, ◌-◌, nat_le, if◌then◌else◌, Bool, true, false, List, length, Option, Some, None}
use Rattle.std.specs.Prelude.{Result, Err}
use Rattle.byteorder.specs.Endian.{big_number}
use Rattle.rs_mrt.specs.declared.cut.Cut.{Cut}
use Rattle.rs_mrt.specs.declared.fault.MrtFault.TheVariants.{HeaderCutShort, BodyCutShort}
use Rattle.rs_mrt.specs.declared.fault.SourceFault.{SourceFault}
use Rattle.rs_mrt.specs.declared.fault.SourceFault.TheVariants.{Mrt}
use Rattle.rs_mrt.specs.RecordReading.{RecordReading}

-- the records ended in the header or in the body of one
abbrev pub ends_in_record : Option (Result Bool SourceFault) → Bool
ends_in_record (Some (Err (Mrt HeaderCutShort))) = true
ends_in_record (Some (Err (Mrt BodyCutShort))) = true
ends_in_record other = false

-- the Timestamp of a header that begins with these octets, if they are four or more
abbrev pub time_in : List ℕ → Option ℕ
time_in octets = if nat_le 4 (length octets) then Some (big_number 4 octets) else None

-- where a record is cut short: it begins behind so many octets, so many of its own came, and these are its first ones
abbrev pub cut_at : ℕ → ℕ → List ℕ → Cut
cut_at octet len front = record { octet = octet; len = len; time = time_in front }

-- The record that the end of the file cuts short, if there is one. The octets at hand are its first ones then.
abbrev pub cut_of : {R : Type 0} → RecordReading R → Option Cut
cut_of reading =
    if ends_in_record reading.stopped
    then Some (cut_at reading.place (reading.inflow.came - reading.place) reading.held)
    else None
