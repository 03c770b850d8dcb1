-- The microseconds of a record (RFC 6396, section 3).
use Rattle.std.specs.Prelude.{ℕ, ◌==◌, ◌&&◌, nat_le, nat_lt, if◌then◌else◌, length, Option, None, Some}
use Rattle.byteorder.specs.Endian.{big_number}
use Rattle.rs_mrt.specs.Entry.{microseconds_len, type_bgp4mp_et}
use Rattle.rs_mrt.specs.Record.{MrtRecord}

-- how many microseconds a second has
abbrev pub a_second : ℕ
a_second = 1000000

-- The Microsecond Timestamp: the number in the first four octets of the body of a record of Type BGP4MP_ET. Our
-- choice: a number that is not less than a second counts as no microseconds.
abbrev pub microseconds_in : MrtRecord → Option ℕ
microseconds_in r =
    if (r.kind == type_bgp4mp_et) && nat_le microseconds_len (length r.body)
    && nat_lt (big_number microseconds_len r.body) a_second
    then Some (big_number microseconds_len r.body) else None
