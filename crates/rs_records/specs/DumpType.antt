-- The Type of all records of a dump (RFC 6396, section 4).
use Rattle.std.specs.Prelude.{ℕ}

abbrev pub TABLE_DUMP_V2 : ℕ
TABLE_DUMP_V2 = 13
