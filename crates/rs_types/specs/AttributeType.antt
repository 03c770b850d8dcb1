-- The types of path attributes, one row for each (RFC 4271, sections 4.3, 5 and 6.3; RFC 1997; RFC 4760; RFC 6793;
-- RFC 7606).
use Rattle.std.specs.Prelude.{ℕ, ◌%◌, Bool, true, false, not, ◌&&◌, ◌==◌, if◌then◌else◌}
use Rattle.std.specs.Prelude.{bit_and}
use Rattle.rs_types.specs.declared.attribute_type.AttributeType.{AttributeType}
use Rattle.rs_types.specs.declared.attribute_type.AttributeType.TheVariants.{Origin, AsPath, NextHop, MultiExitDisc}
use Rattle.rs_types.specs.declared.attribute_type.AttributeType.TheVariants.{LocalPref, AtomicAggregate, Aggregator}
use Rattle.rs_types.specs.declared.attribute_type.AttributeType.TheVariants.{Communities, MpReachNlri, MpUnreachNlri}
use Rattle.rs_types.specs.declared.attribute_type.AttributeType.TheVariants.{As4Path, As4Aggregator, Unrecognized}
use Rattle.rs_types.specs.declared.attribute_type.Lengths.{Lengths}
use Rattle.rs_types.specs.declared.attribute_type.Lengths.TheVariants.{Exactly, Fours, AnyLength}
use Rattle.rs_types.specs.declared.attribute_type.Row.{Row}
use Rattle.rs_types.specs.declared.attribute_type.ValueTest.{ValueTest}
use Rattle.rs_types.specs.declared.attribute_type.ValueTest.TheVariants.{OriginCode, Segments, HostAddress, AnyValue}
use Rattle.rs_types.specs.declared.attribute_type.WantedFlags.{WantedFlags}
use Rattle.rs_types.specs.declared.attribute_type.WantedFlags.TheVariants.{WellKnown, OptionalNonTransitive}
use Rattle.rs_types.specs.declared.attribute_type.WantedFlags.TheVariants.{OptionalTransitive, Optional, Any}
use Rattle.rs_types.specs.declared.fault.UpdateFault.TheVariants.{MalformedAttributeList}
use Rattle.rs_types.specs.declared.handling.Handling.{Handling}
use Rattle.rs_types.specs.declared.handling.Handling.TheVariants.{AttributeDiscard, TreatAsWithdraw, SessionReset}

-- the attribute type that has a type code
abbrev pub type_of : ℕ → AttributeType
type_of number =
    if number == 1 then Origin
    else if number == 2 then AsPath
    else if number == 3 then NextHop
    else if number == 4 then MultiExitDisc
    else if number == 5 then LocalPref
    else if number == 6 then AtomicAggregate
    else if number == 7 then Aggregator
    else if number == 8 then Communities
    else if number == 14 then MpReachNlri
    else if number == 15 then MpUnreachNlri
    else if number == 17 then As4Path
    else if number == 18 then As4Aggregator
    else Unrecognized

-- A row says what the flags must be, how many octets a value has, and what a value must be. It also says what RFC
-- 7606 does for a wrong length (section 7), and for an attribute whose type stood earlier (section 3, g). The latter
-- counts even if the earlier attribute was discarded.
abbrev pub row : WantedFlags → Lengths → ValueTest → Handling → Handling → Row
row flags lengths value at_length again =
    record { flags = flags; lengths = lengths; value = value; at_length = at_length; again = again }

abbrev RESET : Handling
RESET = SessionReset MalformedAttributeList

-- the row of each type
abbrev pub row_of : AttributeType → Row
row_of Origin = row WellKnown (Exactly 1) OriginCode TreatAsWithdraw AttributeDiscard
row_of AsPath = row WellKnown AnyLength Segments TreatAsWithdraw AttributeDiscard
row_of NextHop = row WellKnown (Exactly 4) HostAddress TreatAsWithdraw AttributeDiscard
row_of MultiExitDisc = row OptionalNonTransitive (Exactly 4) AnyValue TreatAsWithdraw AttributeDiscard
row_of LocalPref = row Any AnyLength AnyValue TreatAsWithdraw AttributeDiscard
row_of AtomicAggregate = row WellKnown (Exactly 0) AnyValue AttributeDiscard AttributeDiscard
row_of Aggregator = row OptionalTransitive (Exactly 8) AnyValue AttributeDiscard AttributeDiscard
row_of Communities = row OptionalTransitive Fours AnyValue TreatAsWithdraw AttributeDiscard
row_of MpReachNlri = row Any AnyLength AnyValue TreatAsWithdraw RESET
row_of MpUnreachNlri = row Any AnyLength AnyValue TreatAsWithdraw RESET
row_of As4Path = row Any AnyLength AnyValue TreatAsWithdraw AttributeDiscard
row_of As4Aggregator = row Any AnyLength AnyValue TreatAsWithdraw AttributeDiscard
row_of Unrecognized = row Optional AnyLength AnyValue TreatAsWithdraw AttributeDiscard

abbrev pub flags_of : AttributeType → WantedFlags
flags_of kind = (row_of kind).flags

-- whether no row names the type
abbrev pub is_unrecognized : AttributeType → Bool
is_unrecognized Unrecognized = true
is_unrecognized kind = false

-- the four flags; the low four bits are ignored on receipt (section 4.3)
abbrev pub is_optional : ℕ → Bool
is_optional flags = not (bit_and flags 0x80 == 0)

abbrev pub is_transitive : ℕ → Bool
is_transitive flags = not (bit_and flags 0x40 == 0)

abbrev pub is_partial : ℕ → Bool
is_partial flags = not (bit_and flags 0x20 == 0)

abbrev pub is_extended : ℕ → Bool
is_extended flags = not (bit_and flags 0x10 == 0)

-- whether the Optional and the Transitive bit are as they must be; the Partial bit is not looked at
abbrev pub suits : WantedFlags → ℕ → Bool
suits WellKnown flags = not (is_optional flags) && is_transitive flags
suits OptionalNonTransitive flags = is_optional flags && not (is_transitive flags)
suits OptionalTransitive flags = is_optional flags && is_transitive flags
suits Optional flags = is_optional flags
suits Any flags = true

-- how many octets a value may have; a value of numbers of four octets each has at least one number
abbrev pub admits : Lengths → ℕ → Bool
admits (Exactly wanted) count = count == wanted
admits Fours count = not (count == 0) && (count % 4 == 0)
admits AnyLength count = true
