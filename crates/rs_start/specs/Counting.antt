-- How entries of peers and records of a table are counted. The Types and Subtypes of records are those of RFC 6396,
-- sections 4.2 and 4.3, and of RFC 8050, section 4; all else is our choice.
use Rattle.std.specs.Prelude.{◌≡◌, ℕ, ◌+◌, ◌^◌, ◌<◌, ◌==◌, Bool, true, false, not, ◌&&◌, ◌||◌, nat_le, if◌then◌else◌}
use Rattle.std.specs.Prelude.{List, length, filter, map, Option, Some, None}
use Rattle.rs_update.specs.IpPrefix.{IpPrefix}
use Rattle.rs_start.specs.Opening.{added_of}
use Rattle.rs_start.specs.RightFlags.{mended}
use Rattle.rs_start.specs.TableFile.{TableRow, rows_from}
use Rattle.rs_start.specs.declared.added.Added.{Added}
use Rattle.rs_start.specs.declared.added.Added.TheVariants.{Written, LeftOut}
use Rattle.rs_start.specs.declared.added.Reason.TheVariants.{Multicast, TooLong, AttributesAtFault}
use Rattle.rs_start.specs.declared.counts.Counts.{Counts}

-- a count grows by a number, if 64 bits hold the sum
abbrev pub GrowsBy : ℕ → ℕ → ℕ → Type 0
GrowsBy old new more = old + more < 2 ^ 64 → new ≡ old + more

-- ---- entries of a peer

-- what becomes of an entry: nothing is written if no session of its peer is
abbrev pub outcome_of : {S : Type 0} → Option S → IpPrefix → List ℕ → Option Added
outcome_of (Some session) prefix section = Some (added_of prefix (mended section))
outcome_of None prefix section = None

-- what becomes of the rows that the peer at a place of the index has
abbrev pub outcomes_from : {S : Type 0} → Option S → ℕ → List TableRow → List (Option Added)
outcomes_from session place rows = map (λ row. outcome_of session row.prefix row.entry.section) (rows_from place rows)

-- each outcome has a number of its own
abbrev pub number_of : Option Added → ℕ
number_of (Some Written) = 0
number_of (Some (LeftOut Multicast)) = 1
number_of (Some (LeftOut TooLong)) = 2
number_of (Some (LeftOut AttributesAtFault)) = 3
number_of None = 4

-- how many outcomes are this one
abbrev pub how_many : Option Added → List (Option Added) → ℕ
how_many outcome outcomes = length (filter (λ other. number_of other == number_of outcome) outcomes)

-- Outcomes were counted: each count grows by the number of outcomes that it is for. So a count without one stays.
pub record Counted (old new : Counts) (outcomes : List (Option Added)) : Type 0 where
  pub written : GrowsBy old.written new.written (how_many (Some Written) outcomes)
  pub multicast : GrowsBy old.multicast new.multicast (how_many (Some (LeftOut Multicast)) outcomes)
  pub too_long : GrowsBy old.too_long new.too_long (how_many (Some (LeftOut TooLong)) outcomes)
  pub at_fault : GrowsBy old.at_fault new.at_fault (how_many (Some (LeftOut AttributesAtFault)) outcomes)
  pub unwritten : GrowsBy old.unwritten new.unwritten (how_many None outcomes)

-- ---- records that are left out

-- a record of TABLE_DUMP
abbrev pub is_two_octet : ℕ → ℕ → Bool
is_two_octet kind subtype = kind == 12

-- one of TABLE_DUMP_V2 with a Subtype from one number to another
abbrev pub is_from_to : ℕ → ℕ → ℕ → ℕ → Bool
is_from_to least most kind subtype = kind == 13 && nat_le least subtype && nat_le subtype most

-- RIB_IPV4_MULTICAST
abbrev pub is_ipv4_multicast : ℕ → ℕ → Bool
is_ipv4_multicast kind subtype = is_from_to 3 3 kind subtype

-- RIB_IPV6_UNICAST and RIB_IPV6_MULTICAST
abbrev pub is_ipv6 : ℕ → ℕ → Bool
is_ipv6 kind subtype = is_from_to 4 5 kind subtype

-- RIB_GENERIC
abbrev pub is_generic : ℕ → ℕ → Bool
is_generic kind subtype = is_from_to 6 6 kind subtype

-- from RIB_IPV4_UNICAST_ADDPATH to RIB_GENERIC_ADDPATH
abbrev pub is_add_path : ℕ → ℕ → Bool
is_add_path kind subtype = is_from_to 8 12 kind subtype

-- none of them
abbrev pub is_other : ℕ → ℕ → Bool
is_other kind subtype =
    not (is_two_octet kind subtype || is_from_to 3 6 kind subtype || is_from_to 8 12 kind subtype)

abbrev pub one_if : Bool → ℕ
one_if is = if is then 1 else 0
