-- Which rows of a client's table are asked for (our choice).
use Rattle.std.specs.Prelude.{ℕ, ◌==◌, ◌&&◌, Bool, true, if◌then◌else◌, Option, None, Some}
use Rattle.rs_update.specs.IpPrefix.{IpPrefix}
use Rattle.rs_update.specs.Covering.{covers}
use Rattle.rs_update.specs.PrefixOrder.{same_prefix}
use Rattle.rs_table.specs.Table.{TableRow}
use Rattle.rs_survey.specs.declared.asked_rows.AskedRows.{AskedRows}

-- the sender is the one that is asked for; true if none is asked for
abbrev pub is_asked_sender : Option ℕ → ℕ → Bool
is_asked_sender None peer = true
is_asked_sender (Some from) peer = from == peer

-- The prefix is the one that is asked for; true if none is asked for. If longer prefixes are asked for too, it may
-- be one that the given prefix covers.
abbrev pub is_asked_prefix : Option IpPrefix → Bool → IpPrefix → Bool
is_asked_prefix None longer prefix = true
is_asked_prefix (Some asked) longer prefix = if longer then covers asked prefix else same_prefix asked prefix

abbrev pub is_asked : AskedRows → TableRow → Bool
is_asked asked row = is_asked_sender asked.from row.route.peer && is_asked_prefix asked.prefix asked.longer row.prefix
