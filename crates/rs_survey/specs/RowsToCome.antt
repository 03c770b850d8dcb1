-- The rows of a client's table that are still to come, by their fields.
use Rattle.std.specs.Prelude.{◌≡◌, ℕ, List, [], Option, Some, None, MatchOption, map, refl}
use Rattle.std.specs.Coded.{Coded, code_by, coded×, coded_ℕ, coded_option}
use Rattle.std.specs.List.{cons_option}
use Rattle.std.specs.List.Sorted.{IsStrictlySortedBy}
use Rattle.std.specs.Option.{option_map, unwrap_or}
use Rattle.std.specs.declared.cmp.Ordering.TheVariants.{Less}
use Rattle.rs_update.specs.IpPrefix.{IpPrefix}
use Rattle.rs_update.specs.PrefixOrder.{prefix_cmp}
use Rattle.rs_table.specs.Codes.{prefix_code, rows_code, tables_code}
use Rattle.rs_table.specs.Content.{TablesContent}
use Rattle.rs_table.specs.RouteView.{row_of}
use Rattle.rs_table.specs.Table.{TableRow, route_in}
use Rattle.rs_survey.specs.Differences.{ClientOf, IsBehind, route_of}
use Rattle.rs_survey.specs.declared.rows_to_come.RowsToCome.TheInside as rows

-- whose rows come, behind which prefix, and which rows they are
pub record Ahead : Type 0 where
  pub whose : ClientOf
  pub last : Option IpPrefix
  pub rows : List TableRow

abbrev pub client_code : Coded ClientOf
client_code =
    code_by (TablesContent × Option ℕ) (coded× tables_code (coded_option coded_ℕ)) (λ c. (c.tables, c.client))
    (λ p. record { tables = p.0; client = p.1 }) (λ _. refl)

abbrev pub ahead_code : Coded Ahead
ahead_code =
    code_by (ClientOf × (Option IpPrefix × List TableRow))
    (coded× client_code (coded× (coded_option prefix_code) rows_code)) (λ a. (a.whose, (a.last, a.rows)))
    (λ p. record { whose = p.0; last = p.1.0; rows = p.1.1 }) (λ _. refl)

-- the rows that come; none if the client is absent
abbrev pub rows_in : Option (List TableRow) → List TableRow
rows_in rest = unwrap_or rest []

abbrev pub ahead_view : rows.Inside → Ahead
ahead_view fields = record {
  whose = record { tables = fields.tables.now; client = fields.client };
  last = fields.last;
  rows = cons_option (option_map row_of fields.first) (rows_in fields.rest);
}

-- the rows' prefixes ascend from the last prefix on, and no row behind it is missing
pub record AreAll (ahead : Ahead) : Type 0 where
  pub ascending : IsStrictlySortedBy prefix_cmp (cons_option ahead.last (map (λ row. row.prefix) ahead.rows))
  pub all : (prefix : IpPrefix) → IsBehind ahead.last prefix → route_in ahead.rows prefix ≡ route_of ahead.whose prefix

pub record AreAhead (fields : rows.Inside) : Type 0 where
  pub ends : fields.first ≡ None → rows_in fields.rest ≡ []
  pub are_all : AreAll (ahead_view fields)

-- ---- what comes next

-- a client gets no route behind a prefix and before another one
abbrev pub GetsNoneBetween : ClientOf → Option IpPrefix → IpPrefix → Type 0
GetsNoneBetween whose last next =
    (prefix : IpPrefix) → IsBehind last prefix → prefix_cmp prefix next ≡ Less → route_of whose prefix ≡ None

abbrev pub GetsNoneBehind : ClientOf → Option IpPrefix → Type 0
GetsNoneBehind whose last = (prefix : IpPrefix) → IsBehind last prefix → route_of whose prefix ≡ None

-- the client's next row is on this prefix, or there is no next row
pub record IsFirst (ahead : Ahead) (prefix : IpPrefix) : Type 0 where
  pub behind : IsBehind ahead.last prefix
  pub between : GetsNoneBetween ahead.whose ahead.last prefix
  pub some : route_of ahead.whose prefix ≡ None → ⊥

abbrev pub IsFirstPrefix : Ahead → Option IpPrefix → Type 0
IsFirstPrefix ahead result = MatchOption result (GetsNoneBehind ahead.whose ahead.last) (IsFirst ahead)

-- the row on a prefix was taken, so that the rows behind it are to come
abbrev pub IsTaken : Ahead → IpPrefix → Ahead → Type 0
IsTaken old prefix new = (new.whose ≡ old.whose) × (new.last ≡ Some prefix)
