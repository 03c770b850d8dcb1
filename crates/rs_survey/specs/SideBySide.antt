-- The rows of two clients that are to come, side by side.
use Rattle.std.specs.Prelude.{◌≡◌, ◌+◌, ℕ, Option, Some, None, MatchOption, length, refl}
use Rattle.std.specs.Coded.{Coded, code_by, coded×, coded_ℕ, coded_option}
use Rattle.std.specs.Option.{option_map}
use Rattle.rs_update.specs.IpPrefix.{IpPrefix}
use Rattle.rs_table.specs.Codes.{prefix_code}
use Rattle.rs_table.specs.RouteView.{sent_route_of}
use Rattle.rs_survey.specs.declared.choices.Choices.{Choices}
use Rattle.rs_survey.specs.declared.side_by_side.SideBySide.TheInside.{Inside}
use Rattle.rs_survey.specs.Differences.{ClientOf, ToCompare, IsBehind, route_of}
use Rattle.rs_survey.specs.RowsToCome.{GetsNoneBehind, GetsNoneBetween, client_code}

-- the rows of both clients behind one prefix are to come
abbrev pub side_view : Inside → ToCompare
side_view fields = record {
  before = fields.before.whose;
  after = fields.after.whose;
  last = fields.before.last;
  left = length fields.before.rows + length fields.after.rows;
}

abbrev pub to_compare_code : Coded ToCompare
to_compare_code =
    code_by ((ClientOf × ClientOf) × (Option IpPrefix × ℕ))
    (coded× (coded× client_code client_code) (coded× (coded_option prefix_code) coded_ℕ))
    (λ c. ((c.before, c.after), (c.last, c.left)))
    (λ p. record { before = p.0.0; after = p.0.1; last = p.1.0; left = p.1.1 }) (λ _. refl)

abbrev pub AreLevel : Inside → Type 0
AreLevel fields = fields.after.last ≡ fields.before.last

-- on this prefix at least one of the clients gets a route, and on no prefix between the last one and this one
pub record IsNextPrefix (both : ToCompare) (prefix : IpPrefix) : Type 0 where
  pub behind : IsBehind both.last prefix
  pub none_before : GetsNoneBetween both.before both.last prefix
  pub none_after : GetsNoneBetween both.after both.last prefix
  pub some : route_of both.before prefix ≡ None → route_of both.after prefix ≡ None → ⊥

abbrev pub GetNoneBehind : ToCompare → Type 0
GetNoneBehind both = GetsNoneBehind both.before both.last × GetsNoneBehind both.after both.last

-- the next such prefix comes, with both routes; None if there is no such prefix
pub record IsNextOfBoth (old new : ToCompare) (one : Choices) : Type 0 where
  pub next : IsNextPrefix old one.prefix
  pub before : option_map sent_route_of one.before ≡ route_of old.before one.prefix
  pub after : option_map sent_route_of one.after ≡ route_of old.after one.prefix
  pub last : new.last ≡ Some one.prefix

abbrev pub GivesBoth : ToCompare → Option Choices → ToCompare → Type 0
GivesBoth old result new =
    (new.before ≡ old.before) × (new.after ≡ old.after)
    × MatchOption result (GetNoneBehind old) (IsNextOfBoth old new)
