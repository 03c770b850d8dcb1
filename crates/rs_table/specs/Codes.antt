-- Codes of what tables store; proofs tell values apart by their codes.
use Rattle.std.specs.Prelude.{ℕ, Bool, List, Option, refl}
use Rattle.std.specs.Coded.{Coded, code_by, coded×, coded_ℕ, coded_bool, coded_list, coded_option}
use Rattle.std.specs.FinMap as map
use Rattle.rs_types.specs.IpPrefix.{IpPrefix}
use Rattle.rs_types.specs.PathAttributes.{PathAttributes}
use Rattle.rs_types.specs.contracts.attributes.Attributes as attributes
use Rattle.rs_choice.specs.contracts.exchange.Exchange as exchange
use Rattle.rs_choice.specs.Plan.{Plan}
use Rattle.rs_table.specs.Left.{Routes, RouteLeft}
use Rattle.rs_table.specs.Content.{RibContent, TablesContent}
use Rattle.rs_table.specs.Logged.{Logged}
use Rattle.rs_table.specs.Table.{TableRow}
use Rattle.rs_choice.specs.Decision.{SentRoute}

abbrev pub prefix_code : Coded IpPrefix
prefix_code =
    code_by (ℕ × ℕ) (coded× coded_ℕ coded_ℕ) (λ p. (p.address, p.len)) (λ p. record { address = p.0; len = p.1 })
    (λ _. refl)

abbrev pub route_code : Coded RouteLeft
route_code =
    code_by (ℕ × PathAttributes) (coded× coded_ℕ attributes.the_row.coded) (λ r. (r.time, r.attributes))
    (λ p. record { time = p.0; attributes = p.1 }) (λ _. refl)

abbrev pub routes_code : Coded Routes
routes_code = map.code prefix_code route_code

abbrev pub rib_code : Coded RibContent
rib_code =
    code_by (Routes × Bool) (coded× routes_code coded_bool) (λ r. (r.routes, r.closed))
    (λ p. record { routes = p.0; closed = p.1 }) (λ _. refl)

abbrev pub tables_code : Coded TablesContent
tables_code =
    code_by (Plan × List RibContent) (coded× exchange.the_row.coded (coded_list rib_code)) (λ t. (t.plan, t.ribs))
    (λ p. record { plan = p.0; ribs = p.1 }) (λ _. refl)

abbrev pub sent_route_code : Coded SentRoute
sent_route_code =
    code_by (ℕ × (ℕ × PathAttributes)) (coded× coded_ℕ (coded× coded_ℕ attributes.the_row.coded))
    (λ r. (r.peer, (r.time, r.attributes))) (λ p. record { peer = p.0; time = p.1.0; attributes = p.1.1 }) (λ _. refl)

abbrev pub row_code : Coded TableRow
row_code =
    code_by (IpPrefix × SentRoute) (coded× prefix_code sent_route_code) (λ r. (r.prefix, r.route))
    (λ p. record { prefix = p.0; route = p.1 }) (λ _. refl)

abbrev pub rows_code : Coded (List TableRow)
rows_code = coded_list row_code

abbrev pub logged_code : Coded Logged
logged_code =
    code_by ((IpPrefix × (ℕ × ℕ)) × (ℕ × Option PathAttributes))
    (coded× (coded× prefix_code (coded× coded_ℕ coded_ℕ)) (coded× coded_ℕ (coded_option attributes.the_row.coded)))
    (λ c. ((c.prefix, (c.time, c.losses)), (c.peer, c.attributes)))
    (λ p. record { prefix = p.0.0; time = p.0.1.0; losses = p.0.1.1; peer = p.1.0; attributes = p.1.1 }) (λ _. refl)
