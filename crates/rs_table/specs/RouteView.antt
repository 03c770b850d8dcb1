-- Routes and rows as values.
use Rattle.rs_table.specs.declared.route.Route.{Route}
use Rattle.rs_table.specs.declared.route.Row.{Row}
use Rattle.rs_table.specs.Table.{TableRow}
use Rattle.rs_choice.specs.Decision.{SentRoute}

abbrev pub sent_route_of : Route → SentRoute
sent_route_of route = record { peer = route.peer; time = route.time; attributes = route.attributes.now }

abbrev pub row_of : Row → TableRow
row_of row = record { prefix = row.prefix; route = sent_route_of row.route }
