-- Laws of the definitions.
use Rattle.std.specs.Prelude.{◌≡◌, ◌↔◌, ◌++◌, ◌∷◌, [], ℕ, Bool, true, false, List, filter, Some, None}
use Rattle.std.specs.FinMap.{get}
use Rattle.std.specs.List.{list_any}
use Rattle.rs_types.specs.IpPrefix.{IpPrefix}
use Rattle.rs_change.specs.Change.{Change}
use Rattle.rs_table.specs.Left.{RouteLeft, Leaves, HasNoClose, body_prefix, is_on, left, after}
use Rattle.rs_table.specs.Logged.{Logged}
use Rattle.rs_table.specs.Content.{TablesContent}
use Rattle.rs_table.specs.Gathered.{counts, entry_route, left_in}
use Rattle.rs_table.specs.Table.{TableRow, IsTable, table_of}

-- the routes that a list leaves are exactly those that are computed
abbrev pub LeftByLastChanges : Type 0
LeftByLastChanges =
    (changes : List Change) (prefix : IpPrefix) (route : RouteLeft)
    → Leaves changes prefix route ↔ (get (left changes) prefix ≡ Some route)

-- the routes left after one more change are one step from the routes left before
abbrev pub LeftAfterOneMore : Type 0
LeftAfterOneMore =
    (changes : List Change) (change : Change) → HasNoClose changes
    → left (changes ++ change ∷ []) ≡ after (left changes) change

-- A part of a list leaves the same route on a prefix as the whole list, if the part keeps enough changes. It must
-- have every change on the prefix, and all losses and closes.
abbrev pub LeftByPart : Type 0
LeftByPart =
    (keeps : Change → Bool) (prefix : IpPrefix)
    → ((change : Change) → is_on prefix change ≡ true → keeps change ≡ true)
    → ((change : Change) → body_prefix change.body ≡ None → keeps change ≡ true)
    → (changes : List Change) (route : RouteLeft)
    → Leaves changes prefix route ↔ Leaves (filter keeps changes) prefix route

-- a client has exactly one table, and it is the computed one
abbrev pub TableIsComputed : Type 0
TableIsComputed =
    (tables : TablesContent) (client : ℕ) (rows : List TableRow)
    → IsTable tables client rows ↔ (rows ≡ table_of tables client)

-- The last entry that counts for a peer and a prefix decides what a list leaves there. If no entry counts, the list
-- leaves nothing.
abbrev pub LeftByLastEntries : Type 0
LeftByLastEntries =
    (losses : List ℕ) (peer : ℕ) (prefix : IpPrefix)
    → ((earlier later : List Logged) (entry : Logged) → counts losses peer prefix entry ≡ true
    → list_any (counts losses peer prefix) later ≡ false
    → left_in losses (earlier ++ entry ∷ later) peer prefix ≡ entry_route entry)
    × ((entries : List Logged) → list_any (counts losses peer prefix) entries ≡ false
    → left_in losses entries peer prefix ≡ None)
