-- How an UPDATE is filled with entries of a table (our choice).
use Rattle.std.specs.Prelude.{◌≡◌, ℕ, Bool, true, false, List, ◌++◌, Option, None, Result, Ok, Err}
use Rattle.rs_update.specs.IpPrefix.{IpPrefix}
use Rattle.rs_update.specs.Message.{MessageContent, IsUpdate}
use Rattle.rs_update.specs.PathAttributes.{PathAttributes}
use Rattle.rs_start.specs.declared.added.Added.TheVariants.{Written, LeftOut}
use Rattle.rs_start.specs.declared.added.Reason.{Reason}
use Rattle.rs_start.specs.Opening.{Announcing, added_of, route_by, routes_in}

-- an UPDATE begins with the route of an entry, or the entry is left out
abbrev pub Begins : Result (List Announcing) Reason → IpPrefix → List ℕ → Type 0
Begins (Ok held) prefix section =
    (added_of prefix section ≡ Written) × (routes_in held ≡ route_by Written prefix section)
Begins (Err reason) prefix section = added_of prefix section ≡ LeftOut reason

-- the route of an entry joins those of the UPDATE, or nothing changes
abbrev pub Joins : Bool → List Announcing → List Announcing → IpPrefix → List ℕ → Type 0
Joins true old new prefix section =
    (added_of prefix section ≡ Written) × (routes_in new ≡ routes_in old ++ route_by Written prefix section)
Joins false old new prefix section = new ≡ old

-- the attributes with which a message announces prefixes
abbrev pub attributes_told : MessageContent → Option PathAttributes
attributes_told (IsUpdate update) = update.attributes
attributes_told content = None
