-- The case of export policy that the communities of one kind name, and whether two such cases permit a route. For
-- policy.rt.
use Rattle.std.specs.Prelude.{Bool, true, false, if◌then◌else◌}
use Rattle.rs_choice.specs.declared.policy.Case.{Case}
use Rattle.rs_choice.specs.declared.policy.Case.TheVariants as cases

-- the first case of those that are named: refused to the client, permitted to it, and refused to all
abbrev pub first_case : Bool → Bool → Bool → Case
first_case refuses permits refuses_all =
    if refuses then cases.RefusedToClient
    else if permits then cases.PermittedToClient
    else if refuses_all then cases.RefusedToAll
    else cases.NoneNamed

-- whether the earlier of two cases permits the route
abbrev pub permits_both : Case → Case → Bool
permits_both cases.RefusedToClient other = false
permits_both one cases.RefusedToClient = false
permits_both cases.PermittedToClient other = true
permits_both one cases.PermittedToClient = true
permits_both cases.RefusedToAll other = false
permits_both one cases.RefusedToAll = false
permits_both one other = true
