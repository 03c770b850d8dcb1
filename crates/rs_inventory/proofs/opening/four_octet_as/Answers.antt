use Rattle.std.proofs.Common.{◌≡◌, ◌∙◌, ◌-◌, ℕ, List, ap, arith, drop, le-ltb, length, length-drop, take, take_all}
use Rattle.rs_inventory.specs.Opening.{as_of_parameter, first_found, items_of}
use Rattle.rs_inventory.proofs.opening.four_octet_as.Goals as goal

pub returns : goal.returns
returns c =
    let octets = c.args.octets.now in
    let short = length-drop 29 octets in
    let whole : take (length octets - 29) (drop 29 octets) ≡ drop 29 octets =
    take_all (length octets - 29) (drop 29 octets) (omega (arith, short)) in
    rw (le-ltb (length octets) 29 c.if-octets-lt-PARAMETERS_AT.false)
    (c.as_of_parameters.ensures ∙ ap (λ (o : List ℕ). first_found as_of_parameter (items_of o)) whole)
