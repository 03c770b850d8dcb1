use Rattle.std.proofs.Common.{◌≡◌, map, take}
use Rattle.rs_import.specs.VrpsView.{pattern_of_vrp}
use Rattle.rs_import.proofs.vrps.table_of.Given as goal

-- the VRPs so far are nested, and their ASes are kept
abbrev pub invariant-loop-vrp : goal.invariant-loop-vrp
invariant-loop-vrp l =
    (l.nesting ≡ map pattern_of_vrp (take l.vrp-index l.vrps)) × (l.asns.items ≡ map (λ vrp. vrp.asn) (take l.vrp-index l.vrps))
