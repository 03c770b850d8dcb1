use Rattle.std.proofs.Common.{◌∙◌, ap, arith, List, ℕ}
use Rattle.rs_types.specs.AsPath.{path_length_of}
use Rattle.rs_types.specs.AttributesView.{value_of}
use Rattle.rs_types.specs.Gathered.{look}
use Rattle.rs_types.specs.PathSegments.{segments_of}
use Rattle.rs_types.specs.Section.{items_of}
use Rattle.rs_types.proofs.attributes.Attributes.path_length.Goals as goal

pub path_length-requires : goal.path_length-requires
path_length-requires c =
    let value = c.value_in.ensures ∙ ap (λ (os : List ℕ). value_of (look 2 (items_of os))) c.deref.ensures.value in
    omega (arith, ap (λ (octets : List ℕ). path_length_of (segments_of octets).0) value, c.self.invariant.path_fits)
