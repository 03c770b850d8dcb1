use Rattle.std.proofs.Common.{◌∙◌, ap, arith, List, ℕ, length, rules}
use Rattle.rs_types.specs.AttributesView.{value_of, view_of}
use Rattle.rs_types.specs.Gathered.{look}
use Rattle.rs_types.specs.Section.{items_of}
use Rattle.rs_types.proofs.section.LookLemmas.{next_hop-length}
use Rattle.rs_types.proofs.attributes.Attributes.next_hop.Goals as goal

pub read_u32-requires : goal.read_u32-requires
read_u32-requires c =
    let value = c.value_in.ensures ∙ ap (λ (os : List ℕ). value_of (look 3 (items_of os))) c.deref.ensures.value in
    omega (
      arith,
      ap length value,
      next_hop-length c.self.inside.spelling.items (view_of c.self.inside)
          c.self.invariant.is_faultless c.self.invariant.says_the_attributes,
    )

pub returns : goal.returns
returns c = search rules
