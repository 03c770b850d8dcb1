use Rattle.std.proofs.Common.{◌∙◌, refl, ap, arith, List, ℕ}
use Rattle.rs_types.specs.Gathered.{look}
use Rattle.rs_types.specs.Items.{item_of}
use Rattle.rs_types.specs.Section.{items_of}
use Rattle.rs_types.proofs.section.LookLemmas.{there}
use Rattle.rs_types.proofs.section.SoundLemmas.{look_exact}
use Rattle.rs_types.proofs.attributes.Attributes.aggregator.Goals as goal

pub read_aggregator-requires : goal.read_aggregator-requires
read_aggregator-requires c = λ x e.
    let octets = c.self.inside.spelling.items in
    let looked = c.find_item.ensures ∙ ap (λ (os : List ℕ). look 7 (items_of os)) c.deref.ensures.value in
    let stands = there 7 (items_of octets) c.find_item.result x looked e in
    omega (arith, look_exact octets 7 8 (item_of x) refl c.self.invariant.is_faultless stands)
