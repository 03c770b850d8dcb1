use Rattle.std.proofs.Common.{◌≡◌, ◌∙◌, ◌≤◌, List, ℕ, length, None, Some, sym, ap, subst}
use Rattle.rs_types.specs.Gathered.{attributes_of}
use Rattle.rs_types.specs.PathAttributes.{PathAttributes}
use Rattle.rs_types.specs.Section.{items_of, section_fault}
use Rattle.rs_types.specs.Spelling.{written}
use Rattle.rs_types.proofs.attributes.Attributes.spelling.Goals as goal

pub returns : goal.returns
returns c =
    let whole = c.self.invariant in
    let is = whole.is_written ∙ ap written c.self.view_is in
    record {
      value = c.as_slice.ensures.value ∙ is;
      bound = subst (λ (octets : List ℕ). length octets ≤ 4073) is whole.fits_a_message;
      faultless = subst (λ (octets : List ℕ). section_fault octets ≡ None) is whole.is_faultless;
      same =
          sym (ap (λ (octets : List ℕ). attributes_of (items_of octets)) is)
          ∙ whole.says_the_attributes
          ∙ ap (λ (attributes : PathAttributes). Some attributes) c.self.view_is;
    }
