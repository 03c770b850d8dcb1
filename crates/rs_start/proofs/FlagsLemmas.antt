-- A section gets the right flags attribute by attribute.
use Rattle.std.proofs.Common.{◌≡◌, ◌∙◌, ℕ, List, ◌++◌, Some, None, ap, append_assoc}
use Rattle.std.specs.List.{flat_map}
use Rattle.rs_types.specs.Parts.{AreOctets}
use Rattle.rs_types.specs.Section.{Item, item_at, items_of, rest_of}
use Rattle.rs_types.specs.Spelling.{spelled_item}
use Rattle.rs_types.proofs.fields.PartsLemmas.{parts_of-none, parts_of-some}
use Rattle.rs_types.proofs.section.ItemLemmas.{item_shrinks}
use Rattle.rs_types.proofs.section.ReceivedLemmas.{item_at-reads}
use Rattle.rs_start.specs.RightFlags.{mended, with_right_flags}

-- an attribute with the right flags, as it is spelled
abbrev spelled_right : Item → List ℕ
spelled_right item = spelled_item (with_right_flags item)

pub mended-step : (octets : List ℕ) (split : Item × List ℕ) → item_at octets ≡ Some split
    → mended octets ≡ spelled_item (with_right_flags split.0) ++ mended split.1
unfolding mended
mended-step octets split found =
    ap (λ (parts : List Item × List ℕ). flat_map spelled_right parts.0 ++ parts.1)
    (parts_of-some item_at item_shrinks octets split.0 split.1 found)
    ∙ append_assoc (spelled_right split.0) (flat_map spelled_right (items_of split.1)) (rest_of split.1)

pub mended-end : (octets : List ℕ) → item_at octets ≡ None → mended octets ≡ octets
unfolding mended
mended-end octets none =
    ap (λ (parts : List Item × List ℕ). flat_map spelled_right parts.0 ++ parts.1) (parts_of-none item_at octets none)

-- a section whose first attribute has them gets them if the rest does
pub mended-right : (octets : List ℕ) (split : Item × List ℕ) → AreOctets octets → item_at octets ≡ Some split
    → with_right_flags split.0 ≡ split.0 → mended split.1 ≡ split.1 → mended octets ≡ octets
mended-right octets split are found right later =
    mended-step octets split found ∙ ap (λ (item : Item). spelled_item item ++ mended split.1) right
    ∙ ap (λ (behind : List ℕ). spelled_item split.0 ++ behind) later ∙ (item_at-reads octets split are found).0
