-- A field splits in one way into parts and a rest, and reading finds it.
-- For `a_path_is_one_list_of_segments` and `a_section_is_one_list_of_attributes` of laws.rt.
use Rattle.std.proofs.Common.{◌≡◌, ℕ, List, Option, sym, ap}
use Rattle.std.specs.Prelude.{◌↔◌}
use Rattle.rs_types.specs.Parts.{AreOctets, IsWholeFront, parts_of}
use Rattle.rs_types.proofs.fields.PartsLemmas.{Shrinks, Reads, parts_of-whole, whole-parts_of}

pub splits_as_read : {A : Type 0} (read : List ℕ → Option (A × List ℕ)) (Spells : List ℕ → A → Type 0) → Shrinks read → Reads read Spells
    → (octets : List ℕ) → AreOctets octets
    → (parts : List A) (rest : List ℕ) → (IsWholeFront Spells octets parts rest
    ↔ ((parts ≡ (parts_of read octets).0) × (rest ≡ (parts_of read octets).1)))
splits_as_read {A} read Spells shrinks reads octets are parts rest = (
  λ whole.
      let found = whole-parts_of read Spells shrinks reads octets parts rest are whole in
      (sym (ap (λ (p : List A × List ℕ). p.0) found), sym (ap (λ (p : List A × List ℕ). p.1) found)),
  λ same. rw (same.0, same.1) (parts_of-whole read Spells shrinks reads octets are),
)
