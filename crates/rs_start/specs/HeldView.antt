-- An UPDATE that is being filled, by its fields (our choice).
use Rattle.std.specs.Prelude.{◌≡◌, ℕ, List, [], ◌∷◌, length, Option, Some, None}
use Rattle.std.specs.List.{AllByRecursion}
use Rattle.rs_update.specs.IpPrefix.{IpPrefix}
use Rattle.rs_update.specs.PathAttributes.{PathAttributes}
use Rattle.rs_start.specs.declared.held.Held.TheInside.{Inside}
use Rattle.rs_start.specs.Opening.{Announcing, IsSound, nlri_spelling}

-- there is an UPDATE if its attributes are there
abbrev pub held_by : Option PathAttributes → List ℕ → List IpPrefix → List Announcing
held_by None section prefixes = []
held_by (Some attributes) section prefixes =
    record { section = section; attributes = attributes; prefixes = prefixes } ∷ []

abbrev pub held_of : Inside → List Announcing
held_of fields = held_by fields.attributes fields.section.items fields.prefixes.items

-- a peer can have sent this UPDATE, and the octets of its prefixes are counted
pub record IsHeld (fields : Inside) : Type 0 where
  pub sound : AllByRecursion IsSound (held_of fields)
  pub counted : fields.nlri_len ≡ length (nlri_spelling fields.prefixes.items)
