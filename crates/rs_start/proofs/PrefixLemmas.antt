-- Prefixes are read as they are spelled.
use Rattle.std.proofs.Common.{◌≡◌, ℕ, ◌<◌, ◌∙◌, List, [], ◌∷◌, ◌++◌, Some, length, refl, ap, sym, arith}
use Rattle.std.specs.List.{AllByRecursion}
use Rattle.std.proofs.lemmas.List.Concat.{flat_map-cons}
use Rattle.rs_update.specs.IpPrefix.{IpPrefix}
use Rattle.rs_update.specs.Parts.{parts_of, parts_within}
use Rattle.rs_update.specs.Prefix.{spelled_prefix, prefix_at, prefixes_of}
use Rattle.rs_update.proofs.fields.PrefixLemmas.{prefix_at-only, prefixes_more}
use Rattle.rs_update.proofs.fields.WrittenPrefix.{spelled_prefix-spells}
use Rattle.rs_start.specs.Opening.{IsRoutePrefix, nlri_spelling}

nothing : parts_of prefix_at [] ≡ ([], [])
unfolding parts_within
nothing = refl

parts_read : (prefixes : List IpPrefix) → AllByRecursion IsRoutePrefix prefixes
    → parts_of prefix_at (nlri_spelling prefixes) ≡ (prefixes, [])
parts_read [] each = nothing
parts_read (prefix ∷ later) each =
    let rest = nlri_spelling later in
    let front = prefix_at-only (spelled_prefix prefix) rest prefix (spelled_prefix-spells prefix each.0.address each.0.cleared) in
    ap (λ (octets : List ℕ). parts_of prefix_at octets) (flat_map-cons spelled_prefix prefix later)
    ∙ prefixes_more (spelled_prefix prefix ++ rest) prefix rest (sym front)
    ∙ ap (λ (x : List IpPrefix × List ℕ). (prefix ∷ x.0, x.1)) (parts_read later each.1)

pub nlri_read : (prefixes : List IpPrefix) → AllByRecursion IsRoutePrefix prefixes → prefixes_of (nlri_spelling prefixes) ≡ Some prefixes
nlri_read prefixes each = rw (parts_read prefixes each) refl

pub no_prefix : prefixes_of [] ≡ Some []
no_prefix = rw nothing refl

pub nlri_some : (prefixes : List IpPrefix) → 0 < length prefixes → 0 < length (nlri_spelling prefixes)
nlri_some [] some = absurd (omega arith)
nlri_some (prefix ∷ later) some = omega arith
