-- The VRPs to come of an iterator over those that cover a prefix.
use Rattle.std.specs.Prelude.{◌≡◌, ◌≤◌, ◌<◌, ◌-◌, true, List, filter, length, reverse, take}
use Rattle.std.specs.List.{AllWithin}
use Rattle.rs_import.specs.declared.covering.Covering.TheInside as covering
use Rattle.rs_types.specs.declared.vrp.Vrp.{Vrp}
use Rattle.rs_import.specs.Rpki.{is_covering}

-- those of the first VRPs, so many, that cover the prefix, the last one first
abbrev pub covering_view : covering.Inside → List Vrp
covering_view fields = filter (is_covering fields.prefix) (reverse (take fields.count fields.vrps.now))

-- the last of the first VRPs, so many, covers the prefix
abbrev pub IsAtCover : covering.Inside → Type 0
IsAtCover fields =
    (fields.count ≤ length fields.vrps.now)
    × (0 < fields.count
    → AllWithin (λ vrp. is_covering fields.prefix vrp ≡ true) fields.vrps.now (fields.count - 1) fields.count)
