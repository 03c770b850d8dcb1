-- VRPs by the patterns of their prefixes and by their ASes.
use Rattle.std.specs.Prelude.{◌≡◌, ◌≤◌, ◌<◌, ◌-◌, ℕ, true, false, List, [], ◌∷◌}
use Rattle.std.specs.List.{AllWithin}
use Rattle.rs_types.specs.IpPrefix.{IpPrefix}
use Rattle.rs_types.specs.declared.pattern.Pattern.{Pattern}
use Rattle.rs_types.specs.declared.vrp.Vrp.{Vrp}
use Rattle.rs_import.specs.Rpki.{is_covering}

-- the pattern of the prefixes that the AS of a VRP may originate
abbrev pub pattern_of_vrp : Vrp → Pattern
pattern_of_vrp vrp = record { prefix = vrp.prefix; least = vrp.prefix.len; most = vrp.max_len }

-- the VRPs of such patterns and of ASes
abbrev pub vrps_of : List Pattern → List ℕ → List Vrp
vrps_of [] asns = []
vrps_of (pattern ∷ patterns) [] = []
vrps_of (pattern ∷ patterns) (asn ∷ asns) =
    record { prefix = pattern.prefix; max_len = pattern.most; asn = asn } ∷ vrps_of patterns asns

-- so many VRPs stand up to the last one before the end that covers the prefix; 0 if none does
abbrev pub IsLastCovering : List Vrp → IpPrefix → ℕ → ℕ → Type 0
IsLastCovering vrps prefix end count =
    (count ≤ end)
    × AllWithin (λ vrp. is_covering prefix vrp ≡ false) vrps count end
    × (0 < count → AllWithin (λ vrp. is_covering prefix vrp ≡ true) vrps (count - 1) count)
