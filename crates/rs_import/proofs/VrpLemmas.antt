-- VRPs by their patterns and their ASes, and what a search among them finds.
use Rattle.std.proofs.Common.{◌≡◌, ◌∙◌, sym, ap, subst, refl, ℕ, zero, suc, ◌≤◌, ◌<◌, Bool, true, false, List, [], ◌∷◌, length, take, map, arith}
use Rattle.std.proofs.Common.{slice_index_or}
use Rattle.std.specs.List.{AllWithin, HoldsAt, list_any}
use Rattle.std.specs.List.Sorted.{IsNonDecreasingBy}
use Rattle.std.specs.Prelude.{Option}
use Rattle.std.proofs.lemmas.Bool.{and_left, or_from, or_left, or_right}
use Rattle.std.proofs.lemmas.List.{get_or-map, get_or-take, get_or_read, length-map, length-take}
use Rattle.rs_types.specs.Covering.{covers}
use Rattle.rs_types.specs.IpPrefix.{IpPrefix}
use Rattle.rs_types.specs.declared.pattern.Pattern.{Pattern}
use Rattle.rs_types.specs.declared.vrp.Vrp.{Vrp}
use Rattle.rs_import.specs.Nesting.{IsLastCover, IsNotBefore, rank_of}
use Rattle.rs_import.specs.Rpki.{is_covering, is_matching}
use Rattle.rs_import.specs.VrpsView.{IsLastCovering, pattern_of_vrp, vrps_of}

abbrev pub no_vrp : Vrp
no_vrp = record { prefix = record { address = 0; len = 0 }; max_len = 0; asn = 0 }

pub matching-covers : (q : IpPrefix) (origin : Option ℕ) (vrp : Vrp) → is_covering q vrp ≡ false → is_matching q origin vrp ≡ false
matching-covers q origin vrp apart = and_left _ _ apart

-- there are as many VRPs as patterns
pub length-vrps : (patterns : List Pattern) (asns : List ℕ) → length patterns ≡ length asns → length (vrps_of patterns asns) ≡ length patterns
length-vrps [] asns same = refl
length-vrps (pattern ∷ patterns) [] same = absurd (omega (arith, same))
length-vrps (pattern ∷ patterns) (asn ∷ asns) same = ap suc (length-vrps patterns asns (omega (arith, same)))

-- the VRP at a place, by the pattern and the AS there
pub vrp-at : (patterns : List Pattern) (asns : List ℕ) (k : ℕ) (p : Pattern) (a : ℕ) (d : Vrp) → length patterns ≡ length asns
    → k < length patterns
    → slice_index_or (vrps_of patterns asns) k d
    ≡ record {
      prefix = (slice_index_or patterns k p).prefix;
      max_len = (slice_index_or patterns k p).most;
      asn = slice_index_or asns k a;
    }
vrp-at [] asns k p a d same inside = absurd (omega (arith, inside))
vrp-at (pattern ∷ patterns) [] k p a d same inside = absurd (omega (arith, same))
vrp-at (pattern ∷ patterns) (asn ∷ asns) zero p a d same inside = refl
vrp-at (pattern ∷ patterns) (asn ∷ asns) (suc k) p a d same inside =
    vrp-at patterns asns k p a d (omega (arith, same)) (omega (arith, inside))

-- VRPs are those of their patterns and their ASes
pub vrps-itself : (vrps : List Vrp) → vrps_of (map pattern_of_vrp vrps) (map (λ vrp. vrp.asn) vrps) ≡ vrps
vrps-itself [] = refl
vrps-itself (vrp ∷ vrps) = ap (λ (l : List Vrp). vrp ∷ l) (vrps-itself vrps)

-- the prefix of the VRP at a place is that of the pattern there
prefix-at : (patterns : List Pattern) (asns : List ℕ) (k : ℕ) (p : Pattern) (d : Vrp) → length patterns ≡ length asns → k < length patterns
    → (slice_index_or (vrps_of patterns asns) k d).prefix ≡ (slice_index_or patterns k p).prefix
prefix-at patterns asns k p d same inside = ap (λ (vrp : Vrp). vrp.prefix) (vrp-at patterns asns k p 0 d same inside)

no_pattern : Pattern
no_pattern = record { prefix = record { address = 0; len = 0 }; least = 0; most = 0 }

-- what is known of patterns, said of VRPs
pub covering-of : (patterns : List Pattern) (asns : List ℕ) (q : IpPrefix) (end count : ℕ) → length patterns ≡ length asns
    → end ≤ length patterns → IsLastCover patterns q end count → IsLastCovering (vrps_of patterns asns) q end count
covering-of patterns asns q end count same within last = (
  last.0.0,
  λ k d from before.
      ap (λ (p : IpPrefix). covers p q) (prefix-at patterns asns k no_pattern d same (omega (arith, before, within)))
      ∙ last.0.1 k no_pattern from before,
  λ some k d from before.
      ap (λ (p : IpPrefix). covers p q) (prefix-at patterns asns k no_pattern d same (omega (arith, before, within, last.0.0)))
      ∙ last.1 some k no_pattern from before,
)

-- in ascending order, a VRP is before none of those in front of it
pub vrp-not_before : (vrps : List Vrp) (i : ℕ) (x : Vrp) → IsNonDecreasingBy (λ vrp. rank_of vrp.prefix) vrps → i < length vrps
    → x ≡ slice_index_or vrps i x → IsNotBefore (map pattern_of_vrp (take i vrps)) (pattern_of_vrp x)
vrp-not_before vrps i x rising inside at k d from before =
    let near : k < length (take i vrps) = omega (arith, before, length-map (take i vrps) pattern_of_vrp) in
    let low : k < i = omega (arith, near, length-take i vrps) in
    subst (λ (pattern : Pattern). rank_of pattern.prefix ≤ rank_of x.prefix)
    (sym (get_or-map pattern_of_vrp (take i vrps) k no_vrp d near))
    (subst (λ (vrp : Vrp). rank_of vrp.prefix ≤ rank_of x.prefix) (sym (get_or-take i vrps k no_vrp low))
    (subst (λ (vrp : Vrp). rank_of (slice_index_or vrps k no_vrp).prefix ≤ rank_of vrp.prefix) (sym (get_or_read vrps i x inside at no_vrp))
    (rising k i no_vrp (omega (arith, low)) inside)))

-- the last VRP that covers a prefix is at a place where a pattern does
pub pattern-holds : (patterns : List Pattern) (asns : List ℕ) (q : IpPrefix) (place : ℕ) → length patterns ≡ length asns
    → place < length patterns → HoldsAt (λ vrp. is_covering q vrp ≡ true) (vrps_of patterns asns) place
    → HoldsAt (λ pattern. covers pattern.prefix q ≡ true) patterns place
pattern-holds patterns asns q place same inside holds p =
    ap (λ (x : IpPrefix). covers x q) (sym (prefix-at patterns asns place p no_vrp same inside)) ∙ holds no_vrp

-- whether some VRP passes, where no one does
pub none-any : (P : Vrp → Bool) (vrps : List Vrp) → AllWithin (λ vrp. P vrp ≡ false) vrps 0 (length vrps) → list_any P vrps ≡ false
none-any P [] none = refl
none-any P (vrp ∷ vrps) none =
    or_from _ _ (none 0 vrp (omega arith) (omega arith))
    (none-any P vrps (λ k d low below. none (suc k) d (omega arith) (omega (arith, below))))

pub one-any : (P : Vrp → Bool) (vrps : List Vrp) (k : ℕ) → k < length vrps → P (slice_index_or vrps k no_vrp) ≡ true → list_any P vrps ≡ true
one-any P [] k inside passes = absurd (omega (arith, inside))
one-any P (vrp ∷ vrps) zero inside passes = or_left _ _ passes
one-any P (vrp ∷ vrps) (suc k) inside passes = or_right _ _ (one-any P vrps k (omega (arith, inside)) passes)
