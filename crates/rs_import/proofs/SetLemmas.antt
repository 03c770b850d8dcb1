-- Sets by their patterns, in order: what a search asks of those that do not cover a prefix.
use Rattle.std.proofs.Common.{◌≡◌, sym, subst, ℕ, ◌≤◌, ◌<◌, false, List, length, take, arith}
use Rattle.std.proofs.Common.{slice_index_or}
use Rattle.std.specs.List.Sorted.{IsNonDecreasingBy}
use Rattle.std.proofs.lemmas.Bool.{and_left}
use Rattle.std.proofs.lemmas.List.{get_or_read, get_or-take, length-take}
use Rattle.rs_types.specs.Covering.{covers}
use Rattle.rs_types.specs.IpPrefix.{IpPrefix}
use Rattle.rs_types.specs.declared.pattern.Pattern.{Pattern}
use Rattle.rs_import.specs.Nesting.{IsNotBefore, rank_of}
use Rattle.rs_import.specs.Patterns.{is_match}

abbrev pub no_pattern : Pattern
no_pattern = record { prefix = record { address = 0; len = 0 }; least = 0; most = 0 }

pub match-covers : (q : IpPrefix) (pattern : Pattern) → covers pattern.prefix q ≡ false → is_match q pattern ≡ false
match-covers q pattern apart = and_left _ _ apart

-- in ascending order, a member is before none of those in front of it
pub front-not_before : (xs : List Pattern) (i : ℕ) (x : Pattern) → IsNonDecreasingBy (λ pattern. rank_of pattern.prefix) xs → i < length xs
    → x ≡ slice_index_or xs i x → IsNotBefore (take i xs) x
front-not_before xs i x rising inside at k d from before =
    let near : k < i = omega (arith, before, length-take i xs) in
    subst (λ (pattern : Pattern). rank_of pattern.prefix ≤ rank_of x.prefix) (sym (get_or-take i xs k d near))
    (subst (λ (pattern : Pattern). rank_of (slice_index_or xs k d).prefix ≤ rank_of pattern.prefix) (sym (get_or_read xs i x inside at d))
    (rising k i d (omega (arith, near)) inside))
