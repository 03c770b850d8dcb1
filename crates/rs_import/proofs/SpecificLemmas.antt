-- Of the patterns that match a prefix, the last one in the order of prefixes is the most specific one.
use Rattle.std.proofs.Common.{◌≡◌, ◌∙◌, sym, ap, subst, refl, ℕ, zero, suc, ◌+◌, ◌-◌, ◌*◌, ◌/◌, ◌^◌, ◌≤◌, ◌<◌, Bool, true, inl, inr, List, ◌∷◌, length, take, Some, arith}
use Rattle.std.proofs.Common.{slice_index_or}
use Rattle.std.specs.Prelude.{find, reverse}
use Rattle.std.specs.Option.{unwrap_or}
use Rattle.std.specs.List.Sorted.{IsNonDecreasingBy}
use Rattle.std.proofs.Math.Nat.{div-mul-le_self}
use Rattle.std.proofs.lemmas.Bool.{and_parts, both_ways, cases_Bool, cases_lt}
use Rattle.std.proofs.lemmas.List.{take_all}
use Rattle.std.proofs.lemmas.Nat.{le-div, mul-le, pow-add, pow_pos}
use Rattle.rs_types.specs.Covering.{covers}
use Rattle.rs_types.specs.IpPrefix.{IpPrefix}
use Rattle.rs_types.specs.declared.pattern.Pattern.{Pattern}
use Rattle.rs_import.specs.Nesting.{rank_of}
use Rattle.rs_import.specs.Patterns.{IsMostSpecific, is_match}
use Rattle.rs_import.proofs.CoverLemmas.{covers-parts}
use Rattle.rs_import.proofs.SearchLemmas.{find-one, reverse_more}

-- an address whose bits past a length are 0 is no greater than with fewer of them 0
cleared-less : (a short long : ℕ) → short ≤ long → a / 2 ^ (32 - short) * 2 ^ (32 - short) ≤ a / 2 ^ (32 - long) * 2 ^ (32 - long)
cleared-less a short long less =
    let more = (32 - short) - (32 - long) in
    let split : 32 - short ≡ more + (32 - long) = omega (arith, less) in
    let power : 2 ^ (32 - short) ≡ 2 ^ more * 2 ^ (32 - long) = ap (λ (k : ℕ). 2 ^ k) split ∙ pow-add 2 more (32 - long) in
    cleared (a / 2 ^ (32 - short)) (2 ^ (32 - short)) (2 ^ more) (2 ^ (32 - long)) power (div-mul-le_self a (2 ^ (32 - short))) (pow_pos (32 - long))
  where
    cleared : (h v w u : ℕ) → v ≡ w * u → h * v ≤ a → 0 < u → h * v ≤ a / u * u
    cleared h v w u power low some =
        let product : h * v ≡ (h * w) * u = ap (λ (k : ℕ). h * k) power ∙ omega (arith) in
        let quotient : h * w ≤ a / u = le-div (h * w) a u some (omega (arith, product, low)) in
        omega (arith, product, mul-le (h * w) u (a / u) u quotient (omega arith))

-- of two prefixes that cover one, the later one is no shorter
later-longer : (one other q : IpPrefix) → covers one q ≡ true → covers other q ≡ true → rank_of one ≤ rank_of other → one.len ≤ other.len
later-longer one other q covering also rises = elim (cases_lt other.len one.len) [
  | inl shorter ↦
      let less = cleared-less q.address other.len one.len (omega (arith, shorter)) in
      absurd (omega (arith, rises, shorter, less, (covers-parts one q covering).1, (covers-parts other q also).1))
  | inr not_shorter ↦ not_shorter
]

-- in ascending order, what a search from the end finds comes before none that passes too
last-found : {X : Type 0} (P : X → Bool) (n : X → ℕ) (xs : List X) (found : X) → IsNonDecreasingBy n xs → (end : ℕ) → end ≤ length xs
    → find P (reverse (take end xs)) ≡ Some found → (k : ℕ) (d : X) → k < end → P (slice_index_or xs k d) ≡ true
    → n (slice_index_or xs k d) ≤ n found
last-found P n xs found rising zero within is k d low passes = absurd (omega (arith, low))
last-found {X} P n xs found rising (suc end) within is k d low passes =
    let inside : end < length xs = omega (arith, within) in
    let one_more : suc end ≡ end + 1 = omega arith in
    let last = slice_index_or xs end d in
    let front = ap (λ (k : ℕ). find P (reverse (take k xs))) one_more ∙ ap (find P) (reverse_more xs end d inside) in
    elim (cases_Bool (P last)) [
      | inl here ↦
          let first : find P (last ∷ reverse (take end xs)) ≡ Some last = rw here refl in
          let same : last ≡ found = ap (λ o. unwrap_or o last) (sym first ∙ (sym front ∙ is)) in
          subst (λ (x : X). n (slice_index_or xs k d) ≤ n x) same (rising k end d (omega (arith, low)) inside)
      | inr apart ↦ elim (cases_lt k end) [
        | inl less ↦
            last-found P n xs found rising end (omega (arith, within))
            (sym (front ∙ find-one P last (reverse (take end xs)) apart) ∙ is) k d less passes
        | inr not_less ↦
            let same : k ≡ end = omega (arith, low, not_less) in
            absurd (both_ways _ (ap (λ (i : ℕ). P (slice_index_or xs i d)) same ∙ apart) passes)
      ]
    ]

pub most_specific : (patterns : List Pattern) (q : IpPrefix) (found : Pattern) → IsNonDecreasingBy (λ pattern. rank_of pattern.prefix) patterns
    → is_match q found ≡ true → find (is_match q) (reverse patterns) ≡ Some found → IsMostSpecific patterns q found
most_specific patterns q found rising matches is k d inside passes =
    let all = ap (λ (l : List Pattern). find (is_match q) (reverse l)) (take_all (length patterns) patterns (omega arith)) in
    let one = (slice_index_or patterns k d).prefix in
    later-longer one found.prefix q (and_parts _ _ passes).0 (and_parts _ _ matches).0
    (last-found (is_match q) (λ (pattern : Pattern). rank_of pattern.prefix) patterns found rising (length patterns) (omega arith) (all ∙ is)
    k d inside passes)
