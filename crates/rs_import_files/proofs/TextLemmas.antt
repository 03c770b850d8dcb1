-- How numbers, prefixes and patterns are put together from what their texts are cut into.
use Rattle.std.proofs.Common.{◌≡◌, ◌≢◌, ◌∙◌, ℕ, true, List, [], ◌++◌, length, get_or, codes}
use Rattle.std.proofs.Common.{Option, None, Some, Result, Ok, Err, append_assoc, rules, subst, sym, ap, refl, arith, inl, inr}
use Rattle.std.proofs.lemmas.Fmt.{decimal-digits_value}
use Rattle.std.proofs.lemmas.List.{append-nil}
use Rattle.std.proofs.lemmas.Str.Parse.{IsNumeralModel, numerals_by_value, parse_plain}
use Rattle.std.specs.Prelude.{IfSome}
use Rattle.std.specs.Result.{result_ok}
use Rattle.std.specs.Str.{all_ascii_digits}
use Rattle.std.specs.Str.Parse.{ParsesUnsigned, digits_value}
use Rattle.std.specs.Str.Pattern.{StripsPrefix, FindsTextPrefix}
use Rattle.rs_types.specs.IpPrefix.{IpPrefix}
use Rattle.rs_types.specs.declared.pattern.Pattern.{Pattern}
use Rattle.rs_import_files.specs.Texts.{AreBounds, AreWritten, IsNumber, IsPattern, IsPrefixText}

own : IsNumeralModel (λ ds. all_ascii_digits ds ≡ true) (digits_value 10)
own = numerals_by_value _ (search rules)

-- what std reads of a text without a plus or a needless zero is the number that the text is
pub number_read : {E : Type 0} (text : List ℕ) (read : Result ℕ E) → get_or text 0 0 ≢ 43 → (get_or text 0 0 ≡ 48 → length text ≡ 1)
    → ParsesUnsigned 32 10 text read
    → IfSome (result_ok read) (IsNumber text)
number_read {E} text (Ok n) plain bare reads =
    let (digits, value) = parse_plain own {E = E} 32 text (Ok n) reads plain in
    let spelled = decimal-digits_value own text digits.0 digits.1 bare (omega (arith, digits.2)) in
    (rw value (sym spelled), omega (arith, digits.2, value))
number_read {E} text (Err e) plain bare reads = tt

-- what stands behind a title of an AS number is what is left of the text
pub behind_title : (text title rest : List ℕ) → StripsPrefix (FindsTextPrefix title) text rest → text ≡ title ++ rest
behind_title text title rest (n, (len, starts, bound), is, more) = starts ∙ ap (λ (back : List ℕ). title ++ back) (sym is)

-- a prefix alone is a pattern
pub pattern_alone : (text : List ℕ) (prefix : IpPrefix) (pattern : Pattern) → IsPrefixText text prefix
    → pattern ≡ record { prefix = prefix; least = prefix.len; most = prefix.len }
    → IsPattern text pattern
pattern_alone text prefix pattern is same =
    subst (λ one. IsPattern text one) (sym same) (text, [], sym (append-nil text), is, inl (refl, refl, refl))

pub pattern_within : (text front inside : List ℕ) (prefix : IpPrefix) (bounds : ℕ × ℕ) (found : Option Pattern)
    → text ≡ front ++ codes "{" ++ inside
    → IsPrefixText front prefix
    → AreWritten inside bounds
    → IfSome found (λ pattern. (pattern ≡ record { prefix = prefix; least = bounds.0; most = bounds.1 })
    × AreBounds prefix.len bounds.0 bounds.1)
    → IfSome found (IsPattern text)
pattern_within text front inside prefix bounds None split is written none = tt
pattern_within text front inside prefix bounds (Some pattern) split is written (same, bound) =
    subst (λ one. IsPattern text one) (sym same) (front, codes "{" ++ inside, split ∙ append_assoc front (codes "{") inside, is, inr (inr (inside, refl, written, bound)))
