-- Records and rows that stand for nothing: one part of them that is wrong is enough.
use Rattle.std.proofs.Common.{◌≡◌, ◌≤◌, ◌∙◌, ℕ, List, Option, None, Some, codes, subst, sym, arith}
use Rattle.std.specs.Prelude.{IsSomeAnd, if◌then◌else◌}
use Rattle.csv.specs.Records.{field_at}
use Rattle.json.specs.Find.{get}
use Rattle.json.specs.Json.{Json, number}
use Rattle.rs_types.specs.IpPrefix.{IpPrefix}
use Rattle.rs_types.specs.declared.pattern.Pattern.{Pattern}
use Rattle.rs_import_files.specs.Csv.{IsVrpRecord}
use Rattle.rs_import_files.specs.JsonRows.{IsAsValue, IsBound, IsExactLawful, IsLengthValue, IsPatternRow, IsVrpRow, has_bound, text_at}
use Rattle.rs_import_files.specs.Texts.{AreBounds, IsAsNumber, IsLength, IsPrefixText, StandsForNone}
use Rattle.rs_import_files.proofs.FormLemmas.{prefix_len_once}
use Rattle.rs_import_files.proofs.NoneLemmas.{length_once}

-- a part that isn't there, and one that is
pub not_there : {A : Type 0} (part : Option A) (P : A → Type 0) → part ≡ None → ¬ (IsSomeAnd part P)
not_there part P is some = subst (λ one. IsSomeAnd one P) is some

pub said : {A : Type 0} (part : Option A) (P : A → Type 0) (x : A) → part ≡ Some x → IsSomeAnd part P → P x
said part P x is some = subst (λ one. IsSomeAnd one P) is some

module _ (fields : List (List ℕ)) where
  pub no_number : field_at fields 0 ≡ None → StandsForNone IsVrpRecord fields
  no_number none vrp is = not_there (field_at fields 0) (λ text. IsAsNumber text vrp.asn) none is.0

  pub no_asn : (text : List ℕ) → field_at fields 0 ≡ Some text → StandsForNone IsAsNumber text → StandsForNone IsVrpRecord fields
  no_asn text there none vrp is = none vrp.asn (said (field_at fields 0) (λ text. IsAsNumber text vrp.asn) text there is.0)

  pub no_address : field_at fields 1 ≡ None → StandsForNone IsVrpRecord fields
  no_address none vrp is = not_there (field_at fields 1) (λ text. IsPrefixText text vrp.prefix) none is.1

  pub no_ipv4 : (text : List ℕ) → field_at fields 1 ≡ Some text → StandsForNone IsPrefixText text → StandsForNone IsVrpRecord fields
  no_ipv4 text there none vrp is = none vrp.prefix (said (field_at fields 1) (λ text. IsPrefixText text vrp.prefix) text there is.1)

  pub no_maximum : field_at fields 2 ≡ None → StandsForNone IsVrpRecord fields
  no_maximum none vrp is = not_there (field_at fields 2) (λ text. IsLength text vrp.max_len) none is.2

  pub no_max_len : (text : List ℕ) → field_at fields 2 ≡ Some text → StandsForNone IsLength text → StandsForNone IsVrpRecord fields
  no_max_len text there none vrp is = none vrp.max_len (said (field_at fields 2) (λ text. IsLength text vrp.max_len) text there is.2)

  pub below_length : (text maximum : List ℕ) (prefix : IpPrefix) (max_len : ℕ) → field_at fields 1 ≡ Some text → IsPrefixText text prefix
      → field_at fields 2 ≡ Some maximum → IsLength maximum max_len → ¬ (prefix.len ≤ max_len) → StandsForNone IsVrpRecord fields
  below_length text maximum prefix max_len there is_prefix here is_len below vrp is =
      let one : vrp.prefix.len ≡ prefix.len =
      prefix_len_once text vrp.prefix prefix (said (field_at fields 1) (λ text. IsPrefixText text vrp.prefix) text there is.1) is_prefix in
      let two : vrp.max_len ≡ max_len =
      length_once maximum vrp.max_len max_len (said (field_at fields 2) (λ text. IsLength text vrp.max_len) maximum here is.2) is_len in
      below (omega (arith, is.3, one, two))

-- a value is one length at most, and so is a bound
pub length_value_once : (value : Json) (x y : ℕ) → IsLengthValue value x → IsLengthValue value y → x ≡ y
length_value_once value x y (digits, is, len) (others, are, also) =
    let same : number digits ≡ number others = sym is ∙ are in
    let equal : digits ≡ others = cc in
    length_once others x y (subst (λ one. IsLength one x) equal len) also

pub bound_once : (bound : Option Json) (default x y : ℕ) → IsBound bound default x → IsBound bound default y → x ≡ y
bound_once None default x y one other = one ∙ sym other
bound_once (Some value) default x y one other = length_value_once value x y one other

module _ (row : Json) where
  pub row_without_asn : get (codes "asn") row ≡ None → StandsForNone IsVrpRow row
  row_without_asn none vrp is = not_there (get (codes "asn") row) (λ value. IsAsValue value vrp.asn) none is.0

  pub row_no_asn : (value : Json) → get (codes "asn") row ≡ Some value → StandsForNone IsAsValue value → StandsForNone IsVrpRow row
  row_no_asn value there none vrp is = none vrp.asn (said (get (codes "asn") row) (λ value. IsAsValue value vrp.asn) value there is.0)

  pub row_without_prefix : text_at (codes "prefix") row ≡ None → StandsForNone IsVrpRow row
  row_without_prefix none vrp is = not_there (text_at (codes "prefix") row) (λ text. IsPrefixText text vrp.prefix) none is.1

  pub row_no_prefix : (text : List ℕ) → text_at (codes "prefix") row ≡ Some text → StandsForNone IsPrefixText text → StandsForNone IsVrpRow row
  row_no_prefix text there none vrp is =
      none vrp.prefix (said (text_at (codes "prefix") row) (λ text. IsPrefixText text vrp.prefix) text there is.1)

  pub row_without_maximum : get (codes "maxLength") row ≡ None → StandsForNone IsVrpRow row
  row_without_maximum none vrp is = not_there (get (codes "maxLength") row) (λ value. IsLengthValue value vrp.max_len) none is.2

  pub row_no_maximum : (value : Json) → get (codes "maxLength") row ≡ Some value → StandsForNone IsLengthValue value
      → StandsForNone IsVrpRow row
  row_no_maximum value there none vrp is =
      none vrp.max_len (said (get (codes "maxLength") row) (λ value. IsLengthValue value vrp.max_len) value there is.2)

  pub row_below_length : (text : List ℕ) (value : Json) (prefix : IpPrefix) (max_len : ℕ) → text_at (codes "prefix") row ≡ Some text
      → IsPrefixText text prefix → get (codes "maxLength") row ≡ Some value → IsLengthValue value max_len → ¬ (prefix.len ≤ max_len)
      → StandsForNone IsVrpRow row
  row_below_length text value prefix max_len there is_prefix here is_len below vrp is =
      let one : vrp.prefix.len ≡ prefix.len =
      prefix_len_once text vrp.prefix prefix (said (text_at (codes "prefix") row) (λ text. IsPrefixText text vrp.prefix) text there is.1)
      is_prefix in
      let two : vrp.max_len ≡ max_len =
      length_value_once value vrp.max_len max_len
      (said (get (codes "maxLength") row) (λ value. IsLengthValue value vrp.max_len) value here is.2) is_len in
      below (omega (arith, is.3, one, two))

  -- ---- patterns

  pub pattern_without_prefix : text_at (codes "prefix") row ≡ None → StandsForNone IsPatternRow row
  pattern_without_prefix none pattern is =
      not_there (text_at (codes "prefix") row) (λ text. IsPrefixText text pattern.prefix) none is.0

  pub pattern_no_prefix : (text : List ℕ) → text_at (codes "prefix") row ≡ Some text → StandsForNone IsPrefixText text
      → StandsForNone IsPatternRow row
  pattern_no_prefix text there none pattern is =
      none pattern.prefix (said (text_at (codes "prefix") row) (λ text. IsPrefixText text pattern.prefix) text there is.0)

  pub not_exact : ¬ (IsExactLawful row) → StandsForNone IsPatternRow row
  not_exact none pattern is = none is.4

  module _ (text : List ℕ) (prefix : IpPrefix) (there : text_at (codes "prefix") row ≡ Some text) (is_prefix : IsPrefixText text prefix) where
    same_len : (pattern : Pattern) → IsPatternRow row pattern → pattern.prefix.len ≡ prefix.len
    same_len pattern is =
        prefix_len_once text pattern.prefix prefix
        (said (text_at (codes "prefix") row) (λ text. IsPrefixText text pattern.prefix) text there is.0) is_prefix

    least_of : (pattern : Pattern) → IsPatternRow row pattern → IsBound (get (codes "greater-equal") row) prefix.len pattern.least
    least_of pattern is =
        subst (λ len. IsBound (get (codes "greater-equal") row) len pattern.least) (same_len pattern is) is.1

    most_of : (pattern : Pattern) → IsPatternRow row pattern
        → IsBound (get (codes "less-equal") row) (if has_bound (codes "greater-equal") row then 32 else prefix.len) pattern.most
    most_of pattern is =
        subst (λ len. IsBound (get (codes "less-equal") row) (if has_bound (codes "greater-equal") row then 32 else len) pattern.most)
        (same_len pattern is) is.2

    pub no_least_bound : ((len : ℕ) → ¬ (IsBound (get (codes "greater-equal") row) prefix.len len)) → StandsForNone IsPatternRow row
    no_least_bound none pattern is = none pattern.least (least_of pattern is)

    pub no_most_bound : (default : ℕ) → default ≡ (if has_bound (codes "greater-equal") row then 32 else prefix.len)
        → ((len : ℕ) → ¬ (IsBound (get (codes "less-equal") row) default len)) → StandsForNone IsPatternRow row
    no_most_bound default same none pattern is =
        none pattern.most (subst (λ len. IsBound (get (codes "less-equal") row) len pattern.most) (sym same) (most_of pattern is))

    pub not_between : (default least most : ℕ) → default ≡ (if has_bound (codes "greater-equal") row then 32 else prefix.len)
        → IsBound (get (codes "greater-equal") row) prefix.len least → IsBound (get (codes "less-equal") row) default most
        → ¬ (AreBounds prefix.len least most) → StandsForNone IsPatternRow row
    not_between default least most same low high none pattern is =
        let one = bound_once (get (codes "greater-equal") row) prefix.len pattern.least least (least_of pattern is) low in
        let two = bound_once (get (codes "less-equal") row) default pattern.most most
        (subst (λ len. IsBound (get (codes "less-equal") row) len pattern.most) (sym same) (most_of pattern is)) high in
        none (subst (λ n. AreBounds n least most) (same_len pattern is)
        (subst (λ n. AreBounds pattern.prefix.len n most) one (subst (λ n. AreBounds pattern.prefix.len pattern.least n) two is.3)))
