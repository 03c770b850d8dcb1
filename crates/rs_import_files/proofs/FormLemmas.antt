-- Prefixes, ranges and patterns as texts: each is put together from its parts in one way, so a wrong part makes the text stand for nothing.
use Rattle.std.proofs.Common.{◌≡◌, ◌≢◌, ◌∙◌, ◌≤◌, ℕ, List, ◌++◌, codes, inl, inr, subst, sym, ap, arith}
use Rattle.std.proofs.Common.{append_assoc}
use Rattle.std.proofs.lemmas.List.{append-nil}
use Rattle.rs_types.specs.IpPrefix.{IpPrefix, IsPrefix}
use Rattle.rs_types.specs.declared.as_range.AsRange.{AsRange}
use Rattle.rs_types.specs.declared.pattern.Pattern.{Pattern}
use Rattle.rs_import_files.specs.Texts.{AreBounds, AreWritten, IsAsEntry, IsAsNumber, IsAsRange, IsDottedAddress, IsLength, IsNumber}
use Rattle.rs_import_files.specs.Texts.{IsPattern, IsPrefixText, IsSpan, Lacks, StandsForNone}
use Rattle.rs_import_files.proofs.NoneLemmas.{NoDigit, address_lacks, address_once, length_lacks, length_once, no_end, no_parts, number_lacks}
use Rattle.rs_import_files.proofs.NoneLemmas.{number_once, parts_once, prefix_lacks, push_once}

-- the marks are no digits
slash : NoDigit 47
slash digit small is = omega (arith, is)

dash : NoDigit 45
dash digit small is = omega (arith, is)

comma : NoDigit 44
comma digit small is = omega (arith, is)

plus : NoDigit 43
plus digit small is = omega (arith, is)

brace : NoDigit 123
brace digit small is = omega (arith, small, is)

-- ---- prefixes

module _ (text front back : List ℕ) (split : text ≡ front ++ codes "/" ++ back) (first : Lacks 47 front) where
  prefix_parts : (prefix : IpPrefix) → IsPrefixText text prefix
      → IsDottedAddress front prefix.address × IsLength back prefix.len × IsPrefix prefix.address prefix.len
  prefix_parts prefix (start, later, other, address, len, is) =
      let cut = parts_once 47 text front back start later split first other
      (address_lacks 47 slash (λ dot. omega (arith, dot)) start prefix.address address) in (
        subst (λ one. IsDottedAddress one prefix.address) (sym cut.0) address,
        subst (λ one. IsLength one prefix.len) (sym cut.1) len,
        is,
      )

  pub no_front : StandsForNone IsDottedAddress front → StandsForNone IsPrefixText text
  no_front none prefix is = none prefix.address (prefix_parts prefix is).0

  pub no_back : StandsForNone IsLength back → StandsForNone IsPrefixText text
  no_back none prefix is = none prefix.len (prefix_parts prefix is).1

  pub host_bits : (address len : ℕ) → IsDottedAddress front address → IsLength back len → ¬ (IsPrefix address len)
      → StandsForNone IsPrefixText text
  host_bits address len here there none prefix is =
      let parts = prefix_parts prefix is in
      let one : prefix.address ≡ address = address_once front prefix.address address parts.0 here in
      let two : prefix.len ≡ len = length_once back prefix.len len parts.1 there in
      none (subst (λ n. IsPrefix n len) one (subst (λ n. IsPrefix prefix.address n) two parts.2))

-- the length of the prefix that a text is
pub prefix_len_once : (text : List ℕ) (one other : IpPrefix) → IsPrefixText text one → IsPrefixText text other → one.len ≡ other.len
prefix_len_once text one other (front, back, split, address, len, is) also =
    length_once back one.len other.len len
    (prefix_parts text front back split (address_lacks 47 slash (λ dot. omega (arith, dot)) front one.address address) other also).1

pub no_slash : (text : List ℕ) → Lacks 47 text → StandsForNone IsPrefixText text
no_slash text none prefix (start, later, split, address, len, is) = no_parts 47 text start later none split

-- ---- ranges

module _ (text front back : List ℕ) (split : text ≡ front ++ codes "-" ++ back) (first : Lacks 45 front) where
  span_parts : (range : AsRange) → IsSpan text range
      → IsNumber front range.first × IsNumber back range.last × (range.first ≤ range.last)
  span_parts range (start, later, other, low, high, ascends) =
      let cut = parts_once 45 text front back start later split first other (number_lacks 45 dash start range.first low) in
      (subst (λ one. IsNumber one range.first) (sym cut.0) low, subst (λ one. IsNumber one range.last) (sym cut.1) high, ascends)

  pub no_first : StandsForNone IsNumber front → StandsForNone IsSpan text
  no_first none range is = none range.first (span_parts range is).0

  pub no_last : StandsForNone IsNumber back → StandsForNone IsSpan text
  no_last none range is = none range.last (span_parts range is).1

  pub descends : (low high : ℕ) → IsNumber front low → IsNumber back high → ¬ (low ≤ high) → StandsForNone IsSpan text
  descends low high here there none range is =
      let parts = span_parts range is in
      let one : range.first ≡ low = number_once front range.first low parts.0 here in
      let two : range.last ≡ high = number_once back range.last high parts.1 there in
      none (omega (arith, parts.2, one, two))

pub no_dash : (text : List ℕ) → Lacks 45 text → StandsForNone IsSpan text
no_dash text none range (start, later, split, low, high, ascends) = no_parts 45 text start later none split

pub no_range : (text : List ℕ) → StandsForNone IsNumber text → StandsForNone IsSpan text → StandsForNone IsAsRange text
no_range text one two range (inl (is, same)) = one range.first is
no_range text one two range (inr is) = two range is

pub no_entry : (text : List ℕ) → StandsForNone IsAsNumber text → StandsForNone IsSpan text → StandsForNone IsAsEntry text
no_entry text one two range (inl (is, same)) = one range.first is
no_entry text one two range (inr is) = two range is

-- ---- bounds

module _ (text front back : List ℕ) (split : text ≡ front ++ codes "," ++ back) (first : Lacks 44 front) where
  written_parts : (bounds : ℕ × ℕ) → AreWritten text bounds
      → IsLength front bounds.0 × ((high : List ℕ) × (back ≡ high ++ codes "}") × IsLength high bounds.1)
  written_parts bounds (low, high, other, least, most) =
      let cut = parts_once 44 text front back low (high ++ codes "}") split first (other ∙ append_assoc (low ++ codes ",") high (codes "}"))
      (length_lacks 44 comma low bounds.0 least) in
      (subst (λ one. IsLength one bounds.0) (sym cut.0) least, (high, cut.1, most))

  pub no_closing : ((high : List ℕ) → back ≢ high ++ codes "}") → StandsForNone AreWritten text
  no_closing none bounds are = let parts = written_parts bounds are in none parts.1.0 parts.1.1

  pub no_least : StandsForNone IsLength front → StandsForNone AreWritten text
  no_least none bounds are = none bounds.0 (written_parts bounds are).0

  pub no_most : (high : List ℕ) → back ≡ high ++ codes "}" → StandsForNone IsLength high → StandsForNone AreWritten text
  no_most high is none bounds are =
      let parts = written_parts bounds are in
      let same = push_once high parts.1.0 125 125 (sym is ∙ parts.1.1) in
      none bounds.1 (subst (λ one. IsLength one bounds.1) (sym same.0) parts.1.2)

-- the bounds that a text is
written_once : (text : List ℕ) (one other : ℕ × ℕ) → AreWritten text one → AreWritten text other → (one.0 ≡ other.0) × (one.1 ≡ other.1)
written_once text one other (low, high, split, least, most) are =
    let parts = written_parts text low (high ++ codes "}") (split ∙ append_assoc (low ++ codes ",") high (codes "}"))
    (length_lacks 44 comma low one.0 least) other are in
    let same = push_once high parts.1.0 125 125 parts.1.1 in (
      length_once low one.0 other.0 least parts.0,
      length_once high one.1 other.1 most (subst (λ text. IsLength text other.1) (sym same.0) parts.1.2),
    )

pub no_comma : (text : List ℕ) → Lacks 44 text → StandsForNone AreWritten text
no_comma text none bounds (low, high, split, least, most) =
    no_parts 44 text low (high ++ codes "}") none (split ∙ append_assoc (low ++ codes ",") high (codes "}"))

-- ---- patterns

-- what a pattern is whose text is a prefix and bounds
module _ (text front inside : List ℕ) (split : text ≡ front ++ codes "{" ++ inside) (first : Lacks 123 front) where
  bounded_parts : ((end : List ℕ) → text ≢ end ++ codes "+") → (pattern : Pattern) → IsPattern text pattern
      → IsPrefixText front pattern.prefix × AreWritten inside (pattern.least, pattern.most)
      × AreBounds pattern.prefix.len pattern.least pattern.most
  bounded_parts bare pattern (start, tail, other, is, inl (none, least, most)) =
      let whole : text ≡ start = other ∙ ap (λ (end : List ℕ). start ++ end) none ∙ append-nil start in
      absurd (no_parts 123 text front inside
      (subst (Lacks 123) (sym whole) (prefix_lacks 123 brace (λ dot. omega (arith, dot)) (λ slash. omega (arith, slash)) start pattern.prefix is)) split)
  bounded_parts bare pattern (start, tail, other, is, inr (inl (more, least, most))) =
      absurd (bare start (other ∙ ap (λ (end : List ℕ). start ++ end) more))
  bounded_parts bare pattern (start, tail, other, is, inr (inr (within, braced, written, bounds))) =
      let cut = parts_once 123 text front inside start within split first
      (other ∙ ap (λ (end : List ℕ). start ++ end) braced ∙ sym (append_assoc start (codes "{") within))
      (prefix_lacks 123 brace (λ dot. omega (arith, dot)) (λ slash. omega (arith, slash)) start pattern.prefix is) in (
        subst (λ one. IsPrefixText one pattern.prefix) (sym cut.0) is,
        subst (λ one. AreWritten one (pattern.least, pattern.most)) (sym cut.1) written,
        bounds,
      )

  pub no_bounded_prefix : ((end : List ℕ) → text ≢ end ++ codes "+") → StandsForNone IsPrefixText front → StandsForNone IsPattern text
  no_bounded_prefix bare none pattern is = none pattern.prefix (bounded_parts bare pattern is).0

  pub no_written : ((end : List ℕ) → text ≢ end ++ codes "+") → StandsForNone AreWritten inside → StandsForNone IsPattern text
  no_written bare none pattern is = none (pattern.least, pattern.most) (bounded_parts bare pattern is).1

  pub out_of_bounds : ((end : List ℕ) → text ≢ end ++ codes "+") → (prefix : IpPrefix) (bounds : ℕ × ℕ) → IsPrefixText front prefix
      → AreWritten inside bounds → ¬ (AreBounds prefix.len bounds.0 bounds.1) → StandsForNone IsPattern text
  out_of_bounds bare prefix bounds here there none pattern is =
      let parts = bounded_parts bare pattern is in
      let len : pattern.prefix.len ≡ prefix.len = prefix_len_once front pattern.prefix prefix parts.0 here in
      let same = written_once inside (pattern.least, pattern.most) bounds parts.1 there in
      none (subst (λ n. AreBounds n bounds.0 bounds.1) len (subst (λ n. AreBounds pattern.prefix.len n bounds.1) same.0
      (subst (λ n. AreBounds pattern.prefix.len pattern.least n) same.1 parts.2)))

-- a text with neither a plus at its end nor a brace is a pattern only if it is a prefix
pub no_prefix : (text : List ℕ) → Lacks 123 text → ((end : List ℕ) → text ≢ end ++ codes "+") → StandsForNone IsPrefixText text
    → StandsForNone IsPattern text
no_prefix text unbraced bare none pattern (start, tail, other, is, inl (empty, least, most)) =
    let whole : text ≡ start = other ∙ ap (λ (end : List ℕ). start ++ end) empty ∙ append-nil start in
    none pattern.prefix (subst (λ one. IsPrefixText one pattern.prefix) (sym whole) is)
no_prefix text unbraced bare none pattern (start, tail, other, is, inr (inl (more, least, most))) =
    bare start (other ∙ ap (λ (end : List ℕ). start ++ end) more)
no_prefix text unbraced bare none pattern (start, tail, other, is, inr (inr (within, braced, written, bounds))) =
    no_parts 123 text start within unbraced
    (other ∙ ap (λ (end : List ℕ). start ++ end) braced ∙ sym (append_assoc start (codes "{") within))

-- a text with a plus at its end is a pattern only if a prefix stands before it
pub no_plus_prefix : (text front : List ℕ) → text ≡ front ++ codes "+" → StandsForNone IsPrefixText front → StandsForNone IsPattern text
no_plus_prefix text front split none pattern (start, tail, other, is, inl (empty, least, most)) =
    let whole : text ≡ start = other ∙ ap (λ (end : List ℕ). start ++ end) empty ∙ append-nil start in
    no_end 43 text front
    (subst (Lacks 43) (sym whole) (prefix_lacks 43 plus (λ dot. omega (arith, dot)) (λ slash. omega (arith, slash)) start pattern.prefix is)) split
no_plus_prefix text front split none pattern (start, tail, other, is, inr (inl (more, least, most))) =
    let same = push_once front start 43 43 (sym split ∙ (other ∙ ap (λ (end : List ℕ). start ++ end) more)) in
    none pattern.prefix (subst (λ one. IsPrefixText one pattern.prefix) (sym same.0) is)
no_plus_prefix text front split none pattern (start, tail, other, is, inr (inr (within, braced, (low, high, inside, least, most), bounds))) =
    let closed : text ≡ (start ++ (codes "{" ++ (low ++ codes "," ++ high))) ++ codes "}" =
    other ∙ ap (λ (end : List ℕ). start ++ end) (braced ∙ ap (λ (end : List ℕ). codes "{" ++ end) inside
    ∙ sym (append_assoc (codes "{") (low ++ codes "," ++ high) (codes "}")))
    ∙ sym (append_assoc start (codes "{" ++ (low ++ codes "," ++ high)) (codes "}")) in
    let same = push_once front (start ++ (codes "{" ++ (low ++ codes "," ++ high))) 43 125 (sym split ∙ closed) in
    omega (arith, same.1)
