-- A prefix is read exactly where a front of the octets spells it.
-- For prefix.rt, `field_concerns` of concerns.rt, `a_field_is_one_list_of_prefixes` of laws.rt, and the lemmas of messages.
use Rattle.std.proofs.Common.{◌≡◌, ℕ, zero, suc, ◌+◌, ◌-◌, ◌*◌, ◌/◌, ◌^◌, ◌%◌, ◌<◌, ◌≤◌, cond, ltb, eqb, List, [], ◌∷◌, ◌++◌, length, take}
use Rattle.std.proofs.Common.{drop, Some, None, refl, sym, ap, subst, ◌∙◌, length-append, length-drop, arith, inl, inr}
use Rattle.std.proofs.lemmas.Bool.{ltb-false, le-ltb, eq-eqb, eqb-true, ne_eqb, cases_eq}
use Rattle.std.proofs.lemmas.List.{take_at, drop_at, take-append-drop, length-take-le, get_or_past, nil_from_length}
use Rattle.std.proofs.lemmas.Nat.{pow-add}
use Rattle.std.proofs.lemmas.Option.{some_pair_parts, none-some, cond_some}
use Rattle.std.specs.Prelude.{◌↔◌}
use Rattle.std.specs.Option.{option_map}
use Rattle.std.proofs.Math.Nat.{mul-div_cancel, mul-div-mul_right, mul-mod_left, one-le-pow, div-add-mod'}
use Rattle.byteorder.specs.Endian.{big_number}
use Rattle.rs_types.specs.IpPrefix.{IpPrefix}
use Rattle.rs_types.specs.Prefix.{network_of, octets_for, Spells, IsField, prefix_at, prefixes_of}
use Rattle.rs_types.specs.Parts.{AreOctets, IsSpelledBy, IsNoPart, parts_within, parts_of}
use Rattle.rs_types.proofs.fields.PartsLemmas.{Shrinks, Reads, unless_some, parts_of-some, parts_of-none, parts_of-whole, whole-parts_of}

-- ---- numbers

two_pos : (n : ℕ) → 0 < 2 ^ n
two_pos n = let h = one-le-pow n 2 (omega arith) in omega arith

-- four octets, of which the last ones are missing and count as 0
padded : (k : ℕ) (body : List ℕ) → k ≤ 4 → length body ≡ k → big_number 4 body ≡ big_number k body * 2 ^ (8 * (4 - k))
padded zero body le len =
    omega (
      arith,
      get_or_past body 0 0 (omega arith),
      get_or_past body 1 0 (omega arith),
      get_or_past body 2 0 (omega arith),
      get_or_past body 3 0 (omega arith),
    )
padded (suc zero) body le len =
    omega (arith, get_or_past body 1 0 (omega arith), get_or_past body 2 0 (omega arith), get_or_past body 3 0 (omega arith))
padded (suc (suc zero)) body le len = omega (arith, get_or_past body 2 0 (omega arith), get_or_past body 3 0 (omega arith))
padded (suc (suc (suc zero))) body le len = omega (arith, get_or_past body 3 0 (omega arith))
padded (suc (suc (suc (suc zero)))) body le len = omega arith
padded (suc (suc (suc (suc (suc k))))) body le len = absurd (omega arith)

-- the first bits of an address are those of the octets that there are
first_bits : (len : ℕ) (body : List ℕ) → len ≤ 32 → length body ≡ octets_for len
    → big_number 4 body / 2 ^ (32 - len) ≡ big_number (octets_for len) body / 2 ^ (8 * octets_for len - len)
first_bits len body le count =
    let k = octets_for len in
    let few : k ≤ 4 = omega arith in
    let e : 32 - len ≡ (8 * k - len) + 8 * (4 - k) = omega arith in
    let split : 2 ^ (32 - len) ≡ 2 ^ (8 * k - len) * 2 ^ (8 * (4 - k)) = ap (λ (n : ℕ). 2 ^ n) e ∙ pow-add 2 (8 * k - len) (8 * (4 - k)) in
    rw (padded k body few count, split) (mul-div-mul_right (big_number k body) (2 ^ (8 * k - len)) (two_pos (8 * (4 - k))))

-- an address whose other bits are 0 is its first bits
from_bits : (address unit : ℕ) → address % unit ≡ 0 → address / unit * unit ≡ address
from_bits address unit none = let e = div-add-mod' address unit in omega arith

-- ---- one prefix

-- what is read takes its length and the octets that hold so many bits
pub record IsFront (len : ℕ) (octets : List ℕ) (prefix : IpPrefix) (rest : List ℕ) : Type 0 where
  pub short : len ≤ 32
  pub enough : octets_for len ≤ length octets
  pub prefix_is : network_of (big_number 4 (take (octets_for len) octets)) len ≡ prefix
  pub rest_is : drop (octets_for len) octets ≡ rest

pub prefix_at-front : (len : ℕ) (octets : List ℕ) (prefix : IpPrefix) (rest : List ℕ) → prefix_at (len ∷ octets) ≡ Some (prefix, rest)
    → IsFront len octets prefix rest
unfolding prefix_at
prefix_at-front len octets prefix rest e =
    let first = unless_some (ltb 32 len) _ (prefix, rest) e in
    let second = unless_some (ltb (length octets) (octets_for len)) _ (prefix, rest) first.1 in
    let parts = some_pair_parts (network_of (big_number 4 (take (octets_for len) octets)) len) prefix (drop (octets_for len) octets)
    rest second.1 in
    record { short = ltb-false _ _ first.0; enough = ltb-false _ _ second.0; prefix_is = parts.0; rest_is = parts.1 }

-- a prefix takes at least the octet of its length
pub prefix_at-shrinks : (octets : List ℕ) (prefix : IpPrefix) (rest : List ℕ) → prefix_at octets ≡ Some (prefix, rest)
    → length rest < length octets
unfolding prefix_at
prefix_at-shrinks [] prefix rest e = absurd cc
prefix_at-shrinks (len ∷ octets) prefix rest e =
    let front = prefix_at-front len octets prefix rest e in
    omega (arith, length-drop (octets_for len) octets, ap length front.rest_is)

pub prefix_shrinks : Shrinks prefix_at
prefix_shrinks = record { shrinks = prefix_at-shrinks }

-- what is read is spelled so
pub prefix_at-found : (octets : List ℕ) (prefix : IpPrefix) (rest : List ℕ) → prefix_at octets ≡ Some (prefix, rest) → (front : List ℕ)
    × (octets ≡ front ++ rest) × Spells front prefix
unfolding prefix_at
prefix_at-found [] prefix rest e = absurd cc
prefix_at-found (len ∷ octets) prefix rest e =
    let front = prefix_at-front len octets prefix rest e in
    let body = take (octets_for len) octets in
    let unit = 2 ^ (32 - len) in
    let count : length body ≡ octets_for len = length-take-le (octets_for len) octets front.enough in
    let bits = first_bits len body front.short count in
    let cut : big_number 4 body / unit * unit / unit ≡ big_number 4 body / unit =
    mul-div_cancel (big_number 4 body / unit) (two_pos (32 - len)) in
    let parts : len ∷ octets ≡ len ∷ (body ++ rest) =
    ap (λ (xs : List ℕ). len ∷ xs) (sym (take-append-drop (octets_for len) octets) ∙ ap (λ (xs : List ℕ). body ++ xs) front.rest_is) in (
      len ∷ body,
      parts,
      subst (Spells (len ∷ body)) front.prefix_is
          (refl, count, sym bits ∙ sym cut, (front.short, mul-mod_left (big_number 4 body / unit) unit)),
    )

-- what is spelled so is read
pub prefix_at-only : (front rest : List ℕ) (prefix : IpPrefix) → Spells front prefix → prefix_at (front ++ rest) ≡ Some (prefix, rest)
unfolding prefix_at
prefix_at-only [] rest prefix spells = absurd spells
prefix_at-only (len ∷ body) rest prefix spells =
    let short : len ≤ 32 = omega arith in
    let enough : octets_for len ≤ length (body ++ rest) = omega (arith, length-append body rest) in
    let unit = 2 ^ (32 - len) in
    let none : prefix.address % unit ≡ 0 = rw spells.0 spells.3.1 in
    let address : big_number 4 body / unit * unit ≡ prefix.address =
    ap (λ (bits : ℕ). bits * unit) (first_bits len body short spells.1 ∙ spells.2) ∙ from_bits prefix.address unit none in
    let make : ℕ → ℕ → IpPrefix = λ a n. record { address = a; len = n } in
    let same : network_of (big_number 4 body) len ≡ prefix =
    ap (λ (a : ℕ). make a len) address ∙ ap (λ (n : ℕ). make prefix.address n) spells.0 in
    rw (
      le-ltb 32 len short,
      le-ltb (length (body ++ rest)) (octets_for len) enough,
      take_at body rest (octets_for len) spells.1,
      drop_at body rest (octets_for len) spells.1,
    ) (ap (λ (p : IpPrefix). Some (p, rest)) same)

pub prefix_reads : Reads prefix_at Spells
prefix_reads = record { found = λ octets prefix rest are e. prefix_at-found octets prefix rest e; only = prefix_at-only }

-- ---- a field, prefix after prefix

-- a prefix in front, and those behind it
pub prefixes_more : (octets : List ℕ) (prefix : IpPrefix) (rest : List ℕ) → Some (prefix, rest) ≡ prefix_at octets
    → parts_of prefix_at octets ≡ (prefix ∷ (parts_of prefix_at rest).0, (parts_of prefix_at rest).1)
prefixes_more octets prefix rest e = parts_of-some prefix_at prefix_shrinks octets prefix rest (sym e)

-- no prefix in front
pub prefixes_end : (octets : List ℕ) → None ≡ prefix_at octets → parts_of prefix_at octets ≡ ([], octets)
prefixes_end octets e = parts_of-none prefix_at octets (sym e)

-- what a list of prefixes is, by what is left over
listed : {X : Type 0} (left_over : List ℕ) (x : X) → length left_over ≡ 0 → cond (eqb (length left_over) 0) (Some x) None ≡ Some x
listed left_over x none = rw (eq-eqb (length left_over) 0 none) refl

not_listed : {X : Type 0} (left_over : List ℕ) (x : X) → (length left_over ≡ 0 → ⊥) → cond (eqb (length left_over) 0) (Some x) None ≡ None
not_listed left_over x some = rw (ne_eqb (length left_over) 0 some) refl

-- all prefixes were counted
pub counted_all : (field rest : List ℕ) (count : ℕ) → count + length (parts_of prefix_at rest).0 ≡ length (parts_of prefix_at field).0
    → (parts_of prefix_at rest).1 ≡ (parts_of prefix_at field).1
    → None ≡ prefix_at rest → length rest ≡ 0 → Some count ≡ option_map length (prefixes_of field)
counted_all field rest count counted left_over none empty =
    let end = prefixes_end rest none in
    let over : length (parts_of prefix_at field).1 ≡ 0 = ap length (sym left_over ∙ ap (λ parts. parts.1) end) ∙ empty in
    let all : count ≡ length (parts_of prefix_at field).0 = omega (arith, counted, ap (λ parts. length parts.0) end) in
    ap (λ (n : ℕ). Some n) all ∙ sym (ap (option_map length) (listed (parts_of prefix_at field).1 (parts_of prefix_at field).0 over))

-- octets that begin no prefix are left over
pub counted_none : (field rest : List ℕ) → (parts_of prefix_at rest).1 ≡ (parts_of prefix_at field).1 → None ≡ prefix_at rest
    → (length rest ≡ 0 → ⊥) → None ≡ option_map length (prefixes_of field)
counted_none field rest left_over none some =
    let end = prefixes_end rest none in
    let over : length (parts_of prefix_at field).1 ≡ length rest = ap length (sym left_over ∙ ap (λ parts. parts.1) end) in
    sym (ap (option_map length) (not_listed (parts_of prefix_at field).1 (parts_of prefix_at field).0 (λ e. some (sym over ∙ e))))

-- a field that has a count has its prefixes
pub listed_all : (field : List ℕ) (count : ℕ) (prefixes : List IpPrefix) → option_map length (prefixes_of field) ≡ Some count
    → prefixes ≡ (parts_of prefix_at field).0 → prefixes_of field ≡ Some prefixes
listed_all field count prefixes counted all =
    elim (cases_eq (length (parts_of prefix_at field).1) 0) [
      | inl none ↦ listed (parts_of prefix_at field).1 (parts_of prefix_at field).0 none ∙ ap (λ (ps : List IpPrefix). Some ps) (sym all)
      | inr some ↦ absurd
          (none-some count (sym (ap (option_map length) (not_listed (parts_of prefix_at field).1 (parts_of prefix_at field).0 some))
          ∙ counted))
    ]

-- ---- a field as a whole

-- nothing spells no prefix
nothing_spells : IsNoPart Spells []
nothing_spells [] behind prefix parts spells = spells
nothing_spells (octet ∷ front) behind prefix parts spells = absurd cc

-- what a field lists is what it spells, and nothing is left over
pub field_is_read : (octets : List ℕ) (prefixes : List IpPrefix) → AreOctets octets
    → (IsField octets prefixes ↔ (prefixes_of octets ≡ Some prefixes))
field_is_read octets prefixes are = (
  λ field.
      let whole = whole-parts_of prefix_at Spells prefix_shrinks prefix_reads octets prefixes [] are (field, nothing_spells) in
      listed (parts_of prefix_at octets).1 (parts_of prefix_at octets).0 (ap (λ parts. length parts.1) whole)
      ∙ ap (λ parts. Some parts.0) whole,
  λ e.
      let parts = cond_some (eqb (length (parts_of prefix_at octets).1) 0) (parts_of prefix_at octets).0 prefixes e in
      let none : (parts_of prefix_at octets).1 ≡ [] = nil_from_length _ (eqb-true _ _ parts.0) in
      let whole = parts_of-whole prefix_at Spells prefix_shrinks prefix_reads octets are in
      subst (λ (rest : List ℕ). IsSpelledBy Spells octets prefixes rest) none
      (subst (λ (listed : List IpPrefix). IsSpelledBy Spells octets listed (parts_of prefix_at octets).1) parts.1 whole.0),
)

-- an empty field lists no prefix
pub no_prefix : prefixes_of [] ≡ Some []
unfolding parts_within
no_prefix = refl

-- octets that are a field list a prefix
pub some_prefix : (octet : ℕ) (octets : List ℕ) (prefixes : List IpPrefix) → prefixes_of (octet ∷ octets) ≡ Some prefixes
    → 0 < length prefixes
some_prefix octet octets prefixes e =
    let field = octet ∷ octets in
    let parts = cond_some (eqb (length (parts_of prefix_at field).1) 0) (parts_of prefix_at field).0 prefixes e in
    let none : length (parts_of prefix_at field).1 ≡ 0 = eqb-true _ _ parts.0 in
    elim (prefix_at field) as (λ o. prefix_at field ≡ o → 0 < length prefixes) [
      | None ↦ λ end. let left = ap (λ (x : List IpPrefix × List ℕ). length x.1) (prefixes_end field (sym end)) in
          absurd (omega (arith, left, none))
      | Some split ↦ λ more. let count = ap (λ (x : List IpPrefix × List ℕ). length x.0) (prefixes_more field split.0 split.1 (sym more)) in
          omega (arith, count, ap (length {A = IpPrefix}) parts.1)
    ] refl
