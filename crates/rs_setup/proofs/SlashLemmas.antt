-- A text is cut at its first slash in one way, and there the address of a subnet ends.
use Rattle.std.proofs.Common.{◌≡◌, ◌≢◌, ◌∙◌, ◌<◌, ◌≤◌, ◌+◌, ◌/◌, ◌%◌, ◌^◌, ◌⊎◌, ◌==◌, ℕ, List, [], ◌∷◌, ◌++◌, length, take, get_or, codes}
use Rattle.std.proofs.Common.{decimal, Option, None, Some, Bor, inl, inr, subst, sym, ap, refl, arith, append_assoc}
use Rattle.std.proofs.lemmas.Bool.{cases_lt, eqb-false}
use Rattle.std.proofs.lemmas.Fmt.{decimal_by_steps, decimal_digit, decimal_injective, decimal_step}
use Rattle.std.proofs.lemmas.List.{get_or-take, length-take}
use Rattle.std.proofs.lemmas.List.Elements.{All-append, All-cons, All-from_get_or, All-head, All-nil, All-push, All-tail}
use Rattle.std.proofs.lemmas.List.Sums.{fails_before_first}
use Rattle.std.specs.List.{position_or_len, before_first, after_first}
use Rattle.std.specs.Net.Grammar.{IsDotted}
use Rattle.std.specs.Prelude.{◌↔◌, IfNone, IfSome, IsSome, MatchOption}
use Rattle.rs_update.specs.IpPrefix.{IpPrefix}
use Rattle.rs_setup.specs.Values.{HasNoSlash, IsDottedAddress, IsSlashedSubnet, StandsForNone}

-- before the first slash there is none
none_before : (text : List ℕ) → HasNoSlash (before_first (λ octet. octet == 47) text)
none_before text =
    let place = position_or_len (λ octet. octet == 47) text in
    All-from_get_or (λ octet. octet ≢ 47) (take place text) 0 (λ i within.
    let before : i < place = omega (arith, within, length-take place text) in
    let same : get_or (take place text) i 0 ≡ get_or text i 0 = get_or-take place text i 0 before in
    λ slash. eqb-false (get_or text i 0) 47 (fails_before_first (λ octet. octet == 47) text i 0 before) (sym same ∙ slash))

-- nor is there any where none is found
none_at_all : (text : List ℕ) → position_or_len (λ octet. octet == 47) text ≡ length text → HasNoSlash text
none_at_all text whole = All-from_get_or (λ octet. octet ≢ 47) text 0 (λ i within.
    eqb-false (get_or text i 0) 47 (fails_before_first (λ octet. octet == 47) text i 0 (omega (arith, within, whole))))

-- the same of the parts that a split at the first slash gives
pub first_slash : (text : List ℕ) (parts : Option (Bor (List ℕ) × Bor (List ℕ)))
    → MatchOption parts (position_or_len (λ octet. octet == 47) text ≡ length text)
    (λ both. (both.0.now ≡ before_first (λ octet. octet == 47) text) × (both.1.now ≡ after_first (λ octet. octet == 47) text)
    × (position_or_len (λ octet. octet == 47) text < length text))
    → IfSome parts (λ both. HasNoSlash both.0.now)
first_slash text None none = tt
first_slash text (Some both) (front, back, found) = subst HasNoSlash (sym front) (none_before text)

pub no_slash : (text : List ℕ) (parts : Option (Bor (List ℕ) × Bor (List ℕ)))
    → MatchOption parts (position_or_len (λ octet. octet == 47) text ≡ length text)
    (λ both. (both.0.now ≡ before_first (λ octet. octet == 47) text) × (both.1.now ≡ after_first (λ octet. octet == 47) text)
    × (position_or_len (λ octet. octet == 47) text < length text))
    → IfNone parts (HasNoSlash text)
no_slash text None none = none_at_all text none
no_slash text (Some both) found = tt

-- a decimal number has none, nor has a dotted address
decimal_slash : (n : ℕ) → n < 2 ^ 64 → HasNoSlash (decimal n)
decimal_slash = decimal_by_steps (λ n text. HasNoSlash text)
    (λ n small. All-cons (λ octet. octet ≢ 47) (48 + n) [] (λ e. omega (arith, e)) (All-nil (λ octet. octet ≢ 47)))
    (λ n text large before. All-push (λ octet. octet ≢ 47) text (48 + n % 10) before (λ e. omega (arith, e)))

dot_slash : HasNoSlash (codes ".")
dot_slash = All-cons (λ octet. octet ≢ 47) 46 [] (λ e. omega (arith, e)) (All-nil (λ octet. octet ≢ 47))

join_slash : (front back : List ℕ) → HasNoSlash front → HasNoSlash back → HasNoSlash (front ++ back)
join_slash = All-append (λ octet. octet ≢ 47)

octet_slash : (front : List ℕ) (n : ℕ) → HasNoSlash front → n < 256 → HasNoSlash (front ++ codes "." ++ decimal n)
octet_slash front n before small =
    join_slash (front ++ codes ".") (decimal n) (join_slash front (codes ".") before dot_slash) (decimal_slash n (omega (arith, small)))

dotted_slash : (text octets : List ℕ) → IsDotted text octets → HasNoSlash text
dotted_slash text octets dotted =
    let one = decimal_slash dotted.a (omega (arith, dotted.fit.0)) in
    subst HasNoSlash (sym dotted.spelled)
    (octet_slash (decimal dotted.a ++ codes "." ++ decimal dotted.b ++ codes "." ++ decimal dotted.c) dotted.d
    (octet_slash (decimal dotted.a ++ codes "." ++ decimal dotted.b) dotted.c (octet_slash (decimal dotted.a) dotted.b one dotted.fit.1)
    dotted.fit.2) dotted.fit.3)

-- so a text is cut in one way
cut_once : (front start back later : List ℕ) → HasNoSlash front → HasNoSlash start → front ++ 47 ∷ back ≡ start ++ 47 ∷ later
    → (front ≡ start) × (back ≡ later)
cut_once [] [] back later none other same = (refl, cc)
cut_once [] (x ∷ start) back later none other same =
    let slash : x ≡ 47 = cc in
    absurd (All-head (λ octet. octet ≢ 47) x start other slash)
cut_once (x ∷ front) [] back later none other same =
    let slash : x ≡ 47 = cc in
    absurd (All-head (λ octet. octet ≢ 47) x front none slash)
cut_once (x ∷ front) (y ∷ start) back later none other same =
    let first : x ≡ y = cc in
    let rest : front ++ 47 ∷ back ≡ start ++ 47 ∷ later = cc in
    let cut = cut_once front start back later (All-tail (λ octet. octet ≢ 47) x front none) (All-tail (λ octet. octet ≢ 47) y start other)
    rest in
    (ap (λ (more : List ℕ). x ∷ more) cut.0 ∙ ap (λ one. one ∷ start) first, cut.1)

-- a subnet is its text's front and back
parts_of_subnet : (text front back : List ℕ) (prefix : IpPrefix) → text ≡ front ++ codes "/" ++ back → HasNoSlash front
    → IsSlashedSubnet text prefix
    → (address len : ℕ) × IsDottedAddress front address × (back ≡ decimal len) × (len ≤ 32)
parts_of_subnet text front back prefix split none (start, address, len, spelled, (octets, dotted, is), small, value) =
    let cut = cut_once front start back (decimal len) none (dotted_slash start octets dotted)
    (sym (split ∙ append_assoc front (47 ∷ []) back) ∙ (spelled ∙ append_assoc start (47 ∷ []) (decimal len))) in
    (address, len, subst (λ one. IsDottedAddress one address) (sym cut.0) (octets, dotted, is), cut.1, small)

-- a text without a slash is no subnet
pub without_slash : (text : List ℕ) → HasNoSlash text → StandsForNone IsSlashedSubnet text
without_slash text none prefix (start, address, len, spelled, (octets, dotted, is), small, value) =
    let slashed = subst HasNoSlash (spelled ∙ append_assoc start (47 ∷ []) (decimal len)) none in
    slash_within start (decimal len) slashed
  where
    slash_within : (start back : List ℕ) → HasNoSlash (start ++ 47 ∷ back) → ⊥
    slash_within [] back none = All-head (λ octet. octet ≢ 47) 47 back none refl
    slash_within (x ∷ start) back none = slash_within start back (All-tail (λ octet. octet ≢ 47) x (start ++ 47 ∷ back) none)

-- nor is one whose front is no address
pub no_front : (text front back : List ℕ) → text ≡ front ++ codes "/" ++ back → HasNoSlash front → StandsForNone IsDottedAddress front
    → StandsForNone IsSlashedSubnet text
no_front text front back split none address prefix is =
    let parts = parts_of_subnet text front back prefix split none is in
    address parts.0 parts.2

-- nor one whose back is no number below 100
pub no_back : (text front back : List ℕ) → text ≡ front ++ codes "/" ++ back → HasNoSlash front
    → ((len : ℕ) → len < 100 → ¬ (back ≡ decimal len)) → StandsForNone IsSlashedSubnet text
no_back text front back split none length prefix is =
    let parts = parts_of_subnet text front back prefix split none is in
    length parts.1 (omega (arith, parts.4)) parts.3

-- nor one whose back is above 32
pub long_back : (text front back : List ℕ) (len : ℕ) → text ≡ front ++ codes "/" ++ back → HasNoSlash front → back ≡ decimal len → len < 256
    → ¬ (len ≤ 32) → StandsForNone IsSlashedSubnet text
long_back text front back len split none is small long prefix subnet =
    let parts = parts_of_subnet text front back prefix split none subnet in
    let same : len ≡ parts.1 = decimal_injective len parts.1 (omega (arith, small)) (omega (arith, parts.4)) (sym is ∙ parts.3) in
    long (omega (arith, same, parts.4))

-- where there is a prefix for lengths up to 32 alone
pub none_beyond : {A : Type 0} {P : Type 0} (found : Option A) (len : ℕ) → IsSome found ↔ (len ≤ 32) → (¬ (len ≤ 32) → P) → IfNone found P
none_beyond None len fits beyond = beyond (λ small. absurd (cc (fits.1 small)))
none_beyond (Some x) len fits beyond = tt

-- how a number below 100 is written
pub decimal_places : (text : List ℕ) (len : ℕ) → len < 100 → text ≡ decimal len
    → ((length text ≡ 1) × (48 ≤ get_or text 0 0) × (get_or text 0 0 < 58))
    ⊎ ((length text ≡ 2) × (49 ≤ get_or text 0 0) × (get_or text 0 0 < 58) × (48 ≤ get_or text 1 0) × (get_or text 1 0 < 58))
decimal_places text len small is = elim (cases_lt len 10) [
  | inl one ↦
      let spelled : text ≡ (48 + len) ∷ [] = is ∙ decimal_digit len one in
      rw spelled (inl (refl, omega arith, omega arith))
  | inr two ↦
      let spelled : text ≡ (48 + len / 10) ∷ (48 + len % 10) ∷ [] =
      is ∙ decimal_step len two (omega (arith, small)) ∙ rw (decimal_digit (len / 10) (omega arith)) refl in
      rw spelled (inr (refl, omega arith, omega arith, omega arith, omega arith))
]
