-- Texts that stand for nothing: where a text is cut at a mark, and which marks a decimal number, an address and a prefix lack.
use Rattle.std.proofs.Common.{◌≡◌, ◌≢◌, ◌∙◌, ◌<◌, ◌≤◌, ◌+◌, ◌-◌, ◌/◌, ◌%◌, ◌^◌, ◌⊎◌, ◌==◌, ℕ, List, [], ◌∷◌, ◌++◌, length, take, drop}
use Rattle.std.proofs.Common.{get_or, codes, decimal, Option, None, Some, Result, Ok, Err, Bor, inl, inr, subst, sym, ap, refl, arith, lit≤, append_assoc}
use Rattle.std.proofs.NetLemmas.Ipv4.{read_ipv4_complete}
use Rattle.std.proofs.NetLemmas.Options.{same_parts}
use Rattle.std.proofs.lemmas.Bool.{eqb-false, eqb-true}
use Rattle.std.proofs.lemmas.Fmt.{decimal_by_steps, decimal_injective, parse-decimal}
use Rattle.std.proofs.lemmas.List.{get_or-take, length-take, take-append-drop, drop_all}
use Rattle.std.proofs.lemmas.List.Elements.{All-append, All-cons, All-from_get_or, All-head, All-nil, All-push, All-tail}
use Rattle.std.proofs.lemmas.List.Sums.{fails_before_first, passes_at_first, split_at_first}
use Rattle.std.proofs.lemmas.Str.{encode_ascii}
use Rattle.std.proofs.lemmas.Str.Pattern.{drop_at_char}
use Rattle.std.specs.Int.{w32, from_be_bytes}
use Rattle.std.specs.List.{after_first, before_first, position_or_len}
use Rattle.std.specs.Net.Grammar.{IsIpv4Text}
use Rattle.std.specs.Prelude.{◌↔◌, IfNone, IfSome, MatchOption}
use Rattle.std.specs.Result.{result_ok}
use Rattle.std.specs.Str.Parse.{ParsesUnsigned}
use Rattle.std.specs.Str.Pattern.{FindsCharSuffix, StripsSuffix}
use Rattle.std.specs.declared.net.ipv4_addr.Ipv4Addr.{Ipv4Addr}
use Rattle.rs_import_files.specs.Texts.{IsAsNumber, IsDottedAddress, IsLength, IsNumber, IsPrefixText, Lacks, StandsForNone}

-- what holds in any case holds where there is none
pub where_none : {A : Type 0} {P : Type 0} (found : Option A) → P → IfNone found P
where_none None holds = holds
where_none (Some x) holds = tt

-- where there is no value, what follows of that holds too
pub none_so : {A : Type 0} {N M : Type 0} (found : Option A) → (N → M) → IfNone found N → IfNone found M
none_so None so none = so none
none_so (Some x) so none = tt

-- a mark that is no decimal digit
abbrev pub NoDigit : ℕ → Type 0
NoDigit mark = (digit : ℕ) → digit < 10 → 48 + digit ≢ mark

module _ (mark : ℕ) where
  join_lacks : (front back : List ℕ) → Lacks mark front → Lacks mark back → Lacks mark (front ++ back)
  join_lacks = All-append (λ octet. octet ≢ mark)

  pub one_lacks : (octet : ℕ) → octet ≢ mark → Lacks mark (octet ∷ [])
  one_lacks octet other = All-cons (λ octet. octet ≢ mark) octet [] other (All-nil (λ octet. octet ≢ mark))

  -- a decimal number lacks each mark that is no digit
  pub decimal_lacks : NoDigit mark → (n : ℕ) → n < 2 ^ 64 → Lacks mark (decimal n)
  decimal_lacks none = decimal_by_steps (λ n text. Lacks mark text)
      (λ n small. one_lacks (48 + n) (none n small))
      (λ n text large before. All-push (λ octet. octet ≢ mark) text (48 + n % 10) before (none (n % 10) (omega arith)))

  pub number_lacks : NoDigit mark → (text : List ℕ) (n : ℕ) → IsNumber text n → Lacks mark text
  number_lacks none text n (is, small) = subst (Lacks mark) (sym is) (decimal_lacks none n (omega (arith, small)))

  pub length_lacks : NoDigit mark → (text : List ℕ) (n : ℕ) → IsLength text n → Lacks mark text
  length_lacks none text n (is, small) = subst (Lacks mark) (sym is) (decimal_lacks none n (omega (arith, small)))

  -- so does an address, if the mark is no dot
  octet_lacks : NoDigit mark → 46 ≢ mark → (front : List ℕ) (n : ℕ) → Lacks mark front → n < 256
      → Lacks mark (front ++ codes "." ++ decimal n)
  octet_lacks none dot front n before small =
      join_lacks (front ++ codes ".") (decimal n) (join_lacks front (codes ".") before (one_lacks 46 dot))
      (decimal_lacks none n (omega (arith, small)))

  pub address_lacks : NoDigit mark → 46 ≢ mark → (text : List ℕ) (address : ℕ) → IsDottedAddress text address → Lacks mark text
  address_lacks none dot text address (octets, dotted, is) =
      let one = decimal_lacks none dotted.a (omega (arith, dotted.fit.0)) in
      subst (Lacks mark) (sym dotted.spelled)
      (octet_lacks none dot (decimal dotted.a ++ codes "." ++ decimal dotted.b ++ codes "." ++ decimal dotted.c) dotted.d
      (octet_lacks none dot (decimal dotted.a ++ codes "." ++ decimal dotted.b) dotted.c
      (octet_lacks none dot (decimal dotted.a) dotted.b one dotted.fit.1) dotted.fit.2) dotted.fit.3)

  -- and a prefix, if the mark is no slash either
  pub prefix_lacks : NoDigit mark → 46 ≢ mark → 47 ≢ mark → (text : List ℕ) (prefix : _) → IsPrefixText text prefix → Lacks mark text
  prefix_lacks none dot slash text prefix (front, back, split, address, len, is) =
      subst (Lacks mark) (sym split)
      (join_lacks (front ++ codes "/") back
      (join_lacks front (codes "/") (address_lacks none dot front prefix.address address) (one_lacks 47 slash))
      (length_lacks none back prefix.len len))

  -- a text is cut at the first mark in one way
  cut_once : (front start back later : List ℕ) → Lacks mark front → Lacks mark start → front ++ mark ∷ back ≡ start ++ mark ∷ later
      → (front ≡ start) × (back ≡ later)
  cut_once [] [] back later none other same = (refl, cc)
  cut_once [] (x ∷ start) back later none other same =
      let here : x ≡ mark = cc in
      absurd (All-head (λ octet. octet ≢ mark) x start other here)
  cut_once (x ∷ front) [] back later none other same =
      let here : x ≡ mark = cc in
      absurd (All-head (λ octet. octet ≢ mark) x front none here)
  cut_once (x ∷ front) (y ∷ start) back later none other same =
      let first : x ≡ y = cc in
      let rest : front ++ mark ∷ back ≡ start ++ mark ∷ later = cc in
      let cut = cut_once front start back later (All-tail (λ octet. octet ≢ mark) x front none) (All-tail (λ octet. octet ≢ mark) y start other)
      rest in
      (ap (λ (more : List ℕ). x ∷ more) cut.0 ∙ ap (λ one. one ∷ start) first, cut.1)

  pub parts_once : (text front back start later : List ℕ) → text ≡ front ++ (mark ∷ []) ++ back → Lacks mark front
      → text ≡ start ++ (mark ∷ []) ++ later → Lacks mark start → (front ≡ start) × (back ≡ later)
  parts_once text front back start later split none other lacks =
      cut_once front start back later none lacks
      (sym (split ∙ append_assoc front (mark ∷ []) back) ∙ (other ∙ append_assoc start (mark ∷ []) later))

  -- a text that lacks the mark isn't cut there
  mark_within : (start later : List ℕ) → Lacks mark (start ++ mark ∷ later) → ⊥
  mark_within [] later none = All-head (λ octet. octet ≢ mark) mark later none refl
  mark_within (x ∷ start) later none = mark_within start later (All-tail (λ octet. octet ≢ mark) x (start ++ mark ∷ later) none)

  pub no_parts : (text start later : List ℕ) → Lacks mark text → text ≡ start ++ (mark ∷ []) ++ later → ⊥
  no_parts text start later none split = mark_within start later (subst (Lacks mark) (split ∙ append_assoc start (mark ∷ []) later) none)

  pub no_end : (text start : List ℕ) → Lacks mark text → text ≡ start ++ (mark ∷ []) → ⊥
  no_end text start none split = mark_within start [] (subst (Lacks mark) split none)

  -- what a split at the first mark gives
  abbrev Splits : List ℕ → Option (Bor (List ℕ) × Bor (List ℕ)) → Type 0
  Splits text parts =
      MatchOption parts (position_or_len (λ octet. octet == mark) text ≡ length text)
      (λ both. (both.0.now ≡ before_first (λ octet. octet == mark) text) × (both.1.now ≡ after_first (λ octet. octet == mark) text)
      × (position_or_len (λ octet. octet == mark) text < length text))

  pub parts_at : (text : List ℕ) (parts : Option (Bor (List ℕ) × Bor (List ℕ))) → Splits text parts
      → IfSome parts (λ both. text ≡ both.0.now ++ (mark ∷ []) ++ both.1.now)
  parts_at text None none = tt
  parts_at text (Some both) (front, back, found) =
      let place = position_or_len (λ octet. octet == mark) text in
      let here : get_or text place 0 ≡ mark = eqb-true (get_or text place 0) mark (passes_at_first (λ octet. octet == mark) text 0 found) in
      rw (front, back)
      (split_at_first (λ octet. octet == mark) text 0 found ∙ rw here
      (sym (append_assoc (take place text) (mark ∷ []) (after_first (λ octet. octet == mark) text))))

  pub first_part : (text : List ℕ) (parts : Option (Bor (List ℕ) × Bor (List ℕ))) → Splits text parts
      → IfSome parts (λ both. Lacks mark both.0.now)
  first_part text None none = tt
  first_part text (Some both) (front, back, found) =
      let place = position_or_len (λ octet. octet == mark) text in
      subst (Lacks mark) (sym front)
      (All-from_get_or (λ octet. octet ≢ mark) (take place text) 0 (λ i within.
      let before : i < place = omega (arith, within, length-take place text) in
      let same : get_or (take place text) i 0 ≡ get_or text i 0 = get_or-take place text i 0 before in
      λ is. eqb-false (get_or text i 0) mark (fails_before_first (λ octet. octet == mark) text i 0 before) (sym same ∙ is)))

  pub no_part : (text : List ℕ) (parts : Option (Bor (List ℕ) × Bor (List ℕ))) → Splits text parts → IfNone parts (Lacks mark text)
  no_part text None whole = All-from_get_or (λ octet. octet ≢ mark) text 0 (λ i within.
      eqb-false (get_or text i 0) mark (fails_before_first (λ octet. octet == mark) text i 0 (omega (arith, within, whole))))
  no_part text (Some both) found = tt

-- what a text is that ends with a mark, and one that doesn't
module _ (mark : ℕ) (text : List ℕ) (ascii : mark < 128) where
  pub last_part : (found : Option (Bor (List ℕ)))
      → MatchOption found (FindsCharSuffix mark text None) (λ front. StripsSuffix (FindsCharSuffix mark) text front.now)
      → IfSome found (λ front. text ≡ front.now ++ (mark ∷ []))
  last_part None none = tt
  last_part (Some front) (n, (width, at, bound), is, count) =
      let split : drop (length text - n) text ≡ mark ∷ drop (length text) text = drop_at_char mark text (length text - n) (length text) at ascii in
      let end : drop (length text) text ≡ [] = drop_all (length text) text (omega arith) in
      sym (take-append-drop (length text - n) text) ∙ rw (split, end, ← is) refl

  pub no_last_part : (found : Option (Bor (List ℕ)))
      → MatchOption found (FindsCharSuffix mark text None) (λ front. StripsSuffix (FindsCharSuffix mark) text front.now)
      → IfNone found ((front : List ℕ) → text ≢ front ++ (mark ∷ []))
  no_last_part None none = λ front is. none front (is ∙ ap (λ (end : List ℕ). front ++ end) (sym (encode_ascii mark ascii)))
  no_last_part (Some front) cut = tt

-- two texts with one more octet each are equal if both parts are
pub push_once : (front start : List ℕ) (x y : ℕ) → front ++ (x ∷ []) ≡ start ++ (y ∷ []) → (front ≡ start) × (x ≡ y)
push_once [] [] x y same = (refl, cc)
push_once [] (b ∷ []) x y same = cc
push_once [] (b ∷ c ∷ start) x y same = cc
push_once (a ∷ []) [] x y same = cc
push_once (a ∷ c ∷ front) [] x y same = cc
push_once (a ∷ front) (b ∷ start) x y same =
    let first : a ≡ b = cc in
    let rest : front ++ (x ∷ []) ≡ start ++ (y ∷ []) = cc in
    let cut = push_once front start x y rest in
    (ap (λ (more : List ℕ). a ∷ more) cut.0 ∙ ap (λ one. one ∷ start) first, cut.1)

-- how a decimal number begins: with a digit, and with a zero only if it is that alone
decimal_front : (n : ℕ) → n < 2 ^ 64
    → (1 ≤ length (decimal n)) × (48 ≤ get_or (decimal n) 0 0) × (get_or (decimal n) 0 0 ≡ 48 → (n ≡ 0) × (length (decimal n) ≡ 1))
decimal_front = decimal_by_steps
    (λ n text. (1 ≤ length text) × (48 ≤ get_or text 0 0) × (get_or text 0 0 ≡ 48 → (n ≡ 0) × (length text ≡ 1)))
    (λ n small. (omega arith, omega arith, λ zero. (omega (arith, zero), refl)))
    (λ n text large before. pushed n text large before)
  where
    pushed : (n : ℕ) (text : List ℕ) → 10 ≤ n
        → (1 ≤ length text) × (48 ≤ get_or text 0 0) × (get_or text 0 0 ≡ 48 → (n / 10 ≡ 0) × (length text ≡ 1))
        → (1 ≤ length (text ++ (48 + n % 10) ∷ [])) × (48 ≤ get_or (text ++ (48 + n % 10) ∷ []) 0 0)
        × (get_or (text ++ (48 + n % 10) ∷ []) 0 0 ≡ 48 → (n ≡ 0) × (length (text ++ (48 + n % 10) ∷ []) ≡ 1))
    pushed n [] large (some, digit, zero) = absurd (omega (arith, some))
    pushed n (x ∷ text) large (some, digit, zero) = (omega arith, digit, λ is. absurd (omega (arith, (zero is).0, large)))

-- a text that begins with a plus or a needless zero is no number
pub padded : (text : List ℕ) → (get_or text 0 0 ≡ 43) ⊎ ((get_or text 0 0 ≡ 48) × (1 < length text)) → StandsForNone IsNumber text
padded text (inl plus) n (is, small) =
    let front = decimal_front n (omega (arith, small)) in
    omega (arith, front.1, sym (ap (λ one. get_or one 0 0) is) ∙ plus)
padded text (inr (zero, long)) n (is, small) =
    let front = decimal_front n (omega (arith, small)) in
    let alone = front.2 (sym (ap (λ one. get_or one 0 0) is) ∙ zero) in
    omega (arith, long, ap length is, alone.1)

-- nor is one that std reads no number of
pub unread : {E : Type 0} (text : List ℕ) (read : Result ℕ E) → ParsesUnsigned 32 10 text read
    → IfNone (result_ok read) (StandsForNone IsNumber text)
unread {E} text (Ok n) reads = tt
unread {E} text (Err fault) reads = λ n is.
    let read : Err fault ≡ Ok n = parse-decimal 32 n text (Err fault) is.1 (omega (arith, is.1)) is.0 reads in
    cc

-- a number above 32 is no length
pub long_number : (text : List ℕ) (n : ℕ) → IsNumber text n → ¬ (n ≤ 32) → StandsForNone IsLength text
long_number text n (is, small) long len (spelled, low) =
    let same : n ≡ len = decimal_injective n len (omega (arith, small)) (omega (arith, low)) (sym is ∙ spelled) in
    long (omega (arith, same, low))

pub length_number : (text : List ℕ) → StandsForNone IsNumber text → StandsForNone IsLength text
length_number text none len (spelled, low) = none len (spelled, omega (arith, low))

pub length_once : (text : List ℕ) (x y : ℕ) → IsLength text x → IsLength text y → x ≡ y
length_once text x y (is, small) (spelled, low) = decimal_injective x y (omega (arith, small)) (omega (arith, low)) (sym is ∙ spelled)

pub number_once : (text : List ℕ) (x y : ℕ) → IsNumber text x → IsNumber text y → x ≡ y
number_once text x y (is, small) (spelled, low) =
    decimal_injective x y (omega (arith, small)) (omega (arith, low)) (sym is ∙ spelled)

-- a text that std reads no address of writes none
pub no_address : (text : List ℕ) → ((address : Ipv4Addr) → ¬ (IsIpv4Text text address)) → StandsForNone IsDottedAddress text
no_address text none address (octets, dotted, is) = none (record { octets = octets }) dotted

pub address_once : (text : List ℕ) (x y : ℕ) → IsDottedAddress text x → IsDottedAddress text y → x ≡ y
address_once text x y (octets, dotted, is) (others, also, are) =
    let (equal, _) = same_parts octets others [] [] (sym (read_ipv4_complete text octets [] dotted (lit≤ tt))
    ∙ read_ipv4_complete text others [] also (lit≤ tt)) in
    is ∙ ap (from_be_bytes w32) equal ∙ sym are

-- ---- titles of AS numbers

-- a decimal number doesn't begin with a letter
capital : NoDigit 65
capital digit small is = omega (arith, small, is)

letter : NoDigit 97
letter digit small is = omega (arith, small, is)

-- an AS number without its title is a number
upper_title : (text rest : List ℕ) (asn : ℕ) → text ≡ codes "AS" ++ rest → IsAsNumber text asn → IsNumber rest asn
upper_title text rest asn is (title, digits, split, inl none, number) =
    let whole : digits ≡ 65 ∷ 83 ∷ rest = sym (split ∙ ap (λ (front : List ℕ). front ++ digits) none) ∙ is in
    absurd (All-head (λ octet. octet ≢ 65) 65 (83 ∷ rest) (subst (Lacks 65) whole (number_lacks 65 capital digits asn number)) refl)
upper_title text rest asn is (title, digits, split, inr (inl same), number) =
    let whole : codes "AS" ++ digits ≡ codes "AS" ++ rest = sym (split ∙ ap (λ (front : List ℕ). front ++ digits) same) ∙ is in
    let back : digits ≡ rest = cc in
    subst (λ one. IsNumber one asn) back number
upper_title text rest asn is (title, digits, split, inr (inr other), number) =
    let whole : 97 ∷ 115 ∷ digits ≡ 65 ∷ 83 ∷ rest = sym (split ∙ ap (λ (front : List ℕ). front ++ digits) other) ∙ is in
    absurd (omega (arith, ap (λ (octets : List ℕ). get_or octets 0 0) whole))

lower_title : (text rest : List ℕ) (asn : ℕ) → text ≡ codes "as" ++ rest → IsAsNumber text asn → IsNumber rest asn
lower_title text rest asn is (title, digits, split, inl none, number) =
    let whole : digits ≡ 97 ∷ 115 ∷ rest = sym (split ∙ ap (λ (front : List ℕ). front ++ digits) none) ∙ is in
    absurd (All-head (λ octet. octet ≢ 97) 97 (115 ∷ rest) (subst (Lacks 97) whole (number_lacks 97 letter digits asn number)) refl)
lower_title text rest asn is (title, digits, split, inr (inl other), number) =
    let whole : 65 ∷ 83 ∷ digits ≡ 97 ∷ 115 ∷ rest = sym (split ∙ ap (λ (front : List ℕ). front ++ digits) other) ∙ is in
    absurd (omega (arith, ap (λ (octets : List ℕ). get_or octets 0 0) whole))
lower_title text rest asn is (title, digits, split, inr (inr same), number) =
    let whole : codes "as" ++ digits ≡ codes "as" ++ rest = sym (split ∙ ap (λ (front : List ℕ). front ++ digits) same) ∙ is in
    let back : digits ≡ rest = cc in
    subst (λ one. IsNumber one asn) back number

pub behind_upper : (text rest : List ℕ) (asn : ℕ) → text ≡ codes "AS" ++ rest → IsAsNumber text asn ↔ IsNumber rest asn
behind_upper text rest asn is = (upper_title text rest asn is, λ number. (codes "AS", rest, is, inr (inl refl), number))

pub behind_lower : (text rest : List ℕ) (asn : ℕ) → text ≡ codes "as" ++ rest → IsAsNumber text asn ↔ IsNumber rest asn
behind_lower text rest asn is = (lower_title text rest asn is, λ number. (codes "as", rest, is, inr (inr refl), number))
