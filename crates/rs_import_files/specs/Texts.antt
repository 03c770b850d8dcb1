-- AS numbers, prefixes and patterns as texts (RFC 5396 for "asplain"; RFC 4632 for a prefix; BIRD 2 for patterns).
use Rattle.std.specs.Prelude.{◌≡◌, ◌≢◌, ℕ, ◌<◌, ◌≤◌, ◌^◌, ◌⊎◌, ◌==◌, Bool, ◌&&◌, ◌||◌, List, [], ◌++◌, codes, decimal}
use Rattle.std.specs.Int.{w32, from_be_bytes}
use Rattle.std.specs.Char.{is_ascii_hexdigit}
use Rattle.std.specs.List.{All, list_all, list_any}
use Rattle.std.specs.Net.Grammar.{IsDotted}
use Rattle.rs_types.specs.IpPrefix.{IpPrefix, IsPrefix}
use Rattle.rs_types.specs.declared.as_range.AsRange.{AsRange}
use Rattle.rs_types.specs.declared.pattern.Pattern.{Pattern}

-- a text or a value has no meaning of this sort
abbrev pub StandsForNone : {V A : Type 0} → (V → A → Type 0) → V → Type 0
StandsForNone {V} {A} StandsFor value = (found : A) → ¬ (StandsFor value found)

-- a text has no octet like this one
abbrev pub Lacks : ℕ → List ℕ → Type 0
Lacks mark text = All (λ octet. octet ≢ mark) text

-- a text is a decimal number of 32 bits, without needless zeros
abbrev pub IsNumber : List ℕ → ℕ → Type 0
IsNumber text number = (text ≡ decimal number) × (number < 2 ^ 32)

-- a text is a length of at most 32 bits
abbrev pub IsLength : List ℕ → ℕ → Type 0
IsLength text len = (text ≡ decimal len) × (len ≤ 32)

-- what may stand before an AS number: nothing, "AS" or "as"
abbrev pub IsAsTitle : List ℕ → Type 0
IsAsTitle title = (title ≡ []) ⊎ (title ≡ codes "AS") ⊎ (title ≡ codes "as")

-- a text is an AS number, with or without "AS" before it
abbrev pub IsAsNumber : List ℕ → ℕ → Type 0
IsAsNumber text asn = (title digits : List ℕ) × (text ≡ title ++ digits) × IsAsTitle title × IsNumber digits asn

-- a text is an ascending range of AS numbers, with a dash between its first and its last
abbrev pub IsSpan : List ℕ → AsRange → Type 0
IsSpan text range =
    (front back : List ℕ) × (text ≡ front ++ codes "-" ++ back)
    × IsNumber front range.first
    × IsNumber back range.last
    × (range.first ≤ range.last)

-- a text is a range of AS numbers: one number, or an ascending range
abbrev pub IsAsRange : List ℕ → AsRange → Type 0
IsAsRange text range = (IsNumber text range.first × (range.last ≡ range.first)) ⊎ IsSpan text range

-- the same, where "AS" may stand before a single number
abbrev pub IsAsEntry : List ℕ → AsRange → Type 0
IsAsEntry text range = (IsAsNumber text range.first × (range.last ≡ range.first)) ⊎ IsSpan text range

-- a text has a colon, as each prefix of IPv6 has
abbrev pub has_colon : List ℕ → Bool
has_colon text = list_any (λ octet. octet == 58) text

-- an octet may stand in a pattern of IPv6: a hexadecimal digit, or one of ":./+{,}"
abbrev pub is_ipv6_octet : ℕ → Bool
is_ipv6_octet octet =
    is_ascii_hexdigit octet || (octet == 58) || (octet == 46) || (octet == 47) || (octet == 43) || (octet == 123)
    || (octet == 44) || (octet == 125)

-- a text is a pattern of IPv6, as far as its octets tell: it has a colon, and no octet that may not stand there
abbrev pub is_ipv6 : List ℕ → Bool
is_ipv6 text = has_colon text && list_all is_ipv6_octet text

-- a text is an address: four decimal numbers with dots between them and without needless zeros
abbrev pub IsDottedAddress : List ℕ → ℕ → Type 0
IsDottedAddress text address = (octets : List ℕ) × IsDotted text octets × (address ≡ from_be_bytes w32 octets)

-- a text is a prefix: an address, a slash and a length of at most 32 bits; the address has no host bits
abbrev pub IsPrefixText : List ℕ → IpPrefix → Type 0
IsPrefixText text prefix =
    (front back : List ℕ) × (text ≡ front ++ codes "/" ++ back)
    × IsDottedAddress front prefix.address
    × IsLength back prefix.len
    × IsPrefix prefix.address prefix.len

-- lengths from a least to a most, which lie between a prefix's own length and 32
abbrev pub AreBounds : ℕ → ℕ → ℕ → Type 0
AreBounds len least most = (len ≤ least) × (least ≤ most) × (most ≤ 32)

-- a text is two lengths with a comma between them, and the closing brace
abbrev pub AreWritten : List ℕ → ℕ × ℕ → Type 0
AreWritten text bounds =
    (low high : List ℕ) × (text ≡ low ++ codes "," ++ high ++ codes "}")
    × IsLength low bounds.0
    × IsLength high bounds.1

-- What stands behind a pattern's prefix. Nothing: its own length alone. A plus: its own length and all greater ones.
-- Two numbers in braces: the lengths from the one to the other.
abbrev pub IsTail : List ℕ → ℕ → ℕ → ℕ → Type 0
IsTail tail len least most =
    ((tail ≡ []) × (least ≡ len) × (most ≡ len))
    ⊎ ((tail ≡ codes "+") × (least ≡ len) × (most ≡ 32))
    ⊎ ((inside : List ℕ) × (tail ≡ codes "{" ++ inside) × AreWritten inside (least, most) × AreBounds len least most)

-- a text is a pattern: a prefix, and what tells the lengths
abbrev pub IsPattern : List ℕ → Pattern → Type 0
IsPattern text pattern =
    (front tail : List ℕ) × (text ≡ front ++ tail)
    × IsPrefixText front pattern.prefix
    × IsTail tail pattern.prefix.len pattern.least pattern.most
