-- The meaning of the values of a configuration, and the keys that its tables have (our choice: RFC 4271 leaves
-- configuration to the implementation).
use Rattle.std.specs.Prelude.{◌≡◌, ℕ, ◌<◌, ◌≤◌, ◌^◌, pos, Bool, List, [], ◌∷◌, ◌++◌, map, codes, decimal, Option, IsSomeAnd}
use Rattle.std.specs.Prelude.{MatchOption, All, ◌≢◌}
use Rattle.std.specs.Int.{w32, from_be_bytes}
use Rattle.std.specs.List.{Contains}
use Rattle.std.specs.Net.Grammar.{IsDotted}
use Rattle.rs_update.specs.IpPrefix.{IpPrefix}
use Rattle.rs_update.specs.Prefix.{network_of}
use Rattle.toml.specs.Data.{Data, integer, string, boolean, array, Items, no_items, item, Members, no_members, member}
use Rattle.toml.specs.Data.{get_member}
use Rattle.toml.specs.View.{items_of}

-- a value or a text has no meaning of this sort
abbrev pub StandsForNone : {V A : Type 0} → (V → A → Type 0) → V → Type 0
StandsForNone {V} {A} StandsFor value = (found : A) → ¬ (StandsFor value found)

-- a whole number of 32 bits
abbrev pub IsWholeNumber : Data → ℕ → Type 0
IsWholeNumber value number = (value ≡ integer (pos number)) × (number < 2 ^ 32)

-- a whole number, or none
abbrev pub IsSomeNumber : Data → Option ℕ → Type 0
IsSomeNumber value number = IsSomeAnd number (IsWholeNumber value)

-- a Boolean: `true` or `false`
abbrev pub IsBoolean : Data → Bool → Type 0
IsBoolean value truth = value ≡ boolean truth

-- a text is an address: four decimal numbers with dots between them and without needless zeros
abbrev pub IsDottedAddress : List ℕ → ℕ → Type 0
IsDottedAddress text address = (octets : List ℕ) × IsDotted text octets × (address ≡ from_be_bytes w32 octets)

-- an address
abbrev pub IsAddress : Data → ℕ → Type 0
IsAddress value address = (text : List ℕ) × (value ≡ string text) × IsDottedAddress text address

-- a text without a slash
abbrev pub HasNoSlash : List ℕ → Type 0
HasNoSlash text = All (λ octet. octet ≢ 47) text

-- a text is a subnet: an address, a slash and a length of at most 32 bits; the address's host bits are cleared
abbrev pub IsSlashedSubnet : List ℕ → IpPrefix → Type 0
IsSlashedSubnet text prefix =
    (front : List ℕ) × (address len : ℕ) × (text ≡ front ++ codes "/" ++ decimal len)
    × IsDottedAddress front address
    × (len ≤ 32)
    × (prefix ≡ network_of address len)

-- a subnet
abbrev pub IsSubnet : Data → IpPrefix → Type 0
IsSubnet value prefix = (text : List ℕ) × (value ≡ string text) × IsSlashedSubnet text prefix

-- a subnet, or none
abbrev pub IsSomeSubnet : Data → Option IpPrefix → Type 0
IsSomeSubnet value subnet = IsSomeAnd subnet (IsSubnet value)

-- a text
abbrev pub IsText : Data → List ℕ → Type 0
IsText value text = value ≡ string text

-- a text, or none
abbrev pub IsSomeText : Data → Option (List ℕ) → Type 0
IsSomeText value text = IsSomeAnd text (IsText value)

-- items that are texts
abbrev pub AreTexts : Items → List (List ℕ) → Type 0
AreTexts items texts = items ≡ items_of (map string texts)

-- a list of texts
abbrev pub IsTexts : Data → List (List ℕ) → Type 0
IsTexts value texts = value ≡ array (items_of (map string texts))

-- a key that must be there, and the meaning of its value
abbrev pub Needs : {A : Type 0} → Members → List ℕ → (Data → A → Type 0) → A → Type 0
Needs members key StandsFor found = IsSomeAnd (get_member key members) (λ value. StandsFor value found)

-- a key that may be there: the meaning of its value, or the default
abbrev pub MayHave : {A : Type 0} → Members → List ℕ → (Data → A → Type 0) → A → A → Type 0
MayHave members key StandsFor default found =
    MatchOption (get_member key members) (found ≡ default) (λ value. StandsFor value found)

-- there are as many values as items, each from the item at its place
abbrev pub AreAll : {A : Type 0} → (Data → A → Type 0) → Items → List A → Type 0
AreAll Is no_items [] = Unit {0}
AreAll Is (item value values) (found ∷ others) = Is value found × AreAll Is values others
AreAll Is _ _ = ⊥

-- a list of such values
abbrev pub AreListed : {A : Type 0} → (Data → A → Type 0) → Data → List A → Type 0
AreListed Is value found = (values : Items) × (value ≡ array values) × AreAll Is values found

-- each key of a table is a known one
abbrev pub HasOnly : List (List ℕ) → Members → Type 0
HasOnly known no_members = Unit {0}
HasOnly known (member key value later) = Contains known key × HasOnly known later
