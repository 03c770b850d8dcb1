-- What is true of the definitions: each statement is the contract of a function that does nothing.
use Rattle.std.specs.Prelude.{◌≡◌, ◌≢◌, ◌⊎◌, ℕ, ◌<◌, ◌≤◌, ◌↔◌, List, [], ◌∷◌, ◌++◌, length, Some, None, Ok, Err, IsOk}
use Rattle.std.specs.Prelude.{IsSome}
use Rattle.rs_update.specs.declared.errors.Errors.TheVariants.{Rfc4271, Rfc7606}
use Rattle.rs_update.specs.declared.fault.MessageFault.{MessageFault}
use Rattle.rs_types.specs.declared.fault.UpdateFault.{UpdateFault}
use Rattle.rs_types.specs.declared.fault.UpdateFault.TheVariants.{MalformedAttributeList}
use Rattle.rs_types.specs.Gathered.{attributes_of}
use Rattle.rs_types.specs.declared.handling.Handling.{Handling}
use Rattle.rs_types.specs.declared.handling.Handling.TheVariants.{Keep, AttributeDiscard, TreatAsWithdraw}
use Rattle.rs_types.specs.declared.handling.Handling.TheVariants.{SessionReset}
use Rattle.rs_update.specs.Handling.{handling_behind, handling_of_rest, strongest_in}
use Rattle.rs_types.specs.IpPrefix.{IpPrefix}
use Rattle.rs_update.specs.Message.{MessageContent, UpdateContent, update_of, message_of, message_fault}
use Rattle.rs_types.specs.Parts.{AreOctets, IsWholeFront}
use Rattle.rs_types.specs.PathAttributes.{PathAttributes, PathSegment}
use Rattle.rs_types.specs.PathSegments.{SpellsSegment, segments_of}
use Rattle.rs_types.specs.Prefix.{IsField, prefixes_of}
use Rattle.rs_types.specs.Section.{Item, SpellsItem, items_of, rest_of, section_fault, AreFaultless, IsFirstAtFault}
use Rattle.rs_types.specs.Spelling.{written}
use Rattle.rs_update.specs.Treating.{message_by}

-- a field lists at most one list of prefixes, and reading the field finds this list if there is one (RFC 4271,
-- section 4.3)
abbrev pub FieldIsRead : Type 0
FieldIsRead =
    (octets : List ℕ) (prefixes : List IpPrefix) → AreOctets octets
    → (IsField octets prefixes ↔ (prefixes_of octets ≡ Some prefixes))

-- There is exactly one way to split a section into attributes and a rest that does not begin with an attribute.
-- Reading the section finds it (RFC 4271, section 4.3).
abbrev pub SectionIsRead : Type 0
SectionIsRead =
    (section : List ℕ) (items : List Item) (rest : List ℕ) → AreOctets section
    → (IsWholeFront SpellsItem section items rest ↔ ((items ≡ items_of section) × (rest ≡ rest_of section)))

-- a section is without fault exactly if none of its attributes is at fault and no octet is left over (RFC 4271,
-- section 6.3)
abbrev pub SectionIsFaultless : Type 0
SectionIsFaultless =
    (section : List ℕ) → (section_fault section ≡ None) ↔ (AreFaultless (items_of section) × (rest_of section ≡ []))

-- the fault of a section is that of the first attribute at fault, or else that octets are left over
abbrev pub SectionFaultIsFirst : Type 0
SectionFaultIsFirst =
    (section : List ℕ) (fault : UpdateFault)
    → (section_fault section ≡ Some fault)
    ↔ (IsFirstAtFault (items_of section) fault
    ⊎ (AreFaultless (items_of section) × (rest_of section ≢ []) × (fault ≡ MalformedAttributeList)))

-- There is exactly one way to split the value of an AS_PATH into segments and a rest that does not begin with a
-- segment. Reading the value finds it.
abbrev pub PathIsRead : Type 0
PathIsRead =
    (value : List ℕ) (segments : List PathSegment) (rest : List ℕ) → AreOctets value
    → (IsWholeFront SpellsSegment value segments rest
    ↔ ((segments ≡ (segments_of value).0) × (rest ≡ (segments_of value).1)))

-- the fault of a message is the one that its first failing test finds (RFC 4271, section 6)
abbrev pub FaultIsFirst : Type 0
FaultIsFirst =
    (octets : List ℕ) (fault : MessageFault) → (message_of octets ≡ Err fault) ↔ (message_fault octets ≡ Some fault)

-- if no test finds a fault, the octets give a message
abbrev pub NoFaultIsMessage : Type 0
NoFaultIsMessage = (octets : List ℕ) → IsOk (message_of octets) ↔ (message_fault octets ≡ None)

-- an UPDATE has attributes exactly if it announces prefixes
abbrev pub AttributesAreForRoutes : Type 0
AttributesAreForRoutes =
    (body : List ℕ) (content : UpdateContent) → update_of body ≡ Ok content
    → IsSome content.attributes ↔ (0 < length content.nlri)

-- Attributes that come from a section without fault are written as a section that is without fault too. The written
-- section gives the same attributes, Partial bits included, and is never longer.
abbrev pub WrittenIsRead : Type 0
WrittenIsRead =
    (section : List ℕ) (attributes : PathAttributes) → AreOctets section → section_fault section ≡ None
    → attributes_of (items_of section) ≡ Some attributes
    → (section_fault (written attributes) ≡ None)
    × (attributes_of (items_of (written attributes)) ≡ Some attributes)
    × (length (written attributes) ≤ length section)

-- under RFC 4271, the definition with a choice of standard agrees with the one without
abbrev pub Rfc4271IsAsBefore : Type 0
Rfc4271IsAsBefore = (octets : List ℕ) → message_by Rfc4271 octets ≡ message_of octets

-- a message without a fault says the same under RFC 7606 as under RFC 4271
abbrev pub StandardsAgree : Type 0
StandardsAgree =
    (octets : List ℕ) (content : MessageContent) → message_of octets ≡ Ok content
    → message_by Rfc7606 octets ≡ Ok content

-- how strong a handling is, as a number
abbrev pub strength : Handling → ℕ
strength Keep = 0
strength AttributeDiscard = 1
strength TreatAsWithdraw = 2
strength (SessionReset fault) = 3

-- each of these attributes asks for a weaker handling than this one
abbrev pub AskForLess : List Item → Handling → Type 0
AskForLess items handling =
    (before : List Item) (item : Item) (after : List Item) → items ≡ before ++ item ∷ after
    → strength (handling_behind before item) < strength handling

-- of these attributes, the first that asks for a handling as strong as this one asks for exactly this one
abbrev pub IsFirstAsked : List Item → Handling → Type 0
IsFirstAsked items handling =
    (before : List Item) × (item : Item) × (after : List Item)
    × (items ≡ before ++ item ∷ after) × (handling_behind before item ≡ handling) × AskForLess before handling

-- The handling of a section is the strongest that its attributes and its left-over octets ask for. If several ask
-- for that strength, the first attribute among them decides, and left-over octets decide last. If none asks for
-- anything, nothing is done.
abbrev pub StrongestIsFound : Type 0
StrongestIsFound =
    (section : List ℕ)
    → ((before : List Item) (item : Item) (after : List Item) → items_of section ≡ before ++ item ∷ after
    → strength (handling_behind before item) ≤ strength (strongest_in section))
    × (strength (handling_of_rest (rest_of section)) ≤ strength (strongest_in section))
    × (IsFirstAsked (items_of section) (strongest_in section)
    ⊎ (AskForLess (items_of section) (strongest_in section)
    × (handling_of_rest (rest_of section) ≡ strongest_in section))
    ⊎ (strongest_in section ≡ Keep))
