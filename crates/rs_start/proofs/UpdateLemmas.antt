-- What an UPDATE says that is written of path attributes and prefixes.
use Rattle.std.proofs.Common.{◌≡◌, ℕ, ◌+◌, ◌<◌, ◌≤◌, ◌∙◌, Bool, true, false, not, List, [], ◌∷◌, ◌++◌, Option, Some, None, Result, Ok}
use Rattle.std.proofs.Common.{Err}
use Rattle.std.proofs.Common.{length, take, drop, refl, ap, sym, arith, length-append}
use Rattle.std.specs.Prelude.{nat_le, ok_or, is_none, ◌&&◌, ◌==◌}
use Rattle.std.proofs.lemmas.Bool.{le-ltb, le-leb, eq-eqb, and_from}
use Rattle.std.proofs.lemmas.List.{take_at, drop_at}
use Rattle.byteorder.specs.Endian.{big_bytes}
use Rattle.byteorder.specs.Numbers.{big_number-reads_back}
use Rattle.rs_update.specs.Fault.{first_fault, of_header}
use Rattle.rs_update.specs.Gathered.{attributes_of}
use Rattle.rs_update.specs.Header.{header_of, header_fault, is_marked, has_length, length_field, type_of, type_field}
use Rattle.rs_update.specs.Header.{suits_type}
use Rattle.rs_update.specs.IpPrefix.{IpPrefix}
use Rattle.rs_update.specs.Laws.{Rfc4271IsAsBefore, StandardsAgree}
use Rattle.rs_update.specs.Message.{MessageContent, UpdateContent, IsUpdate, update_of, update_message, message_of, typed_message, passes}
use Rattle.rs_update.specs.Message.{listed_prefixes, announced_attributes, length_tests, withdrawn_field, section_field, nlri_field, ◌>>=◌}
use Rattle.rs_update.specs.Message.{section_length, behind_withdrawn}
use Rattle.rs_update.specs.PathAttributes.{PathAttributes}
use Rattle.rs_update.specs.Prefix.{prefixes_of}
use Rattle.rs_update.specs.Section.{items_of, section_fault}
use Rattle.rs_update.specs.Treating.{message_by}
use Rattle.rs_update.specs.declared.errors.Errors.{Errors}
use Rattle.rs_update.specs.declared.errors.Errors.TheVariants.{Rfc4271, Rfc7606}
use Rattle.rs_update.specs.declared.fault.HeaderFault.{HeaderFault}
use Rattle.rs_update.specs.declared.fault.HeaderFault.TheVariants.{BadType}
use Rattle.rs_update.specs.declared.fault.MessageFault.{MessageFault}
use Rattle.rs_types.specs.declared.fault.UpdateFault.{UpdateFault}
use Rattle.rs_types.specs.declared.fault.UpdateFault.TheVariants.{InvalidNetworkField, MissingWellKnown}
use Rattle.rs_update.specs.declared.header.MessageType.{MessageType}
use Rattle.rs_update.specs.declared.header.MessageType.TheVariants.{Update}
use Rattle.rs_start.specs.Opening.{fixed_len, update_spelling}
use Rattle.rs_start.proofs.PrefixLemmas.{no_prefix}

-- an UPDATE behind its header
abbrev body_of : List ℕ → List ℕ → List ℕ
body_of section nlri = big_bytes 2 0 ++ big_bytes 2 (length section) ++ section ++ nlri

body_is : (section nlri : List ℕ) → drop 19 (update_spelling section nlri) ≡ body_of section nlri
unfolding update_spelling
body_is section nlri = refl

-- ---- the header

pub length-update : (section nlri : List ℕ) → length (update_spelling section nlri) ≡ fixed_len + length section + length nlri
unfolding update_spelling
length-update section nlri = omega (arith, length-append section nlri)

five_pass : {F : Type 0} (a b c d e : Bool) (p q r s t : F) → a ≡ false → b ≡ false → c ≡ false → d ≡ false → e ≡ false
    → first_fault ((a, p) ∷ (b, q) ∷ (c, r) ∷ (d, s) ∷ (e, t) ∷ []) ≡ None
five_pass a b c d e p q r s t ha hb hc hd he = rw (ha, hb, hc, hd, he) refl

module _ (section nlri : List ℕ) (fits : fixed_len + length section + length nlri ≤ 4096) where
  length_is : length_field (update_spelling section nlri) ≡ fixed_len + length section + length nlri
  unfolding update_spelling
  length_is =
      big_number-reads_back 2 (fixed_len + length section + length nlri) (2 ∷ body_of section nlri) (omega (arith, fits))

  has_its_length : has_length (update_spelling section nlri) ≡ true
  has_its_length =
      let octets = update_spelling section nlri in
      let count = length-update section nlri in
      let n = length_field octets in
      and_from (nat_le 19 n && nat_le n 4096) (n == length octets)
      (and_from (nat_le 19 n) (nat_le n 4096) (le-leb 19 n (omega (arith, length_is))) (le-leb n 4096 (omega (arith, length_is, fits))))
      (eq-eqb n (length octets) (length_is ∙ sym count))

  marked : is_marked (update_spelling section nlri) ≡ true
  unfolding update_spelling
  marked = refl

  type_is : type_of (type_field (update_spelling section nlri)) ≡ Some Update
  unfolding update_spelling
  type_is = refl

  header_passes : header_fault (update_spelling section nlri) ≡ None
  header_passes =
      let octets = update_spelling section nlri in
      let count = length-update section nlri in
      five_pass _ _ _ _ _ _ _ _ _ _ (le-ltb (length octets) 19 (omega (arith, count))) (ap not marked) (ap not has_its_length)
      (ap is_none type_is)
      (ap (λ kind. not (suits_type kind (length octets))) type_is ∙ ap not (le-leb 23 (length octets) (omega (arith, count))))

  header_is : header_of (update_spelling section nlri) ≡ Ok Update
  header_is =
      let of : Option HeaderFault → Option MessageType → Result MessageType HeaderFault =
      λ fault kind. elim fault [ None ↦ ok_or kind BadType | Some fault ↦ Err fault ] in
      ap (λ fault. of fault (type_of (type_field (update_spelling section nlri)))) header_passes ∙ ap (of None) type_is

-- ---- the fields

-- what an UPDATE says, by what its lengths say and its fields
abbrev said_of : Option UpdateFault → List ℕ → List ℕ → List ℕ → Result UpdateContent UpdateFault
said_of lengths withdrawn_octets section nlri_octets = do
  _lengths ← passes lengths
  _section ← passes (section_fault section)
  attributes ← announced_attributes section nlri_octets
  withdrawn ← listed_prefixes withdrawn_octets
  nlri ← listed_prefixes nlri_octets
  Ok (record { withdrawn = withdrawn; attributes = attributes; nlri = nlri })

-- what prefixes announce, by the fault of the path attributes and what they say
abbrev pub announces_by : Option UpdateFault → Option PathAttributes → List IpPrefix → Result UpdateContent UpdateFault
announces_by (Some fault) attributes prefixes = Err fault
announces_by None None prefixes = Err MissingWellKnown
announces_by None (Some attributes) prefixes = Ok (record { withdrawn = []; attributes = Some attributes; nlri = prefixes })

listed : (octets : List ℕ) (prefixes : List IpPrefix) → prefixes_of octets ≡ Some prefixes → listed_prefixes octets ≡ Ok prefixes
listed octets prefixes is =
    ap (λ (found : Option (List IpPrefix)). elim found [ None ↦ Err InvalidNetworkField | Some all ↦ Ok all ]) is

-- at least one prefix is listed
steps : (fault : Option UpdateFault) (section nlri : List ℕ) (prefixes : List IpPrefix) → section_fault section ≡ fault
    → 0 < length nlri → listed_prefixes nlri ≡ Ok prefixes
    → said_of None [] section nlri ≡ announces_by fault (attributes_of (items_of section)) prefixes
steps fault section [] prefixes is some lists = absurd (omega arith)
steps (Some fault) section (octet ∷ octets) prefixes is some lists = rw is refl
steps None section (octet ∷ octets) prefixes is some lists =
    let none = listed [] [] no_prefix in
    rw (is, none) (found (attributes_of (items_of section)))
  where
    found : (attributes : Option PathAttributes)
        → ((elim attributes as (λ x. Result (Option PathAttributes) UpdateFault)
        [ None ↦ Err MissingWellKnown | Some one ↦ Ok (Some one) ]) >>= (λ attributes.
        (Ok [] >>= (λ withdrawn. (listed_prefixes (octet ∷ octets) >>= (λ nlri.
        Ok (record { withdrawn = withdrawn; attributes = attributes; nlri = nlri })))))))
        ≡ announces_by None attributes prefixes
    found None = refl
    found (Some one) = rw lists refl

module _ (section nlri : List ℕ) (fits : fixed_len + length section + length nlri ≤ 4096) where
  section_length_is : section_length (body_of section nlri) ≡ length section
  section_length_is = big_number-reads_back 2 (length section) (section ++ nlri) (omega (arith, fits))

  section_is : section_field (body_of section nlri) ≡ section
  section_is =
      ap (λ (n : ℕ). take n (section ++ nlri)) section_length_is ∙ take_at section nlri (length section) refl

  nlri_is : nlri_field (body_of section nlri) ≡ nlri
  nlri_is =
      ap (λ (n : ℕ). drop (2 + n) (behind_withdrawn (body_of section nlri))) section_length_is
      ∙ drop_at (big_bytes 2 (length section) ++ section) nlri (2 + length section) (omega arith)

  two_pass : {F : Type 0} (a b : Bool) (p q : F) → a ≡ false → b ≡ false → first_fault ((a, p) ∷ (b, q) ∷ []) ≡ None
  two_pass a b p q ha hb = rw (ha, hb) refl

  lengths_pass : first_fault (length_tests (body_of section nlri)) ≡ None
  lengths_pass =
      let count : length (body_of section nlri) ≡ 4 + length section + length nlri = omega (arith, length-append section nlri) in
      let n = length (body_of section nlri) in
      two_pass _ _ _ _ (le-ltb n 4 (omega (arith, count)))
      (le-ltb n (0 + section_length (body_of section nlri) + 4) (omega (arith, count, section_length_is)))

  update_is : update_of (body_of section nlri) ≡ said_of None [] section nlri
  unfolding update_of
  update_is =
      let body = body_of section nlri in
      ap (λ lengths. said_of lengths (withdrawn_field body) (section_field body) (nlri_field body)) lengths_pass
      ∙ ap (λ (octets : List ℕ). said_of None [] octets (nlri_field body)) section_is
      ∙ ap (λ (octets : List ℕ). said_of None [] section octets) nlri_is

  -- what the whole message says, where it lists these prefixes
  pub message_is : (prefixes : List IpPrefix) → 0 < length nlri → prefixes_of nlri ≡ Some prefixes
      → message_of (update_spelling section nlri)
      ≡ update_message (announces_by (section_fault section) (attributes_of (items_of section)) prefixes)
  unfolding message_of
  message_is prefixes some lists =
      let octets = update_spelling section nlri in
      let of : Result MessageType HeaderFault → Result MessageContent MessageFault =
      λ header. elim header [ Ok kind ↦ typed_message kind (drop 19 octets) | Err fault ↦ Err (of_header fault) ] in
      ap of (header_is section nlri fits)
      ∙ ap (λ (body : List ℕ). update_message (update_of body)) (body_is section nlri)
      ∙ ap update_message (update_is ∙ steps (section_fault section) section nlri prefixes refl some (listed nlri prefixes lists))

  -- and by either standard for faults, where it has none
  pub message_by_either : Rfc4271IsAsBefore → StandardsAgree → (errors : Errors) (attributes : PathAttributes) (prefixes : List IpPrefix)
      → 0 < length nlri → prefixes_of nlri ≡ Some prefixes → section_fault section ≡ None
      → attributes_of (items_of section) ≡ Some attributes
      → message_by errors (update_spelling section nlri)
      ≡ Ok (IsUpdate (record { withdrawn = []; attributes = Some attributes; nlri = prefixes }))
  message_by_either before agree errors attributes prefixes some lists faultless says =
      let said : message_of (update_spelling section nlri)
      ≡ Ok (IsUpdate (record { withdrawn = []; attributes = Some attributes; nlri = prefixes })) =
      message_is prefixes some lists
      ∙ ap (λ fault. update_message (announces_by fault (attributes_of (items_of section)) prefixes)) faultless
      ∙ ap (λ found. update_message (announces_by None found prefixes)) says in
      by_either errors said
    where
      by_either : (one : Errors) → message_of (update_spelling section nlri)
          ≡ Ok (IsUpdate (record { withdrawn = []; attributes = Some attributes; nlri = prefixes }))
          → message_by one (update_spelling section nlri)
          ≡ Ok (IsUpdate (record { withdrawn = []; attributes = Some attributes; nlri = prefixes }))
      by_either Rfc4271 said = before (update_spelling section nlri) ∙ said
      by_either Rfc7606 said = agree (update_spelling section nlri) _ said
