-- What an UPDATE of one prefix tells of path attributes.
use Rattle.std.proofs.Common.{◌≡◌, ℕ, ◌+◌, ◌≤◌, ◌∙◌, List, [], ◌∷◌, Option, Some, None, Result, Ok, Err, length, refl, ap, sym, subst}
use Rattle.std.proofs.Common.{arith}
use Rattle.std.proofs.lemmas.List.{append-nil}
use Rattle.rs_update.specs.Gathered.{attributes_of}
use Rattle.rs_update.specs.IpPrefix.{IpPrefix}
use Rattle.rs_update.specs.Message.{MessageContent, message_of, update_message}
use Rattle.rs_update.specs.PathAttributes.{PathAttributes}
use Rattle.rs_update.specs.Prefix.{spelled_prefix, prefixes_of}
use Rattle.rs_update.specs.Section.{items_of, section_fault}
use Rattle.rs_update.specs.declared.fault.MessageFault.{MessageFault}
use Rattle.rs_types.specs.declared.fault.UpdateFault.{UpdateFault}
use Rattle.rs_start.specs.Joins.{attributes_told}
use Rattle.rs_start.specs.Opening.{IsRoutePrefix, attributes_by, fixed_len, nlri_spelling, sound_attributes, update_spelling}
use Rattle.rs_start.proofs.PrefixLemmas.{nlri_read, nlri_some}
use Rattle.rs_start.proofs.UpdateLemmas.{announces_by, message_is}

-- the attributes that an answer tells
abbrev pub answer_told : Result MessageContent MessageFault → Option PathAttributes
answer_told (Ok content) = attributes_told content
answer_told (Err fault) = None

one : (prefix : IpPrefix) → nlri_spelling (prefix ∷ []) ≡ spelled_prefix prefix
one prefix = append-nil (spelled_prefix prefix)

told_by : (fault : Option UpdateFault) (found : Option PathAttributes) (section : List ℕ) (prefix : IpPrefix)
    → attributes_of (items_of section) ≡ found
    → answer_told (update_message (announces_by fault found (prefix ∷ []))) ≡ attributes_by fault section
told_by (Some fault) found section prefix is = refl
told_by None None section prefix is = sym is
told_by None (Some attributes) section prefix is = sym is

pub message_tells : (section : List ℕ) (prefix : IpPrefix) → fixed_len + length section + length (spelled_prefix prefix) ≤ 4096
    → IsRoutePrefix prefix → answer_told (message_of (update_spelling section (spelled_prefix prefix))) ≡ sound_attributes section
message_tells section prefix fits is =
    let some = subst (λ (octets : List ℕ). 1 ≤ length octets) (one prefix) (nlri_some (prefix ∷ []) (omega arith)) in
    let read = subst (λ (octets : List ℕ). prefixes_of octets ≡ Some (prefix ∷ [])) (one prefix) (nlri_read (prefix ∷ []) (is, tt)) in
    ap answer_told (message_is section (spelled_prefix prefix) fits (prefix ∷ []) some read)
    ∙ told_by (section_fault section) (attributes_of (items_of section)) section prefix refl

-- the same, once it is known what was answered
pub answer_tells : (section : List ℕ) (prefix : IpPrefix) (octets : List ℕ) (answer : Result MessageContent MessageFault)
    → fixed_len + length section + length (spelled_prefix prefix) ≤ 4096 → IsRoutePrefix prefix
    → octets ≡ update_spelling section (spelled_prefix prefix) → message_of octets ≡ answer
    → answer_told answer ≡ sound_attributes section
answer_tells section prefix octets answer fits is spelled answers =
    ap answer_told (sym answers) ∙ ap (λ (x : List ℕ). answer_told (message_of x)) spelled ∙ message_tells section prefix fits is
