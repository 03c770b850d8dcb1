-- The front of a record says what the record says.
use Rattle.std.proofs.Common.{◌≡◌, ℕ, ◌<◌, Bool, true, false, cond, not, ◌&&◌, ◌==◌, List, [], ◌∷◌, length, take, Some, Result, Ok, Err}
use Rattle.std.proofs.Common.{inl, inr, refl, sym, ◌∙◌, ap, arith, length-take}
use Rattle.std.specs.Prelude.{nat_lt, nat_le}
use Rattle.std.proofs.lemmas.Bool.Decides.{leb_tells}
use Rattle.std.proofs.lemmas.Grind.{common_steps}
use Rattle.std.proofs.lemmas.List.{take_all, take-take}
use Rattle.rs_mrt.specs.Entry.{Meaning, Message, entry_of, cut_message, message_room, FrontSaysTheSame}
use Rattle.rs_mrt.specs.Record.{MrtRecord}
use Rattle.rs_mrt.specs.declared.fault.MrtFault.{MrtFault}
use Rattle.std.specs.List.{list_all}
use Rattle.std.specs.Option.{is_none}
use Rattle.rs_update.specs.Fault.{of_header, first_fault}
use Rattle.rs_update.specs.Header.{is_marked, has_length, length_field, type_of, type_field, suits_type}
use Rattle.rs_update.specs.Message.{MessageContent}
use Rattle.rs_update.specs.Treating.{message_by}
use Rattle.rs_update.specs.declared.fault.HeaderFault.{HeaderFault}
use Rattle.rs_update.specs.declared.fault.HeaderFault.TheVariants.{NotSynchronized, BadLength, BadType}
use Rattle.rs_update.specs.declared.fault.MessageFault.{MessageFault}
use Rattle.rs_session.specs.Effect.{effect_of, effect_of_entry}
use Rattle.rs_session.specs.Laws.{FrontSuffices}
use Rattle.rs_update.specs.declared.errors.Errors.{Errors}
use Rattle.rs_types.specs.declared.peer_id.PeerId.{PeerId}
use Rattle.rs_session.proofs.EffectLemmas.{branch}

-- what octets that are more than any message has say, by whether they begin with a Marker
too_long : Bool → Result MessageContent MessageFault
too_long marked = Err (of_header (cond marked BadLength NotSynchronized))

no_length : (field count : ℕ) → 4096 < count → (nat_le 19 field && nat_le field 4096 && (field == count)) ≡ false
no_length field count long = grind (arith, common_steps)

header_fault-long : (short marked fits : Bool) (later : List (Bool × HeaderFault)) → short ≡ false → fits ≡ false
    → first_fault ((short, BadLength) ∷ (not marked, NotSynchronized) ∷ (not fits, BadLength) ∷ later)
    ≡ Some (cond marked BadLength NotSynchronized)
header_fault-long false true false later h k = refl
header_fault-long false false false later h k = refl
header_fault-long short marked fits later h k = cc

message_by-long : (errors : Errors) (octets : List ℕ) → 4096 < length octets → message_by errors octets ≡ too_long (is_marked octets)
unfolding message_by too_long
message_by-long errors octets long =
    let short : nat_lt (length octets) 19 ≡ false = grind (arith, common_steps) in
    let later : List (Bool × HeaderFault) =
    (is_none (type_of (type_field octets)), BadType) ∷ (not (suits_type (type_of (type_field octets)) (length octets)), BadLength)
    ∷ [] in
    rw (
      message_by,
      header_fault-long (nat_lt (length octets) 19) (is_marked octets) (has_length octets) later short
          (no_length (length_field octets) (length octets) long),
    ) refl

-- of octets that are more than any message has, any front that is more says the same
message_by-take : (errors : Errors) (n : ℕ) (octets : List ℕ) → 4096 < n → message_by errors (take n octets) ≡ message_by errors octets
message_by-take errors n octets enough =
    elim (leb_tells (length octets) n) [
      | inl whole ↦ let le = whole.1 in ap (message_by errors) (take_all n octets le)
      | inr cut ↦
          let longer = cut.1 in
          message_by-long errors (take n octets) (omega (arith, length-take n octets))
          ∙ ap (λ front. too_long (list_all (λ octet. octet == 0xff) front)) (take-take 16 n octets (omega arith))
          ∙ sym (message_by-long errors octets (omega arith))
    ]

effect-cut : (errors : Errors) (peer : PeerId) (time n : ℕ) (meaning : Result Meaning MrtFault) → 4096 < n
    → effect_of_entry errors peer time (cut_message n meaning) ≡ effect_of_entry errors peer time meaning
effect-cut errors peer time n (Ok (Message asn address octets)) enough = rw (message_by-take errors n octets enough) refl
effect-cut errors peer time n meaning enough = refl

room_enough : (r : MrtRecord) → 4096 < message_room r
room_enough r = branch (λ n. 4096 < n) (r.kind == 17) 4097 4101 (omega arith) (omega arith)

pub front_suffices : FrontSaysTheSame → FrontSuffices
unfolding effect_of
front_suffices same errors peer r = rw (same r) (effect-cut errors peer r.time (message_room r) (entry_of r) (room_enough r))
