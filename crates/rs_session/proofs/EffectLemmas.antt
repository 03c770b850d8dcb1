-- What any record says: changes without a close, no more than its body has octets, or a close by a reason that records say.
use Rattle.std.proofs.Common.{◌≡◌, ℕ, zero, suc, ◌+◌, ◌≤◌, ◌==◌, Bool, true, false, cond, not, ◌&&◌, List, [], ◌∷◌, ◌++◌, length, drop, map}
use Rattle.std.proofs.Common.{filter, Option, Some, None, Result, Ok, Err, refl, ◌∙◌, arith, length-append, length-take, length-drop}
use Rattle.std.proofs.lemmas.List.Elements.{All-map}
use Rattle.std.proofs.lemmas.List.Folds.{list_any-append, list_any_none}
use Rattle.std.proofs.lemmas.List.Sums.{length-filter, count_by-le-length}
use Rattle.std.proofs.lemmas.List.{length-map}
use Rattle.rs_mrt.specs.Entry.{Meaning, Other, entry_of, fields_entry, message_entry, state_entry}
use Rattle.rs_mrt.specs.Record.{MrtRecord}
use Rattle.rs_mrt.specs.declared.fault.MrtFault.{MrtFault}
use Rattle.rs_mrt.specs.declared.fault.MrtFault.TheVariants.{FieldsCutShort, MicrosecondsCutShort}
use Rattle.rs_update.specs.Fault.{first_fault, of_header}
use Rattle.rs_update.specs.Section.{section_fault}
use Rattle.rs_update.specs.Header.{header_of}
use Rattle.rs_update.specs.IpPrefix.{IpPrefix}
use Rattle.rs_update.specs.Message.{MessageContent, UpdateContent, TreatedContent, update_message, update_of, listed_prefixes}
use Rattle.rs_update.specs.Message.{withdrawn_field, withdrawn_length, behind_withdrawn, section_length, section_field, nlri_field}
use Rattle.rs_update.specs.Message.{length_tests, passes, announced_attributes, ◌>>=◌}
use Rattle.rs_update.specs.Handling.{strongest_in}
use Rattle.rs_update.specs.Treating.{message_by, typed_message_by, update_by, treating_message, treating_update_of, reset_of, content_with}
use Rattle.rs_update.specs.Parts.{parts_within}
use Rattle.rs_update.specs.PathAttributes.{PathAttributes}
use Rattle.rs_update.specs.Prefix.{prefix_at, is_multicast}
use Rattle.rs_update.specs.declared.fault.HeaderFault.{HeaderFault}
use Rattle.rs_types.specs.declared.fault.UpdateFault.{UpdateFault}
use Rattle.rs_types.specs.declared.fault.UpdateFault.TheVariants.{InvalidNetworkField}
use Rattle.rs_update.specs.declared.header.MessageType.{MessageType}
use Rattle.rs_update.specs.declared.header.MessageType.TheVariants as types
use Rattle.rs_session.specs.Effect.{RecordEffect, PassesOver, Gives, Ends, effect_of, effect_of_entry, effect_of_message, effect_of_state}
use Rattle.rs_session.specs.Effect.{loss}
use Rattle.rs_session.specs.Laws.{has_close, is_recorded}
use Rattle.rs_change.specs.Change.{Change, is_close}
use Rattle.rs_types.specs.Peer.{is_of}
use Rattle.std.specs.Prelude.{nat_lt}
use Rattle.rs_mrt.specs.Endian.{big_number}
use Rattle.rs_session.specs.UpdateChanges.{withdraws, announces, announcements, changes_of_update, changes_of_treated, is_listed}
use Rattle.rs_session.specs.UpdateChanges.{withdrawn_only, unicast}
use Rattle.rs_update.specs.declared.errors.Errors.{Errors}
use Rattle.rs_update.specs.declared.errors.Errors.TheVariants.{Rfc4271, Rfc7606}
use Rattle.rs_types.specs.declared.peer_id.PeerId.{PeerId}

abbrev pub IsFine : ℕ → RecordEffect → Type 0
IsFine octets PassesOver = Unit {0}
IsFine octets (Gives changes) = (has_close changes ≡ false) × (length changes ≤ octets)
IsFine octets (Ends reason) = is_recorded reason ≡ true

-- what holds in both branches holds of the choice
pub branch : {A : Type 0} (P : A → Type 0) (b : Bool) (x y : A) → P x → P y → P (cond b x y)
branch P true x y h k = h
branch P false x y h k = k

-- ---- the prefixes of an UPDATE

length-parts_more : {A : Type 0} (read : List ℕ → Option (A × List ℕ)) (fuel : ℕ) (octets : List ℕ) (found : Option (A × List ℕ))
    → ((rest : List ℕ) → length (parts_within read fuel rest).0 ≤ fuel)
    → length (elim found as (λ x. List A × List ℕ) [
      | None ↦ ([], octets)
      | Some part ↦ let later = parts_within read fuel part.1 in
          (part.0 ∷ later.0, later.1)
    ]).0 ≤ suc fuel
length-parts_more read fuel octets None h = omega arith
length-parts_more read fuel octets (Some part) h = let few = h part.1 in omega (arith, few)

length-parts_within : {A : Type 0} (read : List ℕ → Option (A × List ℕ)) (fuel : ℕ) (octets : List ℕ)
    → length (parts_within read fuel octets).0 ≤ fuel
unfolding parts_within
length-parts_within read zero octets = omega arith
length-parts_within read (suc fuel) octets = length-parts_more read fuel octets (read octets) (λ rest. length-parts_within read fuel rest)

abbrev AllOk : {A : Type 0} → (A → Type 0) → Result A UpdateFault → Type 0
AllOk Q (Ok value) = Q value
AllOk Q (Err fault) = Unit {0}

any_ok : {A : Type 0} (found : Result A UpdateFault) → AllOk (λ (value : A). Unit {0}) found
any_ok (Ok value) = tt
any_ok (Err fault) = tt

-- a field lists no more prefixes than it has octets
listed : (octets : List ℕ) → AllOk (λ (prefixes : List IpPrefix). length prefixes ≤ length octets) (listed_prefixes octets)
listed octets =
    branch
    (λ (found : Option (List IpPrefix)). AllOk (λ (prefixes : List IpPrefix). length prefixes ≤ length octets)
    (elim found [ None ↦ Err InvalidNetworkField | Some prefixes ↦ Ok prefixes ]))
    (length (parts_within prefix_at (length octets) octets).1 == 0)
    (Some (parts_within prefix_at (length octets) octets).0)
    None
    (length-parts_within prefix_at (length octets) octets)
    tt

bind : {A B : Type 0} (P : Result B UpdateFault → Type 0) (Q : A → Type 0) (found : Result A UpdateFault) (next : A → Result B UpdateFault)
    → AllOk Q found → ((fault : UpdateFault) → P (Err fault)) → ((value : A) → Q value → P (next value)) → P (found >>= next)
bind P Q (Ok value) next all bad good = good value all
bind P Q (Err fault) next all bad good = bad fault

-- ---- the changes of an UPDATE

-- a change on each prefix, and no close
fine-each : (says : IpPrefix → Change) → ((prefix : IpPrefix) → is_close (says prefix) ≡ false) → (prefixes : List IpPrefix)
    → IsFine (length prefixes) (Gives (map says prefixes))
fine-each says none prefixes = (
  list_any_none is_close (map says prefixes) (All-map (λ change. is_close change ≡ false) says prefixes (λ k d below. none _)),
  omega (arith, length-map prefixes says),
)

fine-withdraws : (time : ℕ) (prefixes : List IpPrefix) → IsFine (length prefixes) (Gives (map (withdraws time) prefixes))
fine-withdraws time = fine-each (withdraws time) (λ prefix. refl)

fine-announcements : (time : ℕ) (attributes : Option PathAttributes) (prefixes : List IpPrefix)
    → IsFine (length prefixes) (Gives (announcements time attributes prefixes))
fine-announcements time None prefixes = (refl, omega arith)
fine-announcements time (Some attributes) prefixes = fine-each (announces time attributes) (λ prefix. refl) prefixes

length-filter-le : {A : Type 0} (p : A → Bool) (xs : List A) → length (filter p xs) ≤ length xs
length-filter-le p xs = omega (arith, length-filter p xs, count_by-le-length p xs)

-- changes that withdraw, before changes on what is announced
fine-lists : (time octets : ℕ) (withdrawn nlri : List IpPrefix) (behind : List Change) → length withdrawn + length nlri ≤ octets
    → IsFine (length (unicast nlri)) (Gives behind) → IsFine octets (Gives (map (withdraws time) (withdrawn_only withdrawn nlri) ++ behind))
fine-lists time octets withdrawn nlri behind few fine =
    let first = fine-withdraws time (withdrawn_only withdrawn nlri) in (
      list_any-append is_close (map (withdraws time) (withdrawn_only withdrawn nlri)) behind ∙ rw (first.0, fine.0) refl,
      omega (
        arith,
        few,
        first.1,
        fine.1,
        length-append (map (withdraws time) (withdrawn_only withdrawn nlri)) behind,
        length-filter-le (λ prefix. not (is_multicast prefix) && not (is_listed nlri prefix)) withdrawn,
        length-filter-le (λ prefix. not (is_multicast prefix)) nlri,
      ),
    )

fine-changes : (time octets : ℕ) (update : UpdateContent) → length update.withdrawn + length update.nlri ≤ octets
    → IsFine octets (Gives (changes_of_update time update))
fine-changes time octets update few =
    fine-lists time octets update.withdrawn update.nlri _ few (fine-announcements time update.attributes (unicast update.nlri))

fields_fit : (body : List ℕ) (withdrawn nlri : ℕ) → withdrawn ≤ length (withdrawn_field body) → nlri ≤ length (nlri_field body)
    → withdrawn + nlri ≤ length body
fields_fit body withdrawn nlri h k =
    omega (
      arith,
      h,
      k,
      length-take (withdrawn_length body) (drop 2 body),
      length-drop 2 body,
      length-drop (2 + section_length body) (behind_withdrawn body),
      length-drop (2 + withdrawn_length body) body,
    )

fine-update : (time : ℕ) (body : List ℕ) → IsFine (length body) (effect_of_message time (update_message (update_of body)))
unfolding update_of
fine-update time body =
    let P : Result UpdateContent UpdateFault → Type 0 = λ answer. IsFine (length body) (effect_of_message time (update_message answer)) in
    let bad : (fault : UpdateFault) → P (Err fault) = λ fault. refl in
    bind P (λ _. Unit {0}) (passes (first_fault (length_tests body))) _ (any_ok _) bad (λ lengths _.
    bind P (λ _. Unit {0}) (passes (section_fault (section_field body))) _ (any_ok _) bad (λ section _.
    bind P (λ _. Unit {0}) (announced_attributes (section_field body) (nlri_field body)) _ (any_ok _) bad (λ attributes _.
    bind P _ (listed_prefixes (withdrawn_field body)) _ (listed (withdrawn_field body)) bad (λ withdrawn few.
    bind P _ (listed_prefixes (nlri_field body)) _ (listed (nlri_field body)) bad (λ nlri as_few.
    fine-changes time (length body) _ (fields_fit body (length withdrawn) (length nlri) few as_few))))))

-- ---- an UPDATE that may be treated as withdrawn

fine-treated : (time octets : ℕ) (treated : TreatedContent) → length treated.withdrawn + length treated.nlri ≤ octets
    → IsFine octets (Gives (changes_of_treated time treated))
fine-treated time octets treated few =
    fine-lists time octets treated.withdrawn treated.nlri _ few (fine-withdraws time (unicast treated.nlri))

fine-content : (time octets : ℕ) (standing : Option (Option PathAttributes)) (withdrawn nlri : List IpPrefix)
    → length withdrawn + length nlri ≤ octets → IsFine octets (effect_of_message time (Ok (content_with standing withdrawn nlri)))
fine-content time octets None withdrawn nlri few = fine-treated time octets (record { withdrawn = withdrawn; nlri = nlri }) few
fine-content time octets (Some attributes) withdrawn nlri few =
    fine-changes time octets (record { withdrawn = withdrawn; attributes = attributes; nlri = nlri }) few

fine-treating : (time : ℕ) (body : List ℕ) → IsFine (length body) (effect_of_message time (treating_message (treating_update_of body)))
unfolding treating_update_of
fine-treating time body =
    let P : Result MessageContent UpdateFault → Type 0 =
    λ answer. IsFine (length body) (effect_of_message time (treating_message answer)) in
    let bad : (fault : UpdateFault) → P (Err fault) = λ fault. refl in
    bind P (λ _. Unit {0}) (passes (first_fault (length_tests body))) _ (any_ok _) bad (λ lengths _.
    bind P (λ _. Unit {0}) (passes (reset_of (strongest_in (section_field body)))) _ (any_ok _) bad (λ section _.
    bind P _ (listed_prefixes (withdrawn_field body)) _ (listed (withdrawn_field body)) bad (λ withdrawn few.
    bind P _ (listed_prefixes (nlri_field body)) _ (listed (nlri_field body)) bad (λ nlri as_few.
    fine-content time (length body) _ withdrawn nlri (fields_fit body (length withdrawn) (length nlri) few as_few)))))

-- ---- messages and records

IsFine-more : (few many : ℕ) (effect : RecordEffect) → few ≤ many → IsFine few effect → IsFine many effect
IsFine-more few many PassesOver le fine = tt
IsFine-more few many (Gives changes) le fine = let within = fine.1 in (fine.0, omega arith)
IsFine-more few many (Ends reason) le fine = fine

fine-loss : (octets time : ℕ) → 1 ≤ octets → IsFine octets (loss time)
fine-loss octets time some = (refl, omega arith)

fine-update_by : (errors : Errors) (time : ℕ) (body : List ℕ) → IsFine (length body) (effect_of_message time (update_by errors body))
fine-update_by Rfc4271 time body = fine-update time body
fine-update_by Rfc7606 time body = fine-treating time body

fine-typed : (errors : Errors) (time : ℕ) (octets : List ℕ) (kind : MessageType) → 1 ≤ length octets
    → IsFine (length octets) (effect_of_message time (typed_message_by errors kind (drop 19 octets)))
fine-typed errors time octets types.Update some =
    IsFine-more (length (drop 19 octets)) (length octets) _ (omega (arith, length-drop 19 octets))
    (fine-update_by errors time (drop 19 octets))
fine-typed errors time octets types.Notification some = fine-loss (length octets) time some
fine-typed errors time octets kind some = (refl, omega arith)

fine-headed : (errors : Errors) (time : ℕ) (octets : List ℕ) (header : Result MessageType HeaderFault) → 1 ≤ length octets
    → IsFine (length octets) (effect_of_message time (elim header
    [ Ok kind ↦ typed_message_by errors kind (drop 19 octets) | Err fault ↦ Err (of_header fault) ]))
fine-headed errors time octets (Ok kind) some = fine-typed errors time octets kind some
fine-headed errors time octets (Err fault) some = refl

fine-message : (errors : Errors) (time : ℕ) (octets : List ℕ) → IsFine (length octets) (effect_of_message time (message_by errors octets))
unfolding message_by
fine-message errors time [] = refl
fine-message errors time (octet ∷ octets) = fine-headed errors time (octet ∷ octets) (header_of (octet ∷ octets)) (omega arith)

fine-message_entry : (errors : Errors) (peer : PeerId) (time : ℕ) (fields : List ℕ)
    → IsFine (length fields) (effect_of_entry errors peer time (message_entry fields))
fine-message_entry errors peer time fields =
    branch (λ (meaning : Result Meaning MrtFault). IsFine (length fields) (effect_of_entry errors peer time meaning))
    (nat_lt (length fields) 20) _ _
    refl
    (branch (IsFine (length fields)) (is_of peer (big_number 4 fields) (big_number 4 (drop 12 fields))) _ PassesOver
    (IsFine-more (length (drop 20 fields)) (length fields) _ (omega (arith, length-drop 20 fields))
    (fine-message errors time (drop 20 fields)))
    tt)

fine-state : (octets time old new : ℕ) → 1 ≤ octets → IsFine octets (effect_of_state time old new)
fine-state octets time old new some =
    branch (IsFine octets) ((old == 6) && not (new == 6)) (loss time) (Gives []) (fine-loss octets time some) (refl, omega arith)

fine-state_entry : (errors : Errors) (peer : PeerId) (time : ℕ) (fields : List ℕ)
    → IsFine (length fields) (effect_of_entry errors peer time (state_entry fields))
fine-state_entry errors peer time [] = refl
fine-state_entry errors peer time (octet ∷ octets) =
    let fields : List ℕ = octet ∷ octets in
    branch (λ (meaning : Result Meaning MrtFault). IsFine (length fields) (effect_of_entry errors peer time meaning))
    (nat_lt (length fields) 24) _ _
    refl
    (branch (IsFine (length fields)) (is_of peer (big_number 4 fields) (big_number 4 (drop 12 fields))) _ PassesOver
    (fine-state (length fields) time (big_number 2 (drop 20 fields)) (big_number 2 (drop 22 fields)) (omega arith)) tt)

fine-fields : (errors : Errors) (peer : PeerId) (time subtype : ℕ) (fields : List ℕ)
    → IsFine (length fields) (effect_of_entry errors peer time (fields_entry subtype fields))
unfolding fields_entry
fine-fields errors peer time subtype fields =
    let P : Result Meaning MrtFault → Type 0 = λ meaning. IsFine (length fields) (effect_of_entry errors peer time meaning) in
    branch P (not (subtype == 4) && not (subtype == 5)) (Ok Other) _ tt
    (branch P (nat_lt (length fields) 12) (Err FieldsCutShort) _ refl
    (branch P (not (big_number 2 (drop 10 fields) == 1)) (Ok Other) _ tt
    (branch P (subtype == 4) _ _ (fine-message_entry errors peer time fields) (fine-state_entry errors peer time fields))))

pub fine-effect : (errors : Errors) (peer : PeerId) (r : MrtRecord) → IsFine (length r.body) (effect_of errors peer r)
unfolding effect_of entry_of
fine-effect errors peer r =
    let P : Result Meaning MrtFault → Type 0 = λ meaning. IsFine (length r.body) (effect_of_entry errors peer r.time meaning) in
    let fields : List ℕ = drop 4 r.body in
    branch P (r.kind == 16) _ _ (fine-fields errors peer r.time r.subtype r.body)
    (branch P (r.kind == 17) _ (Ok Other)
    (branch P (nat_lt (length r.body) 4) (Err MicrosecondsCutShort) _ refl
    (IsFine-more (length fields) (length r.body) _ (omega (arith, length-drop 4 r.body)) (fine-fields errors peer r.time r.subtype fields)))
    tt)
