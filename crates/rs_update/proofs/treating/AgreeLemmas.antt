-- RFC 7606 beside RFC 4271: where nothing is at fault they agree, and the strongest of what is found counts.
-- For `without_a_fault_both_standards_agree` and `the_strongest_that_is_found_counts` of laws.rt.
use Rattle.std.proofs.Common.{◌≡◌, ℕ, ◌<◌, ◌≤◌, List, [], ◌∷◌, ◌++◌, ◌⊎◌, inl, inr, drop, Option, Some, None, Result, Ok, Err, refl, sym}
use Rattle.std.proofs.Common.{ap, subst, ◌∙◌, arith, append_assoc}
use Rattle.std.proofs.lemmas.List.{append-nil}
use Rattle.rs_update.specs.declared.errors.Errors.TheVariants.{Rfc7606}
use Rattle.rs_update.specs.declared.fault.HeaderFault.{HeaderFault}
use Rattle.rs_update.specs.declared.fault.MessageFault.{MessageFault}
use Rattle.rs_types.specs.declared.fault.UpdateFault.{UpdateFault}
use Rattle.rs_types.specs.declared.handling.Handling.{Handling}
use Rattle.rs_types.specs.declared.handling.Handling.TheVariants.{Keep, AttributeDiscard, TreatAsWithdraw, SessionReset}
use Rattle.rs_update.specs.declared.header.MessageType.{MessageType}
use Rattle.rs_types.specs.FirstFault.{first_fault}
use Rattle.rs_update.specs.Fault.{of_header}
use Rattle.rs_update.specs.Handling.{stronger, handling_behind, strongest_behind, handling_of_rest, strongest_in, kept_of}
use Rattle.rs_update.specs.Header.{header_of}
use Rattle.rs_types.specs.IpPrefix.{IpPrefix}
use Rattle.rs_update.specs.Laws.{StandardsAgree, StrongestIsFound, AskForLess, IsFirstAsked, strength}
use Rattle.rs_update.specs.Message.{MessageContent, UpdateContent, IsUpdate, length_tests, listed_prefixes, announced_attributes}
use Rattle.rs_update.specs.Message.{withdrawn_field, section_field, nlri_field, update_of, typed_message, message_of}
use Rattle.rs_types.specs.PathAttributes.{PathAttributes}
use Rattle.rs_types.specs.Section.{Item, items_of, rest_of, fault_behind, first_item_fault, section_fault}
use Rattle.rs_update.specs.Treating.{reset_of, kept_attributes, standing_attributes, treating_update_of, typed_message_by, message_by}
use Rattle.rs_update.proofs.message.MessageLemmas.{steps}
use Rattle.rs_update.proofs.section.FirstFaultLemmas.{nothing_before}
use Rattle.rs_update.proofs.treating.HandlingLemmas.{nothing_discarded}
use Rattle.rs_update.proofs.treating.TreatingLemmas.{treating_steps}
use Rattle.rs_types.proofs.section.SoundLemmas.{neither, section_without}

-- ---- where nothing is at fault

keeps : (earlier : List Item) (item : Item) → fault_behind earlier item ≡ None → handling_behind earlier item ≡ Keep
keeps earlier item e = grind arith

all_keep : (earlier items : List Item) → first_item_fault earlier items ≡ None → strongest_behind earlier items ≡ Keep
unfolding first_item_fault strongest_behind
all_keep earlier [] e = refl
all_keep earlier (item ∷ later) e =
    let parts = neither (fault_behind earlier item) (first_item_fault (earlier ++ item ∷ []) later) e in
    ap (λ (here : Handling). stronger here (strongest_behind (earlier ++ item ∷ []) later)) (keeps earlier item parts.0)
    ∙ all_keep (earlier ++ item ∷ []) later parts.1

section_keeps : (section : List ℕ) → section_fault section ≡ None → strongest_in section ≡ Keep
section_keeps section e =
    let parts = section_without section e in
    rw (all_keep [] (items_of section) parts.0, parts.1) refl

announced_kept : (section nlri : List ℕ) (attributes : Option PathAttributes) → kept_of (items_of section) ≡ items_of section
    → announced_attributes section nlri ≡ Ok attributes → kept_attributes section nlri ≡ Some attributes
announced_kept section nlri attributes all e = grind arith

steps_agree : (lengths section reset : Option UpdateFault) (announced : Result (Option PathAttributes) UpdateFault)
    (withdrawn nlri : Result (List IpPrefix) UpdateFault) (standing : Option (Option PathAttributes)) (content : UpdateContent)
    → (section ≡ None → reset ≡ None) → (section ≡ None → (attributes : Option PathAttributes) → announced ≡ Ok attributes
    → standing ≡ Some attributes)
    → steps lengths section announced withdrawn nlri ≡ Ok content
    → treating_steps lengths reset withdrawn nlri standing ≡ Ok (IsUpdate content)
steps_agree lengths section reset announced withdrawn nlri standing content resets stands e = grind arith

update_agrees : (body : List ℕ) (content : UpdateContent) → update_of body ≡ Ok content → treating_update_of body ≡ Ok (IsUpdate content)
unfolding update_of treating_update_of
update_agrees body content e =
    let section = section_field body in
    steps_agree (first_fault (length_tests body)) (section_fault section) (reset_of (strongest_in section))
    (announced_attributes section (nlri_field body)) (listed_prefixes (withdrawn_field body)) (listed_prefixes (nlri_field body))
    (standing_attributes (strongest_in section) section (nlri_field body)) content
    (λ none. ap reset_of (section_keeps section none))
    (λ none attributes announced.
    ap (λ (handling : Handling). standing_attributes handling section (nlri_field body)) (section_keeps section none)
    ∙ announced_kept section (nlri_field body) attributes (nothing_discarded section (section_keeps section none)).0 announced)
    e

headers_agree : (header : Result MessageType HeaderFault) (body : List ℕ) (content : MessageContent)
    → ◌≡◌ {A = Result MessageContent MessageFault} (elim header as (λ x. Result MessageContent MessageFault)
    [ Ok kind ↦ typed_message kind body | Err fault ↦ Err (of_header fault) ]) (Ok content)
    → ◌≡◌ {A = Result MessageContent MessageFault} (elim header as (λ x. Result MessageContent MessageFault)
    [ Ok kind ↦ typed_message_by Rfc7606 kind body | Err fault ↦ Err (of_header fault) ]) (Ok content)
headers_agree header body content e = grind (arith, update_agrees body)

pub both_agree : StandardsAgree
unfolding message_by message_of
both_agree octets content e = headers_agree (header_of octets) (drop 19 octets) content e

-- ---- the strongest counts

first_counts : (a b : Handling) → strength a ≤ strength (stronger a b)
first_counts a b = grind arith

later_counts : (a b : Handling) → strength b ≤ strength (stronger a b)
later_counts a b = grind arith

each_counts : (earlier before : List Item) (item : Item) (after : List Item)
    → strength (handling_behind (earlier ++ before) item) ≤ strength (strongest_behind earlier (before ++ item ∷ after))
unfolding strongest_behind
each_counts earlier [] item after =
    rw append-nil (first_counts (handling_behind earlier item) (strongest_behind (earlier ++ item ∷ []) after))
each_counts earlier (first ∷ before) item after =
    let later = each_counts (earlier ++ first ∷ []) before item after in
    let moved : strength (handling_behind (earlier ++ first ∷ before) item)
    ≤ strength (strongest_behind (earlier ++ first ∷ []) (before ++ item ∷ after)) =
    rw (append_assoc earlier (first ∷ []) before) at later in
    omega (arith, moved, later_counts (handling_behind earlier first) (strongest_behind (earlier ++ first ∷ []) (before ++ item ∷ after)))

-- the stronger of two is the first where the second isn't stronger
stronger_of : (a b : Handling) → ((strength b ≤ strength a) × (stronger a b ≡ a)) ⊎ ((strength a < strength b) × (stronger a b ≡ b))
stronger_of Keep Keep = inl (omega arith, refl)
stronger_of Keep AttributeDiscard = inr (omega arith, refl)
stronger_of Keep TreatAsWithdraw = inr (omega arith, refl)
stronger_of Keep (SessionReset fault) = inr (omega arith, refl)
stronger_of AttributeDiscard Keep = inl (omega arith, refl)
stronger_of AttributeDiscard AttributeDiscard = inl (omega arith, refl)
stronger_of AttributeDiscard TreatAsWithdraw = inr (omega arith, refl)
stronger_of AttributeDiscard (SessionReset fault) = inr (omega arith, refl)
stronger_of TreatAsWithdraw Keep = inl (omega arith, refl)
stronger_of TreatAsWithdraw AttributeDiscard = inl (omega arith, refl)
stronger_of TreatAsWithdraw TreatAsWithdraw = inl (omega arith, refl)
stronger_of TreatAsWithdraw (SessionReset fault) = inr (omega arith, refl)
stronger_of (SessionReset fault) Keep = inl (omega arith, refl)
stronger_of (SessionReset fault) AttributeDiscard = inl (omega arith, refl)
stronger_of (SessionReset fault) TreatAsWithdraw = inl (omega arith, refl)
stronger_of (SessionReset fault) (SessionReset other) = inl (omega arith, refl)

-- the same of attributes that stand behind others
abbrev AskForLessBehind : List Item → List Item → Handling → Type 0
AskForLessBehind earlier items handling =
    (before : List Item) (item : Item) (after : List Item) → items ≡ before ++ item ∷ after
    → strength (handling_behind (earlier ++ before) item) < strength handling

abbrev IsFirstAskedBehind : List Item → List Item → Handling → Type 0
IsFirstAskedBehind earlier items handling =
    (before : List Item) × (item : Item) × (after : List Item)
    × (items ≡ before ++ item ∷ after) × (handling_behind (earlier ++ before) item ≡ handling) × AskForLessBehind earlier before handling

less_cons : (earlier : List Item) (first : Item) (items : List Item) (handling : Handling)
    → strength (handling_behind earlier first) < strength handling → AskForLessBehind (earlier ++ first ∷ []) items handling
    → AskForLessBehind earlier (first ∷ items) handling
less_cons earlier first items handling here later [] item after e =
    let same : first ≡ item = cc in
    rw append-nil (subst (λ (one : Item). strength (handling_behind earlier one) < strength handling) same here)
less_cons earlier first items handling here later (other ∷ before) item after e =
    let same : first ≡ other = cc in
    let rest : items ≡ before ++ item ∷ after = cc in
    rw (← same, ← append_assoc earlier (first ∷ []) before) (later before item after rest)

first_asked : (earlier items : List Item) → (strongest_behind earlier items ≡ Keep)
    ⊎ IsFirstAskedBehind earlier items (strongest_behind earlier items)
unfolding strongest_behind
first_asked earlier [] = inl refl
first_asked earlier (first ∷ items) =
    let behind = strongest_behind (earlier ++ first ∷ []) items in
    elim (stronger_of (handling_behind earlier first) behind) [
      | inl here ↦ inr (
        [],
        first,
        items,
        refl,
        rw append-nil (sym here.1),
        λ before item after e. absurd (nothing_before before item after e),
      )
      | inr later ↦
          elim (first_asked (earlier ++ first ∷ []) items) [
            | inl kept ↦
                let none : strength behind ≡ 0 = ap strength kept in
                absurd (omega (arith, later.0, none))
            | inr asked ↦
                let less : AskForLessBehind earlier (first ∷ asked.0) behind = less_cons earlier first asked.0 behind later.0 asked.5 in
                inr (
                  first ∷ asked.0,
                  asked.1,
                  asked.2,
                  ap (λ (xs : List Item). first ∷ xs) asked.3,
                  rw (← append_assoc earlier (first ∷ []) asked.0) (asked.4 ∙ sym later.1),
                  subst (AskForLessBehind earlier (first ∷ asked.0)) (sym later.1) less,
                )
          ]
    ]

pub strongest_counts : StrongestIsFound
strongest_counts section =
    let items = items_of section in
    let behind = strongest_behind [] items in
    let rest = handling_of_rest (rest_of section) in
    let each : (before : List Item) (item : Item) (after : List Item) → items ≡ before ++ item ∷ after
    → strength (handling_behind before item) ≤ strength behind =
    λ before item after e. rw e (each_counts [] before item after) in (
      λ before item after e. omega (arith, each before item after e, first_counts behind rest),
      later_counts behind rest,
      elim (stronger_of behind rest) [
        | inl here ↦
            elim (first_asked [] items) [
              | inl kept ↦ inr (inr (here.1 ∙ kept))
              | inr asked ↦ inl (subst (IsFirstAsked items) (sym here.1) asked)
            ]
        | inr later ↦
            inr (inl (
              subst (AskForLess items) (sym later.1) (λ before item after e. omega (arith, each before item after e, later.0)),
              sym later.1,
            ))
      ],
    )
