-- What a section asks for by RFC 7606, attribute by attribute, and the attributes that are kept of it: for treating.rt,
-- `kept_attributes` of update.rt, and AgreeLemmas.
use Rattle.std.proofs.Common.{◌≡◌, ℕ, ◌-◌, ◌<◌, ◌≤◌, Bool, true, false, eqb, List, [], ◌∷◌, ◌++◌, length, take, get_or, set, Option, Some}
use Rattle.std.proofs.Common.{None, refl, sym, ap, ◌∙◌, arith, inl, inr, append_assoc}
use Rattle.std.specs.Prelude.{if◌then◌else◌}
use Rattle.std.specs.List.{flat_map, AllByRecursion}
use Rattle.std.proofs.lemmas.Bool.{cases_Bool}
use Rattle.std.proofs.lemmas.Grind.{common_steps}
use Rattle.std.proofs.lemmas.List.{append-nil, length-append, take_at}
use Rattle.rs_types.specs.declared.fault.UpdateFault.{UpdateFault}
use Rattle.rs_types.specs.declared.fault.UpdateFault.TheVariants.{MalformedAttributeList}
use Rattle.rs_types.specs.declared.handling.Handling.{Handling}
use Rattle.rs_types.specs.declared.handling.Handling.TheVariants.{Keep, SessionReset}
use Rattle.rs_types.specs.AttributeType.{type_of}
use Rattle.rs_types.specs.FirstFault.{or_else}
use Rattle.rs_update.specs.Handling.{stronger, handling_again, handling_of_own, handling_behind, strongest_behind, handling_of_rest}
use Rattle.rs_update.specs.Handling.{strongest_in, is_kept, kept_behind, kept_of, kept_section}
use Rattle.rs_types.specs.Parts.{AreOctets, parts_of}
use Rattle.rs_types.specs.Section.{Item, FitsItsLength, item_at, items_of, rest_of, own_fault_of, has_type, fault_behind, first_item_fault}
use Rattle.rs_types.specs.Section.{section_fault}
use Rattle.rs_types.specs.Spelling.{spelled_item}
use Rattle.rs_types.proofs.section.ItemLemmas.{item_shrinks, items_of-step, items_of-end}
use Rattle.rs_types.proofs.fields.PartsLemmas.{parts_of-some, parts_of-none}
use Rattle.rs_types.proofs.section.ReceivedLemmas.{IsReceived, item_at-reads, section-is_spelled}
use Rattle.rs_update.proofs.section.SectionLemmas.{IsSeen, fault_of_parts, one_seen}
use Rattle.rs_update.proofs.fields.SpelledParts.{items_of-spelled}

-- ---- the stronger of two

pub stronger-assoc : (a b c : Handling) → stronger (stronger a b) c ≡ stronger a (stronger b c)
stronger-assoc a b c = grind arith

pub stronger-keep : (a : Handling) → stronger a Keep ≡ a
stronger-keep a = grind arith

pub both_keep : (a b : Handling) → stronger a b ≡ Keep → (a ≡ Keep) × (b ≡ Keep)
both_keep a b e = (grind arith, grind arith)

pub is_kept-keep : (a : Handling) → is_kept a ≡ true → a ≡ Keep
is_kept-keep a e = grind arith

-- ---- a section

-- what octets ask for that stand behind attributes
abbrev handling_of_parts : List Item → List Item × List ℕ → Handling
handling_of_parts earlier parts = stronger (strongest_behind earlier parts.0) (handling_of_rest parts.1)

abbrev pub handling_after : List Item → List ℕ → Handling
handling_after earlier octets = handling_of_parts earlier (parts_of item_at octets)

-- what the first attribute asks for, and what stands behind it
pub handling_after-step : (earlier : List Item) (octets : List ℕ) (split : Item × List ℕ) → item_at octets ≡ Some split
    → handling_after earlier octets ≡ stronger (handling_behind earlier split.0) (handling_after (earlier ++ split.0 ∷ []) split.1)
unfolding strongest_behind
handling_after-step earlier octets split e =
    let parts = parts_of-some item_at item_shrinks octets split.0 split.1 e in
    ap (handling_of_parts earlier) parts ∙ (stronger-assoc (handling_behind earlier split.0)
    (strongest_behind (earlier ++ split.0 ∷ []) (items_of split.1)) (handling_of_rest (rest_of split.1)))

-- no attribute is left
pub handling_after-end : (earlier : List Item) (octets : List ℕ) → item_at octets ≡ None
    → handling_after earlier octets ≡ handling_of_rest octets
unfolding strongest_behind
handling_after-end earlier octets e = ap (handling_of_parts earlier) (parts_of-none item_at octets e)

-- what an attribute asks for, by a table of the types that stood earlier
abbrev pub handling_seen : List Bool → Item → Handling
handling_seen seen item = if get_or seen item.kind false then
    handling_again (type_of item.kind) else handling_of_own (type_of item.kind) (own_fault_of item)

pub handling_seen-is : (seen : List Bool) (earlier : List Item) (item : Item) → item.kind < 256 → IsSeen seen earlier
    → handling_seen seen item ≡ handling_behind earlier item
handling_seen-is seen earlier item octet before = rw (before.at_each item.kind octet) refl

-- attributes stood earlier, as a table says, and what they ask for with what is left is what the whole asks for
abbrev pub AsksSo : List Bool → List ℕ → Handling → Handling → Type 0
AsksSo seen octets so_far total = (earlier : List Item) × IsSeen seen earlier × (stronger so_far (handling_after earlier octets) ≡ total)

pub asks_on : (seen : List Bool) (octets behind : List ℕ) (item : Item) (so_far here next total : Handling) → item.kind < 256
    → Some (item, behind) ≡ item_at octets → here ≡ handling_seen seen item → next ≡ stronger so_far here
    → AsksSo seen octets so_far total → AsksSo (set seen item.kind true) behind next total
asks_on seen octets behind item so_far here next total octet read is joined before =
    let earlier = before.0 in
    let after = handling_after (earlier ++ item ∷ []) behind in
    let step : handling_after earlier octets ≡ stronger (handling_behind earlier item) after =
    handling_after-step earlier octets (item, behind) (sym read) in
    let same : here ≡ handling_behind earlier item = is ∙ handling_seen-is seen earlier item octet before.1 in (
      earlier ++ item ∷ [],
      one_seen seen earlier item octet before.1,
      ap (λ (h : Handling). stronger h after) joined ∙ stronger-assoc so_far here after
          ∙ ap (λ (h : Handling). stronger so_far (stronger h after)) same ∙ ap (stronger so_far) (sym step) ∙ before.2,
    )

pub asks_end : (seen : List Bool) (octets : List ℕ) (so_far total : Handling) → None ≡ item_at octets → AsksSo seen octets so_far total
    → stronger so_far (handling_of_rest octets) ≡ total
asks_end seen octets so_far total none before = ap (stronger so_far) (sym (handling_after-end before.0 octets (sym none))) ∙ before.2

-- ---- what is kept

-- an attribute that is kept is the first of its type and without a fault of its own
kept_is : (earlier : List Item) (item : Item) → is_kept (handling_behind earlier item) ≡ true → (has_type item.kind earlier ≡ false)
    × (own_fault_of item ≡ None)
kept_is earlier item e = (grind arith, grind arith)

kept-yes : (earlier : List Item) (item : Item) (later : List Item) → is_kept (handling_behind earlier item) ≡ true
    → kept_behind earlier (item ∷ later) ≡ item ∷ kept_behind (earlier ++ item ∷ []) later
unfolding kept_behind
kept-yes earlier item later e = rw (kept_behind, e) refl

kept-no : (earlier : List Item) (item : Item) (later : List Item) → is_kept (handling_behind earlier item) ≡ false
    → kept_behind earlier (item ∷ later) ≡ kept_behind (earlier ++ item ∷ []) later
unfolding kept_behind
kept-no earlier item later e = rw (kept_behind, e) refl

spelled-step : (earlier : List Item) (item : Item) (later : List Item) (stays : Bool) → is_kept (handling_behind earlier item) ≡ stays
    → flat_map spelled_item (kept_behind earlier (item ∷ later)) ≡ (if stays then spelled_item item else [])
    ++ flat_map spelled_item (kept_behind (earlier ++ item ∷ []) later)
spelled-step earlier item later true e = ap (flat_map spelled_item) (kept-yes earlier item later e)
spelled-step earlier item later false e = ap (flat_map spelled_item) (kept-no earlier item later e)

-- types that stand among some attributes stand among others
abbrev Covers : List Item → List Item → Type 0
Covers kept earlier = (kind : ℕ) → has_type kind kept ≡ true → has_type kind earlier ≡ true

covers_one : (kept earlier : List Item) (item : Item) → Covers kept earlier → Covers kept (earlier ++ item ∷ [])
covers_one kept earlier item covers kind there = grind (arith, common_steps, covers kind)

covers_both : (kept earlier : List Item) (item : Item) → Covers kept earlier → Covers (kept ++ item ∷ []) (earlier ++ item ∷ [])
covers_both kept earlier item covers kind there = grind (arith, common_steps, covers kind)

uncovered : (kept earlier : List Item) (kind : ℕ) → Covers kept earlier → has_type kind earlier ≡ false → has_type kind kept ≡ false
uncovered kept earlier kind covers none = grind (arith, covers kind)

no_fault_behind : (earlier : List Item) (item : Item) → has_type item.kind earlier ≡ false → own_fault_of item ≡ None
    → fault_behind earlier item ≡ None
no_fault_behind earlier item fresh own = grind arith

-- what is kept is without fault
kept_without : (kept earlier items : List Item) → Covers kept earlier → first_item_fault kept (kept_behind earlier items) ≡ None
unfolding first_item_fault kept_behind
kept_without kept earlier [] covers = refl
kept_without kept earlier (item ∷ later) covers =
    elim (cases_Bool (is_kept (handling_behind earlier item))) [
      | inl stays ↦
          let is = kept_is earlier item stays in
          let here : fault_behind kept item ≡ None = no_fault_behind kept item (uncovered kept earlier item.kind covers is.0) is.1 in
          ap (first_item_fault kept) (kept-yes earlier item later stays)
          ∙ ap (λ (found : Option UpdateFault). or_else found
          (first_item_fault (kept ++ item ∷ []) (kept_behind (earlier ++ item ∷ []) later))) here
          ∙ kept_without (kept ++ item ∷ []) (earlier ++ item ∷ []) later (covers_both kept earlier item covers)
      | inr goes ↦ ap (first_item_fault kept) (kept-no earlier item later goes)
          ∙ kept_without kept (earlier ++ item ∷ []) later (covers_one kept earlier item covers)
    ]

kept_fit : (earlier items : List Item) → AllByRecursion IsReceived items → AllByRecursion FitsItsLength (kept_behind earlier items)
unfolding kept_behind
kept_fit earlier [] all = tt
kept_fit earlier (item ∷ later) all =
    elim (cases_Bool (is_kept (handling_behind earlier item))) [
      | inl stays ↦ rw (kept-yes earlier item later stays) (all.0.length_fits, kept_fit (earlier ++ item ∷ []) later all.1)
      | inr goes ↦ rw (kept-no earlier item later goes) (kept_fit (earlier ++ item ∷ []) later all.1)
    ]

kept_shorter : (earlier items : List Item) → length (flat_map spelled_item (kept_behind earlier items))
    ≤ length (flat_map spelled_item items)
unfolding kept_behind
kept_shorter earlier [] = omega arith
kept_shorter earlier (item ∷ later) =
    let rest = kept_shorter (earlier ++ item ∷ []) later in
    let whole = length-append (spelled_item item) (flat_map spelled_item later) in
    elim (cases_Bool (is_kept (handling_behind earlier item))) [
      | inl stays ↦ rw (kept-yes earlier item later stays)
          (omega (arith, rest, whole, length-append (spelled_item item) (flat_map spelled_item (kept_behind (earlier ++ item ∷ []) later))))
      | inr goes ↦ rw (kept-no earlier item later goes) (omega (arith, rest, whole))
    ]

-- the kept attributes are those of the section that they are spelled as
kept_parts : (section : List ℕ) → AreOctets section → parts_of item_at (kept_section section) ≡ (kept_of (items_of section), [])
kept_parts section are = items_of-spelled (kept_of (items_of section)) (kept_fit [] (items_of section) (section-is_spelled section are).1)

pub kept_items : (section : List ℕ) → AreOctets section → items_of (kept_section section) ≡ kept_of (items_of section)
kept_items section are = ap (λ (parts : List Item × List ℕ). parts.0) (kept_parts section are)

pub kept_faultless : (section : List ℕ) → AreOctets section → section_fault (kept_section section) ≡ None
kept_faultless section are =
    ap (fault_of_parts []) (kept_parts section are)
    ∙ ap (λ (found : Option UpdateFault). or_else found None) (kept_without [] [] (items_of section) (λ kind there. there))

pub kept_bound : (section : List ℕ) → AreOctets section → length (kept_section section) ≤ length section
kept_bound section are =
    let spelled = (section-is_spelled section are).0 in
    omega (
      arith,
      kept_shorter [] (items_of section),
      length-append (flat_map spelled_item (items_of section)) (rest_of section),
      ap (length {A = ℕ}) spelled,
    )

-- ---- where nothing is at fault

all_kept : (earlier items : List Item) → strongest_behind earlier items ≡ Keep → (kept_behind earlier items ≡ items)
    × (first_item_fault earlier items ≡ None)
unfolding strongest_behind kept_behind first_item_fault
all_kept earlier [] e = (refl, refl)
all_kept earlier (item ∷ later) e =
    let both = both_keep (handling_behind earlier item) (strongest_behind (earlier ++ item ∷ []) later) e in
    let stays : is_kept (handling_behind earlier item) ≡ true = ap is_kept both.0 in
    let rest = all_kept (earlier ++ item ∷ []) later both.1 in
    let is = kept_is earlier item stays in (
      kept-yes earlier item later stays ∙ ap (λ (items : List Item). item ∷ items) rest.0,
      ap (λ (found : Option UpdateFault). or_else found (first_item_fault (earlier ++ item ∷ []) later))
          (no_fault_behind earlier item is.0 is.1) ∙ rest.1,
    )

no_rest : (none : Bool) → (if none then Keep else SessionReset MalformedAttributeList) ≡ Keep → none ≡ true
no_rest true e = refl
no_rest false e = absurd cc

pub nothing_discarded : (section : List ℕ) → strongest_in section ≡ Keep → (kept_of (items_of section) ≡ items_of section)
    × (section_fault section ≡ None)
nothing_discarded section e =
    let both = both_keep (strongest_behind [] (items_of section)) (handling_of_rest (rest_of section)) e in
    let all = all_kept [] (items_of section) both.0 in
    let rest = no_rest (eqb (length (rest_of section)) 0) both.1 in
    (all.0, rw (all.1, rest) refl)

-- ---- keeping, attribute by attribute

-- attributes stood earlier, as a table says, and what was kept of them with what is kept of what is left is what is kept of the whole
abbrev pub KeepsSo : List Bool → List ℕ → List ℕ → List ℕ → Type 0
KeepsSo seen octets kept whole =
    (earlier : List Item) × IsSeen seen earlier × (kept ++ flat_map spelled_item (kept_behind earlier (items_of octets)) ≡ whole)
    × AreOctets octets

pub keeps_on : (seen : List Bool) (octets behind kept whole : List ℕ) (item : Item) (stays : Bool) → item.kind < 256
    → Some (item, behind) ≡ item_at octets → stays ≡ is_kept (handling_seen seen item)
    → KeepsSo seen octets kept whole → KeepsSo (set seen item.kind true) behind (kept ++ (if stays then spelled_item item else [])) whole
keeps_on seen octets behind kept whole item stays octet read is before =
    let earlier = before.0 in
    let here : is_kept (handling_behind earlier item) ≡ stays =
    ap is_kept (sym (handling_seen-is seen earlier item octet before.1)) ∙ sym is in
    let front = if stays then spelled_item item else [] in
    let later = flat_map spelled_item (kept_behind (earlier ++ item ∷ []) (items_of behind)) in
    let step = ap (λ (items : List Item). flat_map spelled_item (kept_behind earlier items))
    (items_of-step octets (item, behind) (sym read)) ∙ spelled-step earlier item (items_of behind) stays here in (
      earlier ++ item ∷ [],
      one_seen seen earlier item octet before.1,
      append_assoc kept front later ∙ ap (λ (octets : List ℕ). kept ++ octets) (sym step) ∙ before.2,
      (item_at-reads octets (item, behind) before.3 (sym read)).1,
    )

pub keeps_end : (seen : List Bool) (octets kept whole : List ℕ) → None ≡ item_at octets → KeepsSo seen octets kept whole → kept ≡ whole
unfolding kept_behind
keeps_end seen octets kept whole none before =
    sym (append-nil kept) ∙ ap (λ (items : List Item). kept ++ flat_map spelled_item (kept_behind before.0 items))
    (sym (items_of-end octets (sym none))) ∙ before.2

-- the front of octets that an attribute takes is its spelling
front_of : (front behind : List ℕ) → take (length (front ++ behind) - length behind) (front ++ behind) ≡ front
front_of front behind = take_at front behind _ (omega (arith, length-append front behind))

pub taken_is_spelled : (octets behind : List ℕ) (item : Item) → AreOctets octets → Some (item, behind) ≡ item_at octets
    → take (length octets - length behind) octets ≡ spelled_item item
taken_is_spelled octets behind item are read =
    let whole = (item_at-reads octets (item, behind) are (sym read)).0 in
    rw (sym whole) (front_of (spelled_item item) behind)
