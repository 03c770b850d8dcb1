-- Neighbour groups in two arrays: reading and writing one of them.
-- For neighbour_groups.rt.
use Rattle.std.proofs.Common.{◌≡◌, ◌<◌, ◌≤◌, ◌∙◌, ap, refl, sym, arith, ℕ, suc, zero, ◌+◌, false, List, [], ◌∷◌, ◌++◌, length, take, set}
use Rattle.std.proofs.Common.{get_or, Some, None}
use Rattle.std.specs.Prelude.{slice_get, slice_index, IfSome}
use Rattle.std.proofs.Math.Seq.{take-set-lt}
use Rattle.std.proofs.lemmas.List.{length-take-le, set-get_or, take_more_set}
use Rattle.std.proofs.lemmas.Option.{slice_get_within}
use Rattle.rs_choice.specs.declared.neighbour_groups.Group.{Group}
use Rattle.rs_choice.specs.declared.neighbour_groups.Mark.{Mark}
use Rattle.rs_choice.specs.Grouping.{IsNeighboursGroup}
use Rattle.rs_choice.specs.declared.neighbour_groups.NeighbourGroups.TheInside.{Inside}
use Rattle.rs_choice.specs.declared.plan.TheConstants.{MAX_PEERS}
use Rattle.rs_choice.specs.GroupsView.{AreFull, groups_view, joined_parts, mark_of}

pub length_joined : (marks : List Mark) (neighbours : List ℕ) → length marks ≡ length neighbours
    → length (joined_parts marks neighbours) ≡ length marks
length_joined [] neighbours same = refl
length_joined (mark ∷ marks) [] same = absurd (omega (arith, same))
length_joined (mark ∷ marks) (neighbour ∷ neighbours) same = ap suc (length_joined marks neighbours (omega (arith, same)))

pub set_joined : (marks : List Mark) (neighbours : List ℕ) (i : ℕ) (group : Group) →
    joined_parts (set marks i (mark_of group)) (set neighbours i group.neighbour) ≡ set (joined_parts marks neighbours) i group
set_joined [] neighbours i group = refl
set_joined (mark ∷ marks) [] zero group = refl
set_joined (mark ∷ marks) [] (suc i) group = refl
set_joined (mark ∷ marks) (neighbour ∷ neighbours) zero group = refl
set_joined (mark ∷ marks) (neighbour ∷ neighbours) (suc i) group =
    ap (λ rest. record { place = mark.place; keeps_out = mark.keeps_out; neighbour = neighbour } ∷ rest)
    (set_joined marks neighbours i group)

-- the group of a number, of the first ones
pub joined_at : (marks : List Mark) (neighbours : List ℕ) (len i : ℕ) (d : Mark) (e : ℕ) → length marks ≡ length neighbours
    → len ≤ length marks → i < len →
    slice_get (take len (joined_parts marks neighbours)) i
    ≡ Some (record { place = (get_or marks i d).place; keeps_out = (get_or marks i d).keeps_out; neighbour = get_or neighbours i e })
joined_at marks neighbours zero i d e same few within = absurd (omega (arith, within))
joined_at [] neighbours (suc len) i d e same few within = absurd (omega (arith, few))
joined_at (one ∷ marks) [] (suc len) i d e same few within = absurd (omega (arith, same))
joined_at (one ∷ marks) (other ∷ neighbours) (suc len) zero d e same few within = refl
joined_at (one ∷ marks) (other ∷ neighbours) (suc len) (suc i) d e same few within =
    joined_at marks neighbours len i d e (omega (arith, same)) (omega (arith, few)) (omega (arith, within))

-- what the first ones become where one of them is written, or the next one
module _ (marks : List Mark) (neighbours : List ℕ) (now : List Group) (len : ℕ) where
  pub view_length : length marks ≡ length neighbours → len ≤ length marks → take len (joined_parts marks neighbours) ≡ now
      → length now ≡ len
  view_length same few view =
      let all = length_joined marks neighbours same in
      rw (← view) (length-take-le len (joined_parts marks neighbours) (omega (arith, few, all)))

  pub written_at : (group : Group) → length marks ≡ length neighbours → len ≤ length marks → take len (joined_parts marks neighbours) ≡ now
      → (i : ℕ) → i < length now →
      take len (joined_parts (set marks i (mark_of group)) (set neighbours i group.neighbour)) ≡ set now i group
  written_at group same few view i within =
      let count = view_length same few view in
      ap (take len) (set_joined marks neighbours i group)
      ∙ take-set-lt len (joined_parts marks neighbours) i group (omega (arith, within, count))
      ∙ ap (λ list. set list i group) view

  pub written_next : (group : Group) → length marks ≡ length neighbours → len < length marks
      → take len (joined_parts marks neighbours) ≡ now →
      take (len + 1) (joined_parts (set marks len (mark_of group)) (set neighbours len group.neighbour)) ≡ now ++ group ∷ []
  written_next group same within view =
      let all = length_joined marks neighbours same in
      ap (take (len + 1)) (set_joined marks neighbours len group)
      ∙ take_more_set (joined_parts marks neighbours) len group (omega (arith, within, all))
      ∙ ap (λ list. list ++ group ∷ []) view

abbrev no_mark : Mark
no_mark = record { place = 0; keeps_out = false }

-- the same of groups by their fields
module _ (fields : Inside) (now : List Group) (full : AreFull fields) (view : groups_view fields ≡ now) where
  same_parts : length fields.marks ≡ length fields.neighbours
  same_parts = full.marks ∙ sym full.neighbours

  few : fields.len ≤ length fields.marks
  few = omega (arith, full.few, full.marks)

  pub counted : length now ≡ fields.len
  counted = view_length fields.marks fields.neighbours now fields.len same_parts few view

  pub group_at : (i : ℕ) → i < fields.len →
      slice_get now i ≡ Some (record {
        place = (get_or fields.marks i no_mark).place;
        keeps_out = (get_or fields.marks i no_mark).keeps_out;
        neighbour = slice_index fields.neighbours i;
      })
  group_at i within =
      ap (λ groups. slice_get groups i) (sym view) ∙ joined_at fields.marks fields.neighbours fields.len i no_mark 0 same_parts few within

  -- the group of a neighbour AS is where that is written
  pub found_at : (i neighbour : ℕ) → i < fields.len → slice_index fields.neighbours i ≡ neighbour → IsNeighboursGroup now neighbour (Some i)
  found_at i neighbour within is = (_, group_at i within, is)

  pub found_nowhere : (neighbour : ℕ) → ((i : ℕ) → i < fields.len → slice_index fields.neighbours i ≡ neighbour → ⊥)
      → IsNeighboursGroup now neighbour None
  found_nowhere neighbour none i group at is =
      let within : i < fields.len = omega (arith, slice_get_within now i group at, counted) in
      let there = group_at i within in
      let e = sym at ∙ there in
      none i within (cc (e, is))

  -- where the neighbour AS stays, it needn't be written
  pub marked_at : (group : Group) (i : ℕ) → i < length now → IfSome (slice_get now i) (λ held. group.neighbour ≡ held.neighbour) →
      take fields.len (joined_parts (set fields.marks i (mark_of group)) fields.neighbours) ≡ set now i group
  marked_at group i within keeps =
      let stays : group.neighbour ≡ slice_index fields.neighbours i = rw (group_at i (omega (arith, within, counted))) at keeps in
      ap (λ list. take fields.len (joined_parts (set fields.marks i (mark_of group)) list))
      (sym (ap (set fields.neighbours i) stays ∙ set-get_or fields.neighbours i 0))
      ∙ written_at fields.marks fields.neighbours now fields.len group same_parts few view i within

  pub pushed : (group : Group) → length now < MAX_PEERS →
      take (fields.len + 1) (joined_parts (set fields.marks fields.len (mark_of group)) (set fields.neighbours fields.len group.neighbour))
      ≡ now ++ group ∷ []
  pushed group room =
      written_next fields.marks fields.neighbours now fields.len group same_parts (omega (arith, room, counted, full.marks)) view
