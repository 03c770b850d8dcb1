-- Chains of neighbour groups: what an added group makes of them, and what is found by going along one.
-- For `push` and `find` of neighbour_groups.rt.
use Rattle.std.proofs.Common.{◌≡◌, ◌∙◌, sym, ap, arith, ℕ, ◌+◌, ◌<◌, ◌≤◌, inl, inr, List, length, set}
use Rattle.std.specs.Prelude.{slice_index}
use Rattle.std.proofs.lemmas.Bool.{cases_eq, cases_lt}
use Rattle.std.proofs.lemmas.List.{get_or-set_same, get_or-set_other, length-set}
use Rattle.rs_choice.specs.declared.neighbour_groups.Mark.{Mark}
use Rattle.rs_choice.specs.declared.neighbour_groups.NeighbourGroups.TheInside.{Inside}
use Rattle.rs_choice.specs.declared.neighbour_groups.TheConstants.{CHAINS}
use Rattle.rs_choice.specs.declared.plan.TheConstants.{MAX_PEERS}
use Rattle.rs_choice.specs.GroupsView.{AreFull, chain_of, IsLastOf}

-- the last of a chain, by what both are
last_where : (neighbours : List ℕ) (n chain last one other : ℕ) → chain ≡ one → last ≡ other → IsLastOf neighbours n one other
    → IsLastOf neighbours n chain last
last_where neighbours n chain last one other same_chain same_last is = rw (same_chain, same_last) is

-- the chains of the first groups, and of them with one more
module _ (neighbours : List ℕ) (len neighbour : ℕ) where
  kept_below : (n chain last : ℕ) → n ≤ len → IsLastOf neighbours n chain last → IsLastOf (set neighbours len neighbour) n chain last
  kept_below n chain last below is i within same =
      let at_i = get_or-set_other neighbours len i neighbour 0 (λ e. omega (arith, e)) in
      let found = is i within (ap chain_of (sym at_i) ∙ same) in
      let at_last = get_or-set_other neighbours len last neighbour 0 (λ e. omega (arith, e, found.1)) in
      (found.0, found.1, ap chain_of at_last ∙ found.2)

  its_own : len < length neighbours → IsLastOf (set neighbours len neighbour) (len + 1) (chain_of neighbour) len
  its_own room i within same = (omega arith, omega arith, ap chain_of (get_or-set_same neighbours len neighbour 0 room))

  another : (chain last : ℕ) → len < length neighbours → (chain ≡ chain_of neighbour → ⊥) → IsLastOf neighbours len chain last
      → IsLastOf (set neighbours len neighbour) (len + 1) chain last
  another chain last room other is i within same =
      let before : i < len = elim (cases_lt i len) [
        | inl below ↦ below
        | inr above ↦
            let e : i ≡ len = omega arith in
            absurd (other (sym same ∙ ap (λ k. chain_of (slice_index (set neighbours len neighbour) k)) e
            ∙ ap chain_of (get_or-set_same neighbours len neighbour 0 room)))
      ] in
      let found = kept_below len chain last (omega arith) is i before same in
      (found.0, omega (arith, found.1), found.2)

  latest_added : (latest : List ℕ) → len < length neighbours → length latest ≡ CHAINS →
      ((chain : ℕ) → chain < CHAINS → IsLastOf neighbours len chain (slice_index latest chain)) →
      (chain : ℕ) → chain < CHAINS → IsLastOf (set neighbours len neighbour) (len + 1) chain
      (slice_index (set latest (chain_of neighbour) len) chain)
  latest_added latest room all are chain within = elim (cases_eq chain (chain_of neighbour)) [
    | inl same ↦ last_where (set neighbours len neighbour) (len + 1) chain _ (chain_of neighbour) len same
        (ap (slice_index (set latest (chain_of neighbour) len)) same ∙ get_or-set_same latest (chain_of neighbour) len 0 (omega arith))
        (its_own room)
    | inr other ↦ rw (get_or-set_other latest (chain_of neighbour) chain len 0 other)
        (another chain (slice_index latest chain) room other (are chain within))
  ]

  earlier_added : (latest earlier : List ℕ) → len < length neighbours → len < length earlier →
      ((chain : ℕ) → chain < CHAINS → IsLastOf neighbours len chain (slice_index latest chain)) →
      ((i : ℕ) → i < len → IsLastOf neighbours i (chain_of (slice_index neighbours i)) (slice_index earlier i)) →
      (i : ℕ) → i < len + 1 → IsLastOf (set neighbours len neighbour) i (chain_of (slice_index (set neighbours len neighbour) i))
      (slice_index (set earlier len (slice_index latest (chain_of neighbour))) i)
  earlier_added latest earlier room places are_latest are i within =
      let before : ℕ = slice_index latest (chain_of neighbour) in
      elim (cases_lt i len) [
        | inl below ↦ last_where (set neighbours len neighbour) i _ _ (chain_of (slice_index neighbours i)) (slice_index earlier i)
            (ap chain_of (get_or-set_other neighbours len i neighbour 0 (λ e. omega (arith, e))))
            (get_or-set_other earlier len i before 0 (λ e. omega (arith, e)))
            (kept_below i (chain_of (slice_index neighbours i)) (slice_index earlier i) (omega arith) (are i below))
        | inr above ↦
            let e : i ≡ len = omega arith in
            rw e (last_where (set neighbours len neighbour) len _ _ (chain_of neighbour) before
            (ap chain_of (get_or-set_same neighbours len neighbour 0 room))
            (get_or-set_same earlier len before 0 places)
            (kept_below len (chain_of neighbour) before (omega arith) (are_latest (chain_of neighbour) (omega arith))))
      ]

-- all of them, with one more
pub pushed_full : (fields : Inside) (mark : Mark) (neighbour : ℕ) → AreFull fields → fields.len < MAX_PEERS → AreFull (record {
  marks = set fields.marks fields.len mark;
  neighbours = set fields.neighbours fields.len neighbour;
  latest = set fields.latest (chain_of neighbour) fields.len;
  earlier = set fields.earlier fields.len (slice_index fields.latest (chain_of neighbour));
  len = fields.len + 1;
})
pushed_full fields mark neighbour full room = record {
  few = omega (arith, room);
  marks = length-set fields.marks fields.len mark ∙ full.marks;
  neighbours = length-set fields.neighbours fields.len neighbour ∙ full.neighbours;
  chains = length-set fields.latest (chain_of neighbour) fields.len ∙ full.chains;
  places = length-set fields.earlier fields.len (slice_index fields.latest (chain_of neighbour)) ∙ full.places;
  latest = latest_added fields.neighbours fields.len neighbour fields.latest (omega (arith, room, full.neighbours)) full.chains full.latest;
  earlier = earlier_added fields.neighbours fields.len neighbour fields.latest fields.earlier (omega (arith, room, full.neighbours))
      (omega (arith, room, full.places)) full.latest full.earlier;
}

-- no group of a neighbour AS is left, where none is left in its chain
pub passed_all : (neighbours : List ℕ) (len neighbour end last : ℕ) → IsLastOf neighbours end (chain_of neighbour) last →
    ((i : ℕ) → end ≤ i → i < len → slice_index neighbours i ≡ neighbour → ⊥) →
    (last < end → chain_of (slice_index neighbours last) ≡ chain_of neighbour → ⊥) → (i : ℕ) → i < len
    → slice_index neighbours i ≡ neighbour → ⊥
passed_all neighbours len neighbour end last is passed none i within same = elim (cases_lt i end) [
  | inl before ↦ let found = is i before (ap chain_of same) in none found.1 found.2
  | inr after ↦ passed i after within same
]
