-- Members that ascend by peer, where one of a peer comes, and what stays true of all: for `announce` of cell.rt, HeldLemmas and PutLemmas.
use Rattle.std.proofs.Common.{◌≡◌, ℕ, ◌+◌, ◌<◌, ◌≤◌, true, false, cond, not, ◌==◌, List, [], ◌∷◌, length, map, get_or, set, refl, ap, arith}
use Rattle.std.proofs.Common.{inl, inr, ◌∙◌, All, sym}
use Rattle.std.specs.List.{AllByRecursion, insert}
use Rattle.std.specs.Prelude.{nat_lt}
use Rattle.std.proofs.lemmas.List.Edits.{length-insert}
use Rattle.std.proofs.lemmas.Bool.{cases_Bool, eq-eqb}
use Rattle.std.proofs.lemmas.Bool.Decides.{eqb_tells}
use Rattle.std.proofs.lemmas.List.Elements.{All-from_recursion, recursion_from_All}
use Rattle.rs_choice.specs.Naturality.{filter-map}
use Rattle.rs_table.specs.ByPeer.{place_of, with_one, without_one}

module _ {M : Type 0} (peer_of : M → ℕ) where
  -- members that are made of those of another kind
  module _ {N : Type 0} (f : N → M) where
    pub map-with : (members : List N) (one : N) → map f (with_one (λ n. peer_of (f n)) members one)
        ≡ with_one peer_of (map f members) (f one)
    map-with [] one = refl
    map-with (first ∷ later) one =
        elim (cases_Bool (nat_lt (peer_of (f first)) (peer_of (f one)))) [
          | inl less ↦ rw less (ap (λ rest. f first ∷ rest) (map-with later one))
          | inr more ↦ rw more (elim (peer_of (f first) == peer_of (f one)) as
              (λ b. map f (cond b (one ∷ later) (one ∷ first ∷ later)) ≡ cond b (f one ∷ map f later) (f one ∷ f first ∷ map f later))
              [ true ↦ refl | false ↦ refl ])
        ]

    pub map-without : (members : List N) (peer : ℕ) → map f (without_one (λ n. peer_of (f n)) members peer)
        ≡ without_one peer_of (map f members) peer
    map-without members peer = sym (filter-map f (λ one. not (peer_of one == peer)) members)

  pub with-some : (members : List M) (one : M) → 0 < length (with_one peer_of members one)
  with-some [] one = omega arith
  with-some (first ∷ later) one =
      elim (cases_Bool (nat_lt (peer_of first) (peer_of one))) [
        | inl less ↦ rw less (omega arith)
        | inr more ↦ elim (cases_Bool (peer_of first == peer_of one)) [
          | inl same ↦ rw (more, same) (omega arith)
          | inr apart ↦ rw (more, apart) (omega arith)
        ]
      ]

  -- ---- places

  pub place-within : (members : List M) (peer : ℕ) → place_of peer_of members peer ≤ length members
  place-within [] peer = omega arith
  place-within (one ∷ later) peer =
      elim (cases_Bool (nat_lt (peer_of one) peer)) [
        | inl less ↦ rw less (omega (arith, place-within later peer))
        | inr more ↦ rw more (omega arith)
      ]

  -- the peer has one at its place
  abbrev IsThere : List M → M → Type 0
  IsThere members one = peer_of (get_or members (place_of peer_of members (peer_of one)) one) ≡ peer_of one

  -- it has none
  abbrev IsApart : List M → M → Type 0
  IsApart members one = place_of peer_of members (peer_of one) < length members → IsThere members one → ⊥

  pub with-set : (members : List M) (one : M) → place_of peer_of members (peer_of one) < length members → IsThere members one
      → with_one peer_of members one ≡ set members (place_of peer_of members (peer_of one)) one
  with-set [] one within same = absurd (omega (arith, within))
  with-set (first ∷ later) one within same =
      elim (cases_Bool (nat_lt (peer_of first) (peer_of one))) [
        | inl less ↦ rw less (
            let inside : place_of peer_of later (peer_of one) < length later = omega (arith, rw less at within) in
            ap (λ rest. first ∷ rest) (with-set later one inside (rw less at same)))
        | inr more ↦
            let here : peer_of first ≡ peer_of one = rw more at same in
            rw (more, eq-eqb (peer_of first) (peer_of one) here) refl
      ]

  pub with-insert : (members : List M) (one : M) → IsApart members one
      → with_one peer_of members one ≡ insert members (place_of peer_of members (peer_of one)) one
  with-insert [] one none = refl
  with-insert (first ∷ later) one none =
      elim (cases_Bool (nat_lt (peer_of first) (peer_of one))) [
        | inl less ↦ rw less (ap (λ rest. first ∷ rest) (with-insert later one
            (λ within same. (rw less at none) (omega (arith, within)) same)))
        | inr more ↦ elim (eqb_tells (peer_of first) (peer_of one)) [
          | inl same ↦ absurd ((rw more at none) (omega arith) same.1)
          | inr apart ↦ rw (more, apart.0) refl
        ]
      ]

  pub length-with : (members : List M) (one : M) → IsApart members one → length (with_one peer_of members one) ≡ length members + 1
  length-with members one none =
      ap length (with-insert members one none) ∙ length-insert members (place_of peer_of members (peer_of one)) one
      (place-within members (peer_of one))

  -- ---- what holds of all

  module _ (P : M → Type 0) where
    with_keeps : (members : List M) (one : M) → P one → AllByRecursion P members → AllByRecursion P (with_one peer_of members one)
    with_keeps [] one is all = (is, tt)
    with_keeps (first ∷ later) one is all =
        elim (nat_lt (peer_of first) (peer_of one)) as (λ b. AllByRecursion P
        (cond b (first ∷ with_one peer_of later one) (cond (peer_of first == peer_of one) (one ∷ later) (one ∷ first ∷ later)))) [
          | true ↦ (all.0, with_keeps later one is all.1)
          | false ↦ elim (peer_of first == peer_of one) as (λ b. AllByRecursion P (cond b (one ∷ later) (one ∷ first ∷ later)))
              [ true ↦ (is, all.1) | false ↦ (is, all) ]
        ]

    pub All-with : (members : List M) (one : M) → P one → All P members → All P (with_one peer_of members one)
    All-with members one is all =
        All-from_recursion P (with_one peer_of members one) (with_keeps members one is (recursion_from_All P members all))
