-- What a list becomes where one of a peer is put into its place: for `put` of cell.rt.
use Rattle.std.proofs.Common.{◌≡◌, ℕ, ◌+◌, ◌<◌, cond, List, length, get_or, set, refl, sym, ap, ◌∙◌, arith, Result, Ok, Err}
use Rattle.std.specs.List.{insert}
use Rattle.std.specs.Prelude.{IsOk, is_ok}
use Rattle.rs_table.specs.ByPeer.{place_of, with_one}
use Rattle.rs_table.proofs.cell.MemberLemmas.{with-set, with-insert, length-with}

module _ {M : Type 0} (peer_of : M → ℕ) (members : List M) (one : M) (place : ℕ) (is : place ≡ place_of peer_of members (peer_of one)) where
  pub put-set : place < length members → peer_of (get_or members place one) ≡ peer_of one
      → set members place one ≡ with_one peer_of members one
  put-set within same =
      ap (λ at. set members at one) is
      ∙ sym (with-set peer_of members one (omega (arith, within, is)) (ap (λ at. peer_of (get_or members at one)) (sym is) ∙ same))

  -- no one of the peer stands at the place
  abbrev pub IsApart : Type 0
  IsApart = place < length members → peer_of (get_or members place one) ≡ peer_of one → ⊥

  apart_there : IsApart → place_of peer_of members (peer_of one) < length members
      → peer_of (get_or members (place_of peer_of members (peer_of one)) one) ≡ peer_of one → ⊥
  apart_there apart within same = apart (omega (arith, within, is)) (ap (λ at. peer_of (get_or members at one)) is ∙ same)

  pub put-insert : IsApart → insert members place one ≡ with_one peer_of members one
  put-insert apart = ap (λ at. insert members at one) is ∙ sym (with-insert peer_of members one (apart_there apart))

  pub length-put : IsApart → length (with_one peer_of members one) ≡ length members + 1
  length-put apart = length-with peer_of members one (apart_there apart)

pub when_ok : {V E X : Type 0} (r : Result V E) (x y : X) → IsOk r → cond (is_ok r) x y ≡ x
when_ok (Ok v) x y ok = refl
when_ok (Err e) x y ok = absurd (cc ok)
