-- A directory of peers: for directory.rt.
use Rattle.std.proofs.Common.{◌≡◌, ◌≢◌, ◌<◌, ◌+◌, ◌*◌, ℕ, zero, suc, true, false, Bool, List, [], ◌∷◌, ◌++◌, Option, Some, None, refl, subst}
use Rattle.std.proofs.Common.{ap, sym, ◌∙◌, arith, inl, inr, length, cond}
use Rattle.std.specs.Prelude.{◌⊎◌, slice_get, ◌==◌, ◌&&◌}
use Rattle.std.specs.Option.{is_some, option_map}
use Rattle.std.proofs.lemmas.Bool.{and_parts, cases_Bool, cond-true, cond-false}
use Rattle.std.proofs.lemmas.Bool.Decides.{eqb_tells, nat_tests}
use Rattle.std.specs.BTreeMap.{is_at}
use Rattle.std.specs.Ordering.{nat_cmp}
use Rattle.std.proofs.lemmas.Option.{slice_get_within}
use Rattle.rs_types.specs.Peer.{is_of}
use Rattle.rs_types.specs.declared.peer_id.PeerId.{PeerId}
use Rattle.rs_share.specs.Reach.{FitsFields, IsDirectory, key_of}

-- ---- keys

-- two peers with one key have the same fields
key-fields : (p q : PeerId) → FitsFields p → FitsFields q → key_of p ≡ key_of q → (p.address ≡ q.address) × (p.asn ≡ q.asn)
key-fields p q fits_p fits_q same =
    let one : p.address ≡ q.address = omega (arith, fits_p, fits_q, same) in
    let two : p.asn ≡ q.asn = omega (arith, same, one) in
    (one, two)

-- a number that compares as equal to another one is that number
pub is-at-equal : (k q : ℕ) → is_at (nat_cmp k) q ≡ (k == q)
is-at-equal k q = grind (arith, nat_tests)

pub none-at : (found : Option ℕ) → is_some found ≡ false → found ≡ None
none-at None h = refl
none-at (Some place) h = absurd cc

-- ---- finding

-- the fields of a record are those of a peer
fields-are : (peer : PeerId) (address asn : ℕ) → peer.address ≡ address → peer.asn ≡ asn → is_of peer asn address ≡ true
fields-are peer address asn one two =
    elim (eqb_tells peer.asn asn) [
      | inl same ↦
          elim (eqb_tells peer.address address) [
            | inl here ↦ (ap (λ (b : Bool). b && (peer.address == address)) same.0 ∙ here.0)
            | inr apart ↦ absurd (apart.1 one)
          ]
      | inr apart ↦ absurd (apart.1 two)
    ]

are-fields : (peer : PeerId) (address asn : ℕ) → is_of peer asn address ≡ true → (peer.address ≡ address) × (peer.asn ≡ asn)
are-fields peer address asn h =
    let parts = and_parts (peer.asn == asn) (peer.address == address) h in
    elim (eqb_tells peer.asn asn) [
      | inl same ↦
          elim (eqb_tells peer.address address) [
            | inl here ↦ (here.1, same.1)
            | inr apart ↦ absurd (let no = apart.0 in let is = parts.1 in cc)
          ]
      | inr apart ↦ absurd (let no = apart.0 in let is = parts.0 in cc)
    ]

within-by : (peers : List PeerId) (place : ℕ) (stands : Option PeerId) (key : ℕ) → slice_get peers place ≡ stands
    → option_map key_of stands ≡ Some key → place < length peers
within-by peers place (Some peer) key is named = slice_get_within peers place peer is
within-by peers place None key is named = absurd cc

module _ (peers : List PeerId) (at : ℕ → Option ℕ) (d : IsDirectory peers at) (id : PeerId) (fits : FitsFields id) where
  -- what is found is the peer's place
  same-place : (found place : ℕ) (peer : PeerId) → at (key_of id) ≡ Some found → slice_get peers place ≡ Some peer
      → is_of peer id.asn id.address ≡ true → found ≡ place
  same-place found place peer is stands h =
      let fields = are-fields peer id.address id.asn h in
      let key : key_of peer ≡ key_of id = ap (λ (a : ℕ). a * 4294967296 + peer.asn) fields.0 ∙ ap (λ (n : ℕ). id.address * 4294967296 + n) fields.1 in
      let both : Some found ≡ Some place = sym is ∙ ap at (sym key) ∙ d.knows peer place stands in
      cc

  -- the peer at the place that is found is the one that was sought
  found-is : (found : ℕ) (peer : PeerId) → at (key_of id) ≡ Some found → slice_get peers found ≡ Some peer
      → is_of peer id.asn id.address ≡ true
  found-is found peer is stands =
      let named : Some (key_of peer) ≡ Some (key_of id) = sym (ap (option_map key_of) stands) ∙ d.names (key_of id) found is in
      let key : key_of peer ≡ key_of id = cc in
      let fields = key-fields peer id (d.fit peer found stands) fits key in
      fields-are peer id.address id.asn fields.0 fields.1

  pub found-reaches : (found place : ℕ) (peer : PeerId) → at (key_of id) ≡ Some found → slice_get peers place ≡ Some peer
      → (found == place) ≡ is_of peer id.asn id.address
  found-reaches found place peer is stands =
      elim (eqb_tells found place) [
        | inl same ↦
            (same.0 ∙ sym (found-is found peer is (ap (slice_get peers) same.1 ∙ stands)))
        | inr apart ↦
            elim (cases_Bool (is_of peer id.asn id.address)) [
              | inl here ↦ absurd (apart.1 (same-place found place peer is stands here))
              | inr other ↦ (apart.0 ∙ sym other)
            ]
      ]

  pub found-within : (found : ℕ) → at (key_of id) ≡ Some found → found < length peers
  found-within found is = within-by peers found (slice_get peers found) (key_of id) refl (d.names (key_of id) found is)

-- ---- one peer more

get-front : {X : Type 0} (xs ys : List X) (at : ℕ) (x : X) → slice_get xs at ≡ Some x → slice_get (xs ++ ys) at ≡ Some x
get-front [] ys at x e = absurd cc
get-front (y ∷ xs) ys zero x e = e
get-front (y ∷ xs) ys (suc at) x e = get-front xs ys at x e

get-seam : {X : Type 0} (xs : List X) (x : X) → slice_get (xs ++ x ∷ []) (length xs) ≡ Some x
get-seam [] x = refl
get-seam (y ∷ xs) x = get-seam xs x

pub get-more : {X : Type 0} (xs : List X) (x y : X) (at : ℕ) → slice_get (xs ++ x ∷ []) at ≡ Some y
    → (slice_get xs at ≡ Some y) ⊎ ((at ≡ length xs) × (x ≡ y))
get-more [] x y zero e = inr (refl, cc)
get-more [] x y (suc at) e = absurd cc
get-more (z ∷ xs) x y zero e = inl e
get-more (z ∷ xs) x y (suc at) e =
    elim (get-more xs x y at e) [ inl front ↦ inl front | inr last ↦ inr (ap suc last.0, last.1) ]

stays-named : (peers : List PeerId) (peer : PeerId) (key place : ℕ) (stands : Option PeerId) → slice_get peers place ≡ stands
    → option_map key_of stands ≡ Some key → option_map key_of (slice_get (peers ++ peer ∷ []) place) ≡ Some key
stays-named peers peer key place (Some p) is named = ap (option_map key_of) (get-front peers (peer ∷ []) place p is) ∙ named
stays-named peers peer key place None is named = absurd cc

module _ (peers : List PeerId) (old new : ℕ → Option ℕ) (peer : PeerId) (d : IsDirectory peers old) (fits : FitsFields peer)
    (absent : old (key_of peer) ≡ None)
    (is : (key : ℕ) → new key ≡ cond (key_of peer == key) (Some (length peers)) (old key)) where
  names-by : (key place : ℕ) → new key ≡ Some place
      → (((key_of peer == key) ≡ true) × (key_of peer ≡ key)) ⊎ (((key_of peer == key) ≡ false) × (key_of peer ≢ key))
      → option_map key_of (slice_get (peers ++ peer ∷ []) place) ≡ Some key
  names-by key place found (inl same) =
      let both : Some (length peers) ≡ Some place = sym (is key ∙ cond-true _ _ _ same.0) ∙ found in
      let here : length peers ≡ place = cc in
      ap (λ (n : ℕ). option_map key_of (slice_get (peers ++ peer ∷ []) n)) (sym here)
      ∙ ap (option_map key_of) (get-seam peers peer) ∙ ap Some same.1
  names-by key place found (inr apart) =
      stays-named peers peer key place (slice_get peers place) refl (d.names key place (sym (is key ∙ cond-false _ _ _ apart.0) ∙ found))

  knows-by : (p : PeerId) (place : ℕ) → (slice_get peers place ≡ Some p) ⊎ ((place ≡ length peers) × (peer ≡ p))
      → new (key_of p) ≡ Some place
  knows-by p place (inl front) =
      elim (eqb_tells (key_of peer) (key_of p)) [
        | inl same ↦ absurd (let none = absent in let some = d.knows p place front in let key = same.1 in cc)
        | inr apart ↦ (is (key_of p) ∙ cond-false _ _ _ apart.0 ∙ d.knows p place front)
      ]
  knows-by p place (inr last) =
      elim (eqb_tells (key_of peer) (key_of p)) [
        | inl same ↦ (is (key_of p) ∙ cond-true _ _ _ same.0 ∙ ap Some (sym last.0))
        | inr apart ↦ absurd (apart.1 (ap key_of last.1))
      ]

  fit-by : (p : PeerId) (place : ℕ) → (slice_get peers place ≡ Some p) ⊎ ((place ≡ length peers) × (peer ≡ p)) → FitsFields p
  fit-by p place (inl front) = d.fit p place front
  fit-by p place (inr last) = subst FitsFields last.1 fits

  pub one-more : IsDirectory (peers ++ peer ∷ []) new
  one-more = record {
    names = λ key place found. names-by key place found (eqb_tells (key_of peer) key);
    knows = λ p place stands. knows-by p place (get-more peers peer p place stands);
    fit = λ p place stands. fit-by p place (get-more peers peer p place stands);
  }
