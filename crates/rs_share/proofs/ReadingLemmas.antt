-- What goes to all peers of a shared reading: for reader.rt.
use Rattle.std.proofs.Common.{◌≡◌, ◌≢◌, ◌<◌, ℕ, zero, suc, true, false, List, [], ◌∷◌, ◌++◌, map, Option, Some}
use Rattle.std.proofs.Common.{refl, ap, subst, sym, ◌∙◌, arith, inl, inr, length, drop}
use Rattle.std.specs.Prelude.{◌⊎◌, ◌==◌, slice_get, slice_set, slice_index_or}
use Rattle.std.specs.Option.{option_map}
use Rattle.std.proofs.lemmas.Bool.Decides.{eqb_tells}
use Rattle.std.proofs.lemmas.Option.{slice_get-get_or, slice_get-map}
use Rattle.rs_mrt.specs.Record.{MrtRecord}
use Rattle.rs_types.specs.declared.peer_id.PeerId.{PeerId}
use Rattle.rs_share.specs.Lines.{IsAt, MayGive, MayGo, TellsOn}
use Rattle.rs_share.specs.Own.{is_for}
use Rattle.rs_share.specs.Reach.{reaches}
use Rattle.rs_share.specs.Reading.{AreAt, AreAtMore, AreSameLines, TellMore, ids_of}
use Rattle.rs_share.specs.Telling.{Comes}
use Rattle.rs_share.specs.declared.directory.Whom.{Whom}
use Rattle.rs_share.specs.declared.line.Line.{Line}
use Rattle.rs_share.proofs.LineLemmas.{tells-other}

-- ---- places of a list

module _ {X : Type 0} where
  pub stands-of : (xs : List X) (at : ℕ) (x : X) → x ≡ slice_index_or xs at x → at < length xs → slice_get xs at ≡ Some x
  stands-of xs at x is less = slice_get-get_or xs at x less ∙ ap Some (sym is)

  get-by-drop : (xs : List X) (n : ℕ) → slice_get xs n ≡ slice_get (drop n xs) 0
  get-by-drop xs zero = refl
  get-by-drop [] (suc n) = refl
  get-by-drop (x ∷ xs) (suc n) = get-by-drop xs n

  -- what stands there, stands there in a list that is the same from there on
  pub stands-in : (xs ys : List X) (n : ℕ) (x : X) → drop n xs ≡ drop n ys → slice_get xs n ≡ Some x → slice_get ys n ≡ Some x
  stands-in xs ys n x same stands =
      get-by-drop ys n ∙ ap (λ (zs : List X). slice_get zs 0) (sym same) ∙ sym (get-by-drop xs n) ∙ stands

  set-stands : (xs : List X) (at : ℕ) (x : X) (k : ℕ) (y : X) → slice_get (slice_set xs at x) k ≡ Some y
      → ((at ≡ k) × (x ≡ y)) ⊎ ((at ≢ k) × (slice_get xs k ≡ Some y))
  set-stands [] at x k y e = absurd cc
  set-stands (z ∷ zs) zero x zero y e = inl (refl, cc)
  set-stands (z ∷ zs) zero x (suc k) y e = inr ((λ h. omega (arith, h)), e)
  set-stands (z ∷ zs) (suc at) x zero y e = inr ((λ h. omega (arith, h)), e)
  set-stands (z ∷ zs) (suc at) x (suc k) y e =
      elim (set-stands zs at x k y e) [
        | inl here ↦ inl (ap suc here.0, here.1)
        | inr other ↦ inr ((λ h. other.0 (omega (arith, h))), other.1)
      ]

  -- f can't tell the new one from the old
  map-set : {Y : Type 0} (f : X → Y) (xs : List X) (at : ℕ) (old new : X) → slice_get xs at ≡ Some old → f new ≡ f old
      → map f (slice_set xs at new) ≡ map f xs
  map-set f [] at old new e same = refl
  map-set f (y ∷ ys) zero old new e same = let found : y ≡ old = cc in ap (λ z. z ∷ map f ys) (same ∙ ap f (sym found))
  map-set f (y ∷ ys) (suc at) old new e same = ap (λ zs. f y ∷ zs) (map-set f ys at old new e same)

  pub get-mapped : {Y : Type 0} (f : X → Y) (xs : List X) (at : ℕ) (x : X) → slice_get xs at ≡ Some x
      → slice_get (map f xs) at ≡ Some (f x)
  get-mapped f xs at x e = slice_get-map f xs at ∙ ap (option_map f) e

apart-false : (a b : ℕ) → a ≢ b → (a == b) ≡ false
apart-false a b apart = elim (eqb_tells a b) [ inl same ↦ absurd (apart same.1) | inr other ↦ other.0 ]

pub equal-true : (a : ℕ) → (a == a) ≡ true
equal-true a = elim (eqb_tells a a) [ inl same ↦ same.0 | inr other ↦ absurd (other.1 refl) ]

-- ---- one line

module _ {S : Type 0} (comes : Comes S) (room : S → ℕ) (lines : List (Line S)) (place : ℕ) (line : Line S)
    (stands : slice_get lines place ≡ Some line) where
  pub line-at : (count : ℕ) → AreAt comes room lines count → IsAt comes room line count
  line-at count at = record {
    given = at.given;
    may = subst (λ (s : S). MayGive comes room s at.given) (sym (at.are_of place line stands)) at.may;
    tells = at.tell place line stands;
    counted = at.counted;
  }

  pub line-goes : (count : ℕ) (r : MrtRecord) → AreAtMore comes room lines count r → MayGo comes room line count r
  line-goes count r at = record {
    given = at.given;
    may = subst (λ (s : S). MayGive comes room s at.given) (sym (at.are_of place line stands)) at.may;
    more = subst (λ (s : S). MayGive comes room s (at.given ++ r ∷ [])) (sym (at.are_of place line stands)) at.more;
    tells = at.tell place line stands;
    counted = at.counted;
  }

-- the records that were read, and one more
pub went-on : {S : Type 0} (comes : Comes S) (room : S → ℕ) (old new : Line S) (count : ℕ) (r : MrtRecord)
    → MayGo comes room old count r → new.source.value ≡ old.source.value
    → ((given : List MrtRecord) → length given ≡ count → TellsOn old given → TellsOn new (given ++ r ∷ []))
    → (n : ℕ) × IsAt comes room new n
went-on {S} comes room old new count r at source on = (
  length (at.given ++ r ∷ []),
  record {
    given = at.given ++ r ∷ [];
    may = subst (λ (s : S). MayGive comes room s (at.given ++ r ∷ [])) (sym source) at.more;
    tells = on at.given at.counted at.tells;
    counted = refl;
  },
)

-- ---- all lines

module _ {S : Type 0} (lines : List (Line S)) (place : ℕ) (line new : Line S) (stands : slice_get lines place ≡ Some line) where
  pub put-tells : (r : MrtRecord) (count : ℕ)
      → ((k : ℕ) (l : Line S) → slice_get lines k ≡ Some l → is_for l.id r ≡ (place == k))
      → ((given : List MrtRecord) → length given ≡ count → TellsOn line given → TellsOn new (given ++ r ∷ []))
      → TellMore lines (slice_set lines place new) count r
  put-tells r count own on given counted tell k l at =
      elim (set-stands lines place new k l at) [
        | inl here ↦ subst (λ (x : Line S). TellsOn x (given ++ r ∷ [])) here.1 (on given counted (tell place line stands))
        | inr other ↦
            (λ goes. tells-other l given r (tell k l other.1 goes) (own k l other.1 ∙ apart-false place k other.0))
      ]

  pub put-same : new.source.value ≡ line.source.value → new.id ≡ line.id → AreSameLines lines (slice_set lines place new)
  put-same source id = record {
    ids = map-set (λ (l : Line S). l.id) lines place line new stands id;
    sources = λ s are k l at. elim (set-stands lines place new k l at) [
      | inl here ↦ (ap (λ (x : Line S). x.source.value) (sym here.1) ∙ source ∙ are place line stands)
      | inr other ↦ are k l other.1
    ];
  }

-- nobody is concerned
pub nobody-tells : {S : Type 0} (lines : List (Line S)) (r : MrtRecord) (count : ℕ)
    → ((k : ℕ) (l : Line S) → slice_get lines k ≡ Some l → is_for l.id r ≡ false) → TellMore lines lines count r
nobody-tells lines r count other given counted tell k l at = λ goes. tells-other l given r (tell k l at goes) (other k l at)

pub same-lines : {S : Type 0} (lines : List (Line S)) → AreSameLines lines lines
same-lines lines = record { ids = refl; sources = λ s are. are }

-- whom a record concerns, by the lines of a directory
pub own-by : {S : Type 0} (lines : List (Line S)) (peers : List PeerId) (r : MrtRecord) (whom : Whom) → ids_of lines ≡ peers
    → ((place : ℕ) (peer : PeerId) → slice_get peers place ≡ Some peer → reaches whom place ≡ is_for peer r)
    → (k : ℕ) (l : Line S) → slice_get lines k ≡ Some l → is_for l.id r ≡ reaches whom k
own-by lines peers r whom ids reach k l at =
    sym (reach k l.id (ap (λ (ps : List PeerId). slice_get ps k) (sym ids) ∙ get-mapped (λ (x : Line _). x.id) lines k l at))

pub tell-more-of : {S : Type 0} (old new : List (Line S)) (count : ℕ) (r shown : MrtRecord) (at : Option MrtRecord)
    → at ≡ Some r → at ≡ Some shown → TellMore old new count r → TellMore old new count shown
tell-more-of old new count r shown at one two tells =
    let both : Some r ≡ Some shown = sym one ∙ two in
    let same : r ≡ shown = cc in
    subst (λ (x : MrtRecord). TellMore old new count x) same tells

pub at-of : {S : Type 0} (comes : Comes S) (room : S → ℕ) (lines : List (Line S)) (count : ℕ) (r : MrtRecord)
    → AreAtMore comes room lines count r → AreAt comes room lines count
at-of comes room lines count r at = record {
  source = at.source;
  given = at.given;
  may = at.may;
  tell = at.tell;
  are_of = at.are_of;
  counted = at.counted;
}
