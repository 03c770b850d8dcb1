-- Lists that grow by one element.
use Rattle.std.proofs.Common.{◌≡◌, ◌∙◌, ◌<◌, ◌+◌, ◌==◌, ℕ, Bool, true, false, List, [], ◌∷◌, ◌++◌, zero, suc, length, map, take, get_or}
use Rattle.std.proofs.Common.{Bor, append_assoc, sym, ap, arith, inl, inr, refl}
use Rattle.std.proofs.Math.Seq.{get_or-append_seam}
use Rattle.std.proofs.lemmas.Bool.{cases_Bool}
use Rattle.std.proofs.lemmas.List.{append-nil, get_or-map, length-append, length-map, map-append, take_more}
use Rattle.std.proofs.lemmas.List.Elements.{filter-append}
use Rattle.std.specs.List.{AllZip, filter}
use Rattle.rs_import_files.specs.Lines.{is_entry, is_ipv4_entry, said_by}
use Rattle.rs_import_files.specs.Texts.{is_ipv6}

-- two lists with one more element each
pub zip_push : {A B : Type 0} (R : A → B → Type 0) (xs : List A) (ys : List B) (x : A) (y : B) → AllZip R xs ys → R x y
    → AllZip R (xs ++ x ∷ []) (ys ++ y ∷ [])
zip_push R [] [] x y all one = (one, tt)
zip_push R [] (b ∷ ys) x y all one = absurd all
zip_push R (a ∷ xs) [] x y all one = absurd all
zip_push R (a ∷ xs) (b ∷ ys) x y all one = (all.0, zip_push R xs ys x y all.1 one)

module _ {A B : Type 0} (keeps : A → Bool) (R : A → B → Type 0) where
  -- one more element that is kept, and what stands for it
  pub kept_more : (xs : List A) (x : A) (ys : List B) (y : B) → keeps x ≡ true → AllZip R (filter keeps xs) ys → R x y
      → AllZip R (filter keeps (xs ++ x ∷ [])) (ys ++ y ∷ [])
  kept_more xs x ys y kept all one =
      rw (filter-append keeps xs (x ∷ []), kept) (zip_push R (filter keeps xs) ys x y all one)

  -- one more element that is passed over
  pub passed_more : (xs : List A) (x : A) (ys : List B) → keeps x ≡ false → AllZip R (filter keeps xs) ys
      → AllZip R (filter keeps (xs ++ x ∷ [])) ys
  passed_more xs x ys passed all = rw (filter-append keeps xs (x ∷ []), passed, append-nil (filter keeps xs)) all

module _ {E : Type 0} (keeps : List ℕ → Bool) (R : List ℕ → E → Type 0) where
  seen : (lines : List (Bor (List ℕ))) (i : ℕ) (d : Bor (List ℕ)) → i < length lines
      → map (λ one. one.now) (take (i + 1) lines) ≡ map (λ one. one.now) (take i lines) ++ (get_or lines i d).now ∷ []
  seen lines i d within =
      ap (map (λ (one : Bor (List ℕ)). one.now)) (take_more lines i d within)
      ∙ map-append (λ (one : Bor (List ℕ)). one.now) (take i lines) (get_or lines i d ∷ [])

  -- one more line that is kept, and its entry
  pub line_kept : (lines : List (Bor (List ℕ))) (i : ℕ) (d : Bor (List ℕ)) (entries : List E) (entry : E) → i < length lines
      → keeps (get_or lines i d).now ≡ true
      → AllZip R (filter keeps (map (λ one. one.now) (take i lines))) entries
      → R (get_or lines i d).now entry
      → AllZip R (filter keeps (map (λ one. one.now) (take (i + 1) lines))) (entries ++ entry ∷ [])
  line_kept lines i d entries entry within kept all one =
      rw (seen lines i d within)
      (kept_more keeps R (map (λ (one : Bor (List ℕ)). one.now) (take i lines)) (get_or lines i d).now entries entry kept all one)

  -- one more line that is passed over
  pub line_passed : (lines : List (Bor (List ℕ))) (i : ℕ) (d : Bor (List ℕ)) (entries : List E) → i < length lines
      → keeps (get_or lines i d).now ≡ false
      → AllZip R (filter keeps (map (λ one. one.now) (take i lines))) entries
      → AllZip R (filter keeps (map (λ one. one.now) (take (i + 1) lines))) entries
  line_passed lines i d entries within passed all =
      rw (seen lines i d within)
      (passed_more keeps R (map (λ (one : Bor (List ℕ)). one.now) (take i lines)) (get_or lines i d).now entries passed all)

-- lists of which one element stands for nothing
module _ {A E : Type 0} (keeps : A → Bool) (R : A → E → Type 0) where
  pub none_kept : (xs : List A) (i : ℕ) (x : A) → i < length xs → x ≡ get_or xs i x → keeps x ≡ true → ((y : E) → ¬ (R x y))
      → (ys : List E) → ¬ (AllZip R (filter keeps xs) ys)
  none_kept [] i x within is kept none ys all = absurd (omega (arith, within))
  none_kept (a ∷ xs) zero x within is kept none ys all = first ys (rw (← is, kept) at all)
    where
      first : (ys : List E) → AllZip R (x ∷ filter keeps xs) ys → ⊥
      first [] all = absurd all
      first (y ∷ ys) all = none y all.0
  none_kept (a ∷ xs) (suc i) x within is kept none ys all =
      let again = none_kept xs i x (omega (arith, within)) is kept none in
      elim (cases_Bool (keeps a)) [
        | inl stays ↦ later again ys (rw stays at all)
        | inr goes ↦ again ys (rw goes at all)
      ]
    where
      later : ((ys : List E) → ¬ (AllZip R (filter keeps xs) ys)) → (ys : List E) → AllZip R (a ∷ filter keeps xs) ys → ⊥
      later again [] all = absurd all
      later again (y ∷ ys) all = again ys all.1

  -- the same of lines
  pub none_line : (lines : List (Bor A)) (i : ℕ) (d : Bor A) → i < length lines → keeps (get_or lines i d).now ≡ true
      → ((y : E) → ¬ (R (get_or lines i d).now y))
      → (ys : List E) → ¬ (AllZip R (filter keeps (map (λ one. one.now) lines)) ys)
  none_line lines i d within kept none =
      none_kept (map (λ (one : Bor A). one.now) lines) i (get_or lines i d).now (omega (arith, length-map lines (λ (one : Bor A). one.now), within))
      (sym (get_or-map (λ (one : Bor A). one.now) lines i d (get_or lines i d).now within)) kept none

  -- the same of an element between others
  pub none_between : (front : List A) (x : A) (back : List A) → keeps x ≡ true → ((y : E) → ¬ (R x y))
      → (ys : List E) → ¬ (AllZip R (filter keeps ((front ++ x ∷ []) ++ back)) ys)
  none_between front x back kept none ys all =
      none_kept ((front ++ x ∷ []) ++ back) (length front) x
      (omega (arith, length-append (front ++ x ∷ []) back, length-append front (x ∷ [])))
      (sym (ap (λ (one : List A). get_or one (length front) x) (append_assoc front (x ∷ []) back) ∙ get_or-append_seam front x back x))
      kept none ys all

-- what a line says that says something, and that is none of IPv6
pub says_entry : (line said : List ℕ) → said ≡ said_by line → (length said == 0) ≡ false → is_entry line ≡ true
says_entry line said says some = rw (← says, some) refl

pub says_ipv4 : (line said : List ℕ) → said ≡ said_by line → (length said == 0) ≡ false → is_ipv6 said ≡ false
    → is_ipv4_entry line ≡ true
says_ipv4 line said says some plain = rw (← says, some, plain) refl
