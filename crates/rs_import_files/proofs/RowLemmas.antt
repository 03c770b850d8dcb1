-- Lists of entries that grow by one row, and by the rows of one list.
use Rattle.std.proofs.Common.{◌≡◌, ◌∙◌, ◌<◌, ◌+◌, ℕ, Bool, true, false, List, [], ◌∷◌, ◌++◌, length, map, take, get_or, Bor, Some}
use Rattle.std.proofs.Common.{zero, suc, append_assoc, subst, sym, ap, refl, arith}
use Rattle.std.proofs.lemmas.List.{append-nil, get_or-map, length-map, map-append, take_more}
use Rattle.std.proofs.lemmas.List.Elements.{filter-append}
use Rattle.std.proofs.lemmas.Option.{same_Some}
use Rattle.std.specs.List.{AllZip, filter}
use Rattle.json.specs.Json.{Json, Members, array, document, object}
use Rattle.json.specs.Value.{items_of, members_view, value_view}
use Rattle.json.specs.declared.value.Value.{Value}
use Rattle.rs_import_files.specs.JsonRows.{AreListsOf, IsJsonOf, IsListOf, ListsHave}
use Rattle.rs_import_files.specs.Texts.{StandsForNone}
use Rattle.rs_import_files.proofs.LineLemmas.{kept_more, none_kept, passed_more, zip_push}

module _ {A B E : Type 0} (v : A → B) (R : B → E → Type 0) where
  seen_more : (xs : List A) (i : ℕ) (x : A) → i < length xs → x ≡ get_or xs i x → map v (take (i + 1) xs) ≡ map v (take i xs) ++ v x ∷ []
  seen_more xs i x within is =
      ap (map v) (take_more xs i x within ∙ ap (λ one. take i xs ++ one ∷ []) (sym is)) ∙ map-append v (take i xs) (x ∷ [])

  -- one more row, and its entry
  pub row_more : (xs : List A) (i : ℕ) (x : A) (ys : List E) (y : E) → i < length xs → x ≡ get_or xs i x → AllZip R (map v (take i xs)) ys
      → R (v x) y
      → AllZip R (map v (take (i + 1) xs)) (ys ++ y ∷ [])
  row_more xs i x ys y within is all one = rw (seen_more xs i x within is) (zip_push R (map v (take i xs)) ys (v x) y all one)

  -- the same, where not each row counts
  pub row_kept : (keeps : B → Bool) (xs : List A) (i : ℕ) (x : A) (ys : List E) (y : E) → i < length xs → x ≡ get_or xs i x
      → keeps (v x) ≡ true
      → AllZip R (filter keeps (map v (take i xs))) ys
      → R (v x) y
      → AllZip R (filter keeps (map v (take (i + 1) xs))) (ys ++ y ∷ [])
  row_kept keeps xs i x ys y within is kept all one =
      rw (seen_more xs i x within is) (kept_more keeps R (map v (take i xs)) (v x) ys y kept all one)

  pub row_passed : (keeps : B → Bool) (xs : List A) (i : ℕ) (x : A) (ys : List E) → i < length xs → x ≡ get_or xs i x
      → keeps (v x) ≡ false
      → AllZip R (filter keeps (map v (take i xs))) ys
      → AllZip R (filter keeps (map v (take (i + 1) xs))) ys
  row_passed keeps xs i x ys within is passed all =
      rw (seen_more xs i x within is) (passed_more keeps R (map v (take i xs)) (v x) ys passed all)

-- two lists, one behind the other
pub zip_append : {A B : Type 0} (R : A → B → Type 0) (xs more : List A) (ys later : List B) → AllZip R xs ys → AllZip R more later
    → AllZip R (xs ++ more) (ys ++ later)
zip_append R [] more [] later all rest = rest
zip_append R [] more (b ∷ ys) later all rest = absurd all
zip_append R (a ∷ xs) more [] later all rest = absurd all
zip_append R (a ∷ xs) more (b ∷ ys) later all rest = (all.0, zip_append R xs more ys later all.1 rest)

pub kept_append : {A B : Type 0} (keeps : A → Bool) (R : A → B → Type 0) (xs more : List A) (ys later : List B)
    → AllZip R (filter keeps xs) ys
    → AllZip R (filter keeps more) later
    → AllZip R (filter keeps (xs ++ more)) (ys ++ later)
kept_append keeps R xs more ys later all rest =
    rw (filter-append keeps xs more) (zip_append R (filter keeps xs) (filter keeps more) ys later all rest)

-- one more list of an object
pub lists_push : {A : Type 0} (members : List (Bor (List ℕ) × Value A)) (one : Bor (List ℕ) × Value A) (rows front : List Json)
    → ListsHave (members_view members) rows
    → value_view one.1 ≡ array (items_of front)
    → ListsHave (members_view (members ++ one ∷ [])) (rows ++ front)
lists_push [] one rows front none is = (front, [], rw (none, append-nil front) refl, is, refl)
lists_push (first ∷ members) one rows front (own, back, split, list, rest) is =
    (own, back ++ front, ap (λ all. all ++ front) split ∙ append_assoc own back front, list, lists_push members one back front rest is)

pub lists_more : {A : Type 0} (members : List (Bor (List ℕ) × Value A)) (i : ℕ) (one : Bor (List ℕ) × Value A) (rows front : List Json)
    → i < length members
    → one ≡ get_or members i one
    → ListsHave (members_view (take i members)) rows
    → value_view one.1 ≡ array (items_of front)
    → ListsHave (members_view (take (i + 1) members)) (rows ++ front)
lists_more {A} members i one rows front within is lists list =
    let more : take (i + 1) members ≡ take i members ++ one ∷ [] =
    take_more members i one within ∙ ap (λ last. take i members ++ last ∷ []) (sym is) in
    subst (λ (some : List (Bor (List ℕ) × Value A)). ListsHave (members_view some) (rows ++ front)) (sym more)
    (lists_push (take i members) one rows front lists list)

-- a row that stands for nothing
pub row_none : {A B E : Type 0} (v : A → B) (R : B → E → Type 0) (keeps : B → Bool) (xs : List A) (i : ℕ) (x : A) → i < length xs
    → x ≡ get_or xs i x
    → keeps (v x) ≡ true
    → ((y : E) → ¬ (R (v x) y))
    → (ys : List E) → ¬ (AllZip R (filter keeps (map v xs)) ys)
row_none v R keeps xs i x within is kept none =
    none_kept keeps R (map v xs) i (v x) (omega (arith, length-map xs v, within))
    (sym (get_or-map v xs i x (v x) within ∙ ap v (sym is))) kept none

pub row_wrong : {A B E : Type 0} (v : A → B) (R : B → E → Type 0) (xs : List A) (i : ℕ) (x : A) → i < length xs → x ≡ get_or xs i x
    → ((y : E) → ¬ (R (v x) y))
    → (ys : List E) → ¬ (AllZip R (map v xs) ys)
row_wrong v R [] i x within is none ys all = absurd (omega (arith, within))
row_wrong v R (a ∷ xs) i x within is none [] all = absurd all
row_wrong v R (a ∷ xs) zero x within is none (y ∷ ys) all = none y (subst (λ one. R (v one) y) (sym is) all.0)
row_wrong v R (a ∷ xs) (suc i) x within is none (y ∷ ys) all = row_wrong v R xs i x (omega (arith, within)) is none ys all.1

-- entries of two lists of rows are those of each
pub zip_split : {A B : Type 0} (R : A → B → Type 0) (xs more : List A) (zs : List B) → AllZip R (xs ++ more) zs
    → (ys later : List B) × AllZip R xs ys × AllZip R more later
zip_split R [] more zs all = ([], zs, tt, all)
zip_split R (a ∷ xs) more [] all = absurd all
zip_split R (a ∷ xs) more (z ∷ zs) all =
    let (ys, later, front, back) = zip_split R xs more zs all.1 in
    (z ∷ ys, later, (all.0, front), back)

pub kept_split : {A B : Type 0} (keeps : A → Bool) (R : A → B → Type 0) (xs more : List A) (zs : List B) → AllZip R (filter keeps (xs ++ more)) zs
    → (ys later : List B) × AllZip R (filter keeps xs) ys × AllZip R (filter keeps more) later
kept_split keeps R xs more zs all = zip_split R (filter keeps xs) (filter keeps more) zs (rw (filter-append keeps xs more) at all)

-- an object with a member that is no list of entries
pub no_lists : {A E : Type 0} (AreRows : List Json → List E → Type 0)
    → ((front back : List Json) (entries : List E) → AreRows (front ++ back) entries
    → (own later : List E) × AreRows front own × AreRows back later)
    → (members : List (Bor (List ℕ) × Value A)) (i : ℕ) (one : Bor (List ℕ) × Value A) → i < length members → one ≡ get_or members i one
    → ((entries : List E) → ¬ (IsListOf AreRows (value_view one.1) entries))
    → (entries : List E) → ¬ (AreListsOf AreRows (members_view members) entries)
no_lists AreRows splits [] i one within is none entries lists = absurd (omega (arith, within))
no_lists AreRows splits (m ∷ members) zero one within is none entries (rows, (front, back, split, list, rest), are) =
    let (own, later, these, those) = splits front back entries (subst (λ some. AreRows some entries) split are) in
    none own (front, ap (λ some. value_view some.1) is ∙ list, these)
no_lists AreRows splits (m ∷ members) (suc i) one within is none entries (rows, (front, back, split, list, rest), are) =
    let (own, later, these, those) = splits front back entries (subst (λ some. AreRows some entries) split are) in
    no_lists AreRows splits members i one (omega (arith, within)) is none later (back, rest, those)

-- a list is of one list of rows, and a text is one object
items_once : (xs ys : List Json) → items_of xs ≡ items_of ys → xs ≡ ys
items_once [] [] same = refl
items_once [] (y ∷ ys) same = cc
items_once (x ∷ xs) [] same = cc
items_once (x ∷ xs) (y ∷ ys) same =
    let first : x ≡ y = cc in
    let rest : items_of xs ≡ items_of ys = cc in
    let later = items_once xs ys rest in
    cc

pub no_list : {E : Type 0} (AreRows : List Json → List E → Type 0) (value : Json) (rows : List Json) → value ≡ array (items_of rows)
    → StandsForNone AreRows rows → StandsForNone (IsListOf AreRows) value
no_list AreRows value rows is none entries (others, are, those) =
    let same : array (items_of rows) ≡ array (items_of others) = sym is ∙ are in
    let inside : items_of rows ≡ items_of others = cc in
    none entries (subst (λ some. AreRows some entries) (sym (items_once rows others inside)) those)

pub no_object : {E : Type 0} (AreRows : List Json → List E → Type 0) (text : List ℕ) (members : Members) → document text ≡ Some (object members)
    → StandsForNone (AreListsOf AreRows) members → StandsForNone (IsJsonOf AreRows) text
no_object AreRows text members is none entries (others, are, lists) =
    let same : object members ≡ object others = same_Some (object members) (object others) (sym is ∙ are) in
    let inside : members ≡ others = cc in
    none entries (subst (λ one. AreListsOf AreRows one entries) (sym inside) lists)
