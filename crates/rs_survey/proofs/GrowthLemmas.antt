-- Findings counted one after another: for the loops of counting.rt and on_threads.rt.
use Rattle.std.proofs.Common.{◌≡◌, ◌∙◌, sym, ap, subst, refl, arith, ℕ, zero, suc, ◌<◌, ◌+◌, List, [], ◌∷◌, ◌++◌, length, map, get_or, take}
use Rattle.std.proofs.Common.{append_assoc}
use Rattle.std.specs.Prelude.{Bool, ◌||◌, false}
use Rattle.std.specs.List.{flat_map, list_any, range_with_len}
use Rattle.std.proofs.lemmas.Grind.{flat_map-append}
use Rattle.std.proofs.lemmas.List.{append-nil, map-append, take_more}
use Rattle.std.proofs.lemmas.List.Folds.{list_any-append}
use Rattle.rs_survey.specs.declared.finding.Finding.{Finding}
use Rattle.rs_survey.specs.Grows.{Grows}
use Rattle.rs_survey.specs.Tally.{IsTally, TallyContent}

pub grows_none : (tally : TallyContent) → Grows tally tally []
grows_none tally = record {
  peers = refl;
  counts = λ findings counts. subst (IsTally tally) (sym (append-nil findings)) counts;
}

pub grows_then : (one two three : TallyContent) (some others : List Finding) → Grows one two some → Grows two three others →
    Grows one three (some ++ others)
grows_then one two three some others first later = record {
  peers = later.peers ∙ first.peers;
  counts = λ findings counts. subst (IsTally three) (append_assoc findings some others)
      (later.counts (findings ++ some) (first.counts findings counts));
}

-- ---- one member more of a list

pub flat-more : {A B C : Type 0} (f : B → List C) (g : A → B) (xs : List A) (i : ℕ) (d : A) → i < length xs →
    flat_map f (map g (take i xs)) ++ f (g (get_or xs i d)) ≡ flat_map f (map g (take (i + 1) xs))
flat-more f g xs i d within =
    let one = g (get_or xs i d) in
    sym (ap (λ some. flat_map f (map g some)) (take_more xs i d within)
    ∙ ap (flat_map f) (map-append g (take i xs) (get_or xs i d ∷ []))
    ∙ flat_map-append f (map g (take i xs)) (one ∷ [])
    ∙ ap (λ last. flat_map f (map g (take i xs)) ++ last) (append-nil (f one)))

pub grows-more : {A B : Type 0} (f : B → List Finding) (g : A → B) (xs : List A) (i : ℕ) (d : A) (one two three : TallyContent) →
    i < length xs → Grows one two (flat_map f (map g (take i xs))) → Grows two three (f (g (get_or xs i d))) →
    Grows one three (flat_map f (map g (take (i + 1) xs)))
grows-more f g xs i d one two three within first later =
    subst (Grows one three) (flat-more f g xs i d within)
    (grows_then one two three (flat_map f (map g (take i xs))) (f (g (get_or xs i d))) first later)

-- ---- one number more

range-from : (a n : ℕ) → range_with_len a (suc n) ≡ range_with_len a n ++ (a + n) ∷ []
range-from a zero = ap (λ place. place ∷ []) (omega arith)
range-from a (suc n) =
    let place : a + 1 + n ≡ a + suc n = omega arith in
    ap (λ later. a ∷ later) (range-from (a + 1) n ∙ ap (λ place. range_with_len (a + 1) n ++ place ∷ []) place)

range-more : (n : ℕ) → range_with_len 0 (n + 1) ≡ range_with_len 0 n ++ n ∷ []
range-more n =
    let one_more : n + 1 ≡ suc n = omega arith in
    let place : 0 + n ≡ n = omega arith in
    ap (range_with_len 0) one_more ∙ range-from 0 n ∙ ap (λ place. range_with_len 0 n ++ place ∷ []) place

pub grows-number : (f : ℕ → List Finding) (n : ℕ) (one two three : TallyContent) → Grows one two (flat_map f (range_with_len 0 n)) →
    Grows two three (f n) → Grows one three (flat_map f (range_with_len 0 (n + 1)))
grows-number f n one two three first later =
    let listed : flat_map f (range_with_len 0 n) ++ f n ≡ flat_map f (range_with_len 0 (n + 1)) =
    sym (ap (flat_map f) (range-more n) ∙ flat_map-append f (range_with_len 0 n) (n ∷ [])
    ∙ ap (λ last. flat_map f (range_with_len 0 n) ++ last) (append-nil (f n))) in
    subst (Grows one three) listed (grows_then one two three (flat_map f (range_with_len 0 n)) (f n) first later)

or-false : (x y : Bool) → (x || (y || false)) ≡ (x || y)
or-false x y = grind arith

pub any-number : (p : ℕ → Bool) (n : ℕ) → (list_any p (range_with_len 0 n) || p n) ≡ list_any p (range_with_len 0 (n + 1))
any-number p n =
    sym (ap (list_any p) (range-more n) ∙ list_any-append p (range_with_len 0 n) (n ∷ []) ∙ or-false (list_any p (range_with_len 0 n))
    (p n))
