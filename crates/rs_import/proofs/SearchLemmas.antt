-- A list from its end: what a search finds in it does not change by members that do not pass.
use Rattle.std.proofs.Common.{◌≡◌, ◌∙◌, sym, ap, refl, ℕ, zero, suc, ◌+◌, ◌-◌, ◌≤◌, ◌<◌, Bool, true, false, List, [], ◌∷◌, ◌++◌, length, take, cond, arith, ◌||◌}
use Rattle.std.proofs.Common.{slice_index_or, None, Some}
use Rattle.std.specs.Prelude.{find, filter, reverse}
use Rattle.std.specs.List.{AllWithin, list_any}
use Rattle.std.specs.Option.{is_some}
use Rattle.std.proofs.lemmas.List.{reverse-append, take_more, take_all}

-- one more member stands first
pub reverse_more : {X : Type 0} (xs : List X) (i : ℕ) (d : X) → i < length xs
    → reverse (take (i + 1) xs) ≡ slice_index_or xs i d ∷ reverse (take i xs)
reverse_more xs i d inside = ap reverse (take_more xs i d inside) ∙ reverse-append (take i xs) (slice_index_or xs i d ∷ [])

pub find-one : {X : Type 0} (P : X → Bool) (x : X) (xs : List X) → P x ≡ false → find P (x ∷ xs) ≡ find P xs
find-one P x xs apart = rw apart refl

pub filter-one : {X : Type 0} (P : X → Bool) (x : X) (xs : List X) → P x ≡ false → filter P (x ∷ xs) ≡ filter P xs
filter-one P x xs apart = rw apart refl

-- members that do not pass, from a place on, change nothing
pub find-passed : {X : Type 0} (P : X → Bool) (xs : List X) (d : X) (more i n : ℕ) → n ≡ i + more → n ≤ length xs
    → ((k : ℕ) → i ≤ k → k < n → P (slice_index_or xs k d) ≡ false)
    → find P (reverse (take n xs)) ≡ find P (reverse (take i xs))
find-passed P xs d zero i n is within apart =
    let same : n ≡ i = omega (arith, is) in
    ap (λ (k : ℕ). find P (reverse (take k xs))) same
find-passed P xs d (suc more) i n is within apart =
    let last = i + more in
    let same : n ≡ last + 1 = omega (arith, is) in
    ap (λ (k : ℕ). find P (reverse (take k xs))) same
    ∙ (ap (find P) (reverse_more xs last d (omega (arith, same, within)))
    ∙ (find-one P (slice_index_or xs last d) (reverse (take last xs)) (apart last (omega arith) (omega (arith, same)))
    ∙ find-passed P xs d more i last refl (omega (arith, same, within)) (λ k low high. apart k low (omega (arith, high, same)))))

pub filter-passed : {X : Type 0} (P : X → Bool) (xs : List X) (d : X) (more i n : ℕ) → n ≡ i + more → n ≤ length xs
    → ((k : ℕ) → i ≤ k → k < n → P (slice_index_or xs k d) ≡ false)
    → filter P (reverse (take n xs)) ≡ filter P (reverse (take i xs))
filter-passed P xs d zero i n is within apart =
    let same : n ≡ i = omega (arith, is) in
    ap (λ (k : ℕ). filter P (reverse (take k xs))) same
filter-passed P xs d (suc more) i n is within apart =
    let last = i + more in
    let same : n ≡ last + 1 = omega (arith, is) in
    ap (λ (k : ℕ). filter P (reverse (take k xs))) same
    ∙ (ap (filter P) (reverse_more xs last d (omega (arith, same, within)))
    ∙ (filter-one P (slice_index_or xs last d) (reverse (take last xs)) (apart last (omega arith) (omega (arith, same)))
    ∙ filter-passed P xs d more i last refl (omega (arith, same, within)) (λ k low high. apart k low (omega (arith, high, same)))))

-- whether some member passes, by a search from the end
find-append : {X : Type 0} (P : X → Bool) (xs : List X) (x : X) → is_some (find P (xs ++ x ∷ [])) ≡ (P x || is_some (find P xs))
find-append P [] x = elim (P x) as (λ b. is_some (cond b (Some x) None) ≡ (b || false)) [ true ↦ refl | false ↦ refl ]
find-append P (y ∷ ys) x =
    elim (P y) as (λ b. is_some (cond b (Some y) (find P (ys ++ x ∷ []))) ≡ (P x || is_some (cond b (Some y) (find P ys))))
    [ true ↦ elim (P x) as (λ b. true ≡ (b || true)) [ true ↦ refl | false ↦ refl ] | false ↦ find-append P ys x ]

pub any-find : {X : Type 0} (P : X → Bool) (xs : List X) → list_any P xs ≡ is_some (find P (reverse xs))
any-find P [] = refl
any-find P (x ∷ xs) =
    ap (λ (b : Bool). P x || b) (any-find P xs)
    ∙ (sym (find-append P (reverse xs) x) ∙ ap (λ (l : List _). is_some (find P l)) (sym (reverse-append (x ∷ []) xs)))

-- the member before an end is the first one from there
pub front-is : {X : Type 0} (xs : List X) (count : ℕ) (x : X) → 0 < count → count ≤ length xs → x ≡ slice_index_or xs (count - 1) x
    → reverse (take count xs) ≡ x ∷ reverse (take (count - 1) xs)
front-is {X} xs count x some within at =
    let same : count ≡ (count - 1) + 1 = omega (arith, some) in
    ap (λ (k : ℕ). reverse (take k xs)) same
    ∙ (reverse_more xs (count - 1) x (omega (arith, some, within)) ∙ ap (λ (y : X). y ∷ reverse (take (count - 1) xs)) (sym at))

module _ {X : Type 0} (P C : X → Bool) (only : (x : X) → C x ≡ false → P x ≡ false) (xs : List X) (d : X) where
  -- a search goes past members that cannot pass
  pub find-walk : (n end : ℕ) → n ≤ end → end ≤ length xs → AllWithin (λ x. C x ≡ false) xs n end
      → find P (reverse (take end xs)) ≡ find P (reverse (take n xs))
  find-walk n end low within apart =
      find-passed P xs d (end - n) n end (omega (arith, low)) within (λ k from before. only _ (apart k d from before))

  pub filter-walk : (n end : ℕ) → n ≤ end → end ≤ length xs → AllWithin (λ x. C x ≡ false) xs n end
      → filter P (reverse (take end xs)) ≡ filter P (reverse (take n xs))
  filter-walk n end low within apart =
      filter-passed P xs d (end - n) n end (omega (arith, low)) within (λ k from before. only _ (apart k d from before))

  pub find-start : (n : ℕ) → n ≤ length xs → AllWithin (λ x. C x ≡ false) xs n (length xs)
      → find P (reverse (take n xs)) ≡ find P (reverse xs)
  find-start n low apart =
      sym (find-walk n (length xs) low (omega arith) apart) ∙ ap (λ (l : List X). find P (reverse l)) (take_all (length xs) xs (omega arith))

  pub filter-start : (n : ℕ) → n ≤ length xs → AllWithin (λ x. C x ≡ false) xs n (length xs)
      → filter P (reverse (take n xs)) ≡ filter P (reverse xs)
  filter-start n low apart =
      sym (filter-walk n (length xs) low (omega arith) apart)
      ∙ ap (λ (l : List X). filter P (reverse l)) (take_all (length xs) xs (omega arith))

  -- the member before the end does not pass: on to the next one that can
  pub find-step : (count n : ℕ) (x : X) → 0 < count → count ≤ length xs → x ≡ slice_index_or xs (count - 1) x → P x ≡ false
      → n ≤ count - 1 → AllWithin (λ x. C x ≡ false) xs n (count - 1)
      → find P (reverse (take n xs)) ≡ find P (reverse (take count xs))
  find-step count n x some within at fails low apart =
      sym (find-walk n (count - 1) low (omega (arith, within)) apart)
      ∙ (sym (find-one P x (reverse (take (count - 1) xs)) fails) ∙ ap (find P) (sym (front-is xs count x some within at)))

-- the member before an end is found first if it passes
pub found-first : {X : Type 0} (P : X → Bool) (xs : List X) (count : ℕ) (x : X) → 0 < count → count ≤ length xs
    → x ≡ slice_index_or xs (count - 1) x → P x ≡ true → find P (reverse (take count xs)) ≡ Some x
found-first P xs count x some within at passes = ap (find P) (front-is xs count x some within at) ∙ rw passes refl

pub filter-first : {X : Type 0} (P : X → Bool) (xs : List X) (count : ℕ) (x : X) → 0 < count → count ≤ length xs
    → x ≡ slice_index_or xs (count - 1) x → P x ≡ true
    → filter P (reverse (take count xs)) ≡ x ∷ filter P (reverse (take (count - 1) xs))
filter-first P xs count x some within at passes = ap (filter P) (front-is xs count x some within at) ∙ rw passes refl
