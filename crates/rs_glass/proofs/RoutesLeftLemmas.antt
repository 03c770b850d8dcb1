-- The routes that announcements leave, where a change ends some of them.
use Rattle.std.proofs.Common.{◌≡◌, ◌∙◌, sym, ap, subst, refl, ℕ, Bool, true, false, List, [], ◌∷◌, ◌++◌, Some, None, append_assoc, not, ◌<◌}
use Rattle.std.proofs.Common.{zero, suc, length, get_or, arith}
use Rattle.std.specs.Prelude.{cond, filter, map, OnErr, OnOk, Result, Ok, Err}
use Rattle.std.specs.declared.alloc.AllocError.{AllocError}
use Rattle.std.specs.List.{list_any}
use Rattle.std.specs.Option.{option_map_or}
use Rattle.std.specs.FinMap as fin
use Rattle.std.proofs.lemmas.Bool.{both_ways, not-false, not-true, or_parts}
use Rattle.std.proofs.lemmas.List.{append-nil, map-append}
use Rattle.std.proofs.lemmas.List.Elements.{filter-append}
use Rattle.std.proofs.lemmas.List.Folds.{list_any-append}
use Rattle.rs_update.specs.IpPrefix.{IpPrefix}
use Rattle.rs_update.specs.PrefixOrder.{prefix_cmp, same_prefix}
use Rattle.rs_session.specs.Change.{Change, ChangeBody, Announced, Withdrawn, Lost, Closed, change_of, is_close}
use Rattle.rs_change.specs.declared.word.Word.{Word}
use Rattle.rs_table.specs.Laws.{LeftAfterOneMore}
use Rattle.rs_table.specs.Left.{HasNoClose, RouteLeft, Routes, after, after_body, body_prefix, is_on, left, reason_drops}
use Rattle.rs_table.specs.Counts.{announces, body_announces}
use Rattle.rs_glass.specs.RoutesLeftView.{body_ends_route, ends_route}
use Rattle.rs_session.proofs.BesideLemmas.{none-part}
use Rattle.rs_table.proofs.PrefixLemmas.{prefix_cmp-IsAntisymmetric, prefix_total, same_prefix-true}
use Rattle.rs_table.proofs.RibLemmas.{any-one_more, left-nothing}

-- ---- maps

shadowed : {X : Type 0} (b : Bool) (x y z : X) → cond b x (cond b y z) ≡ cond b x z
shadowed true x y z = refl
shadowed false x y z = refl

swapped : {X : Type 0} (a b : Bool) (x y z : X) → (a ≡ true → b ≡ true → ⊥) → cond a x (cond b y z) ≡ cond b y (cond a x z)
swapped true true x y z apart = absurd (apart refl refl)
swapped true false x y z apart = refl
swapped false b x y z apart = refl

swapped_same : {X : Type 0} (a b : Bool) (x z : X) → cond a x (cond b x z) ≡ cond b x (cond a x z)
swapped_same true true x z = refl
swapped_same true false x z = refl
swapped_same false b x z = refl

same_either_way : {X : Type 0} (b : Bool) (x : X) → cond b x x ≡ x
same_either_way true x = refl
same_either_way false x = refl

at-insert : (m : Routes) (p : IpPrefix) (r : RouteLeft) (k : IpPrefix)
    → fin.get (fin.insert m p r) k ≡ cond (same_prefix k p) (Some r) (fin.get m k)
at-insert m p r k = fin.get-insert prefix_total m p r k

at-remove : (m : Routes) (p k : IpPrefix) → fin.get (fin.remove m p) k ≡ cond (same_prefix k p) None (fin.get m k)
at-remove m p k = fin.get-remove prefix_total m p k

alike : (m n : Routes) → ((k : IpPrefix) → fin.get m k ≡ fin.get n k) → m ≡ n
alike m n same = fin.same_map prefix_total prefix_cmp-IsAntisymmetric m n same

insert-removed : (m : Routes) (p : IpPrefix) (r : RouteLeft) → fin.insert (fin.remove m p) p r ≡ fin.insert m p r
insert-removed m p r = alike _ _ (λ k.
    at-insert (fin.remove m p) p r k
    ∙ ap (cond (same_prefix k p) (Some r)) (at-remove m p k)
    ∙ shadowed (same_prefix k p) (Some r) None (fin.get m k)
    ∙ sym (at-insert m p r k))

remove-inserted : (m : Routes) (p : IpPrefix) (r : RouteLeft) → fin.remove (fin.insert m p r) p ≡ fin.remove m p
remove-inserted m p r = alike _ _ (λ k.
    at-remove (fin.insert m p r) p k
    ∙ ap (cond (same_prefix k p) None) (at-insert m p r k)
    ∙ shadowed (same_prefix k p) None (Some r) (fin.get m k)
    ∙ sym (at-remove m p k))

remove-removed : (m : Routes) (p : IpPrefix) → fin.remove (fin.remove m p) p ≡ fin.remove m p
remove-removed m p = alike _ _ (λ k.
    at-remove (fin.remove m p) p k
    ∙ ap (cond (same_prefix k p) None) (at-remove m p k)
    ∙ shadowed (same_prefix k p) None None (fin.get m k)
    ∙ sym (at-remove m p k))

remove-none : (q : IpPrefix) → fin.remove {X = RouteLeft} {R = prefix_cmp} fin.empty q ≡ fin.empty
remove-none q = alike _ _ (λ k.
    at-remove fin.empty q k
    ∙ ap (cond (same_prefix k q) None) (fin.get-empty prefix_cmp k)
    ∙ same_either_way (same_prefix k q) None
    ∙ sym (fin.get-empty prefix_cmp k))

apart : (q p k : IpPrefix) → same_prefix q p ≡ false → same_prefix k q ≡ true → same_prefix k p ≡ true → ⊥
apart q p k other first second =
    both_ways (same_prefix q p) other (subst (λ (x : IpPrefix). same_prefix x p ≡ true) (same_prefix-true k q first) second)

insert-remove : (m : Routes) (q p : IpPrefix) (r : RouteLeft) → same_prefix q p ≡ false
    → fin.insert (fin.remove m q) p r ≡ fin.remove (fin.insert m p r) q
insert-remove m q p r other = alike _ _ (λ k.
    at-insert (fin.remove m q) p r k
    ∙ ap (cond (same_prefix k p) (Some r)) (at-remove m q k)
    ∙ swapped (same_prefix k p) (same_prefix k q) (Some r) None (fin.get m k) (λ second first. apart q p k other first second)
    ∙ ap (cond (same_prefix k q) None) (sym (at-insert m p r k))
    ∙ sym (at-remove (fin.insert m p r) q k))

remove-remove : (m : Routes) (q p : IpPrefix) → fin.remove (fin.remove m q) p ≡ fin.remove (fin.remove m p) q
remove-remove m q p = alike _ _ (λ k.
    at-remove (fin.remove m q) p k
    ∙ ap (cond (same_prefix k p) None) (at-remove m q k)
    ∙ swapped_same (same_prefix k p) (same_prefix k q) None (fin.get m k)
    ∙ ap (cond (same_prefix k q) None) (sym (at-remove m p k))
    ∙ sym (at-remove (fin.remove m p) q k))

-- ---- lists without the changes on a prefix

none-first : (xs ys : List Change) → HasNoClose (xs ++ ys) → HasNoClose xs
none-first xs ys none = (or_parts (list_any is_close xs) (list_any is_close ys) (sym (list_any-append is_close xs ys) ∙ none)).0

module _ (q : IpPrefix) where
  abbrev off : Change → Bool
  off change = not (is_on q change)

  -- a change that isn't on the prefix, before and after what was there is removed
  passes : (m : Routes) (time : ℕ) (body : ChangeBody) → not (option_map_or (same_prefix q) (body_prefix body) false) ≡ true
      → after_body (fin.remove m q) time body ≡ fin.remove (after_body m time body) q
  passes m time (Announced p attributes) other =
      insert-remove m q p (record { time = time; attributes = attributes }) (not-true (same_prefix q p) other)
  passes m time (Withdrawn p) other = remove-remove m q p
  passes m time Lost other = sym (remove-none q)
  passes m time (Closed reason) other =
      elim (reason_drops reason) as (λ b. cond b fin.empty (fin.remove m q) ≡ fin.remove (cond b fin.empty m) q) [
        | true ↦ sym (remove-none q)
        | false ↦ refl
      ]

  -- of a change on the prefix nothing stays
  vanishes : (m : Routes) (time : ℕ) (body : ChangeBody) → not (option_map_or (same_prefix q) (body_prefix body) false) ≡ false
      → fin.remove m q ≡ fin.remove (after_body m time body) q
  vanishes m time (Announced p attributes) here =
      let r : RouteLeft = record { time = time; attributes = attributes } in
      subst (λ (x : IpPrefix). fin.remove m q ≡ fin.remove (fin.insert m x r) q) (same_prefix-true q p (not-false (same_prefix q p) here))
      (sym (remove-inserted m q r))
  vanishes m time (Withdrawn p) here =
      subst (λ (x : IpPrefix). fin.remove m q ≡ fin.remove (fin.remove m x) q) (same_prefix-true q p (not-false (same_prefix q p) here))
      (sym (remove-removed m q))
  vanishes m time Lost here = absurd cc
  vanishes m time (Closed reason) here = absurd cc

  module _ (one_more : LeftAfterOneMore) where
    -- what a list without the changes on the prefix leaves, with one change more
    without-more : (before : List Change) (change : Change) → HasNoClose before → left (filter off before) ≡ fin.remove (left before) q
        → left (filter off (before ++ change ∷ [])) ≡ fin.remove (left (before ++ change ∷ [])) q
    without-more before change unclosed so_far =
        ap left (filter-append off before (change ∷ [])) ∙ by_test (off change) refl
        ∙ sym (ap (λ (m : Routes). fin.remove m q) (one_more before change unclosed))
      where
        by_test : (b : Bool) → off change ≡ b → left (filter off before ++ cond b (change ∷ []) [])
            ≡ fin.remove (after (left before) change) q
        by_test true is =
            one_more (filter off before) change (none-part is_close off before unclosed) ∙ ap (λ (m : Routes). after m change) so_far
            ∙ passes (left before) change.time change.body is
        by_test false is = ap left (append-nil (filter off before)) ∙ so_far ∙ vanishes (left before) change.time change.body is

    without-from : (before later : List Change) → HasNoClose (before ++ later) → left (filter off before) ≡ fin.remove (left before) q
        → left (filter off (before ++ later)) ≡ fin.remove (left (before ++ later)) q
    without-from before [] unclosed so_far =
        subst (λ (all : List Change). left (filter off all) ≡ fin.remove (left all) q) (sym (append-nil before)) so_far
    without-from before (change ∷ later) unclosed so_far =
        let moved : (before ++ change ∷ []) ++ later ≡ before ++ change ∷ later = append_assoc before (change ∷ []) later in
        let more = without-more before change (none-first before (change ∷ later) unclosed) so_far in
        subst (λ (all : List Change). left (filter off all) ≡ fin.remove (left all) q) moved
        (without-from (before ++ change ∷ []) later (subst HasNoClose (sym moved) unclosed) more)

    -- a list without the changes on a prefix leaves what the list leaves, but nothing on that prefix
    pub left-without : (changes : List Change) → HasNoClose changes → left (filter off changes) ≡ fin.remove (left changes) q
    left-without changes unclosed =
        without-from [] changes unclosed (left-nothing ∙ sym (remove-none q) ∙ sym (ap (λ (m : Routes). fin.remove m q) left-nothing))

-- ---- one change more

filter-none : {X : Type 0} (xs : List X) → filter (λ x. false) xs ≡ []
filter-none [] = refl
filter-none (x ∷ xs) = filter-none xs

filter-all : {X : Type 0} (xs : List X) → filter (λ x. true) xs ≡ xs
filter-all [] = refl
filter-all (x ∷ xs) = ap (λ all. x ∷ all) (filter-all xs)

map-filter : {X Y : Type 0} (f : X → Y) (keeps : Y → Bool) (xs : List X) → map f (filter (λ x. keeps (f x)) xs) ≡ filter keeps (map f xs)
map-filter f keeps [] = refl
map-filter f keeps (x ∷ xs) = by_test (keeps (f x)) (map-filter f keeps xs)
  where
    by_test : (b : Bool) → map f (filter (λ x. keeps (f x)) xs) ≡ filter keeps (map f xs)
        → map f (cond b (x ∷ filter (λ x. keeps (f x)) xs) (filter (λ x. keeps (f x)) xs))
        ≡ cond b (f x ∷ filter keeps (map f xs)) (filter keeps (map f xs))
    by_test true rest = ap (λ all. f x ∷ all) rest
    by_test false rest = rest

module _ (one_more : LeftAfterOneMore) (kept : List Change) (unclosed : HasNoClose kept) where
  -- what a change leaves of announcements that it doesn't end, itself kept where it announces a route
  left-taken-body : (time : ℕ) (body : ChangeBody) →
      left (filter (λ one. not (body_ends_route body one)) kept ++ cond (body_announces body) (record { time = time; body = body } ∷ []) [])
      ≡ after_body (left kept) time body
  left-taken-body time (Announced p attributes) =
      let change : Change = record { time = time; body = Announced p attributes } in
      one_more (filter (λ one. not (is_on p one)) kept) change (none-part is_close (λ one. not (is_on p one)) kept unclosed)
      ∙ ap (λ (m : Routes). after m change) (left-without p one_more kept unclosed)
      ∙ insert-removed (left kept) p (record { time = time; attributes = attributes })
  left-taken-body time (Withdrawn p) = ap left (append-nil (filter (λ one. not (is_on p one)) kept)) ∙ left-without p one_more kept unclosed
  left-taken-body time Lost = ap left (append-nil (filter (λ one. false) kept) ∙ filter-none kept) ∙ left-nothing
  left-taken-body time (Closed reason) = by_reason (reason_drops reason)
    where
      by_reason : (b : Bool) → left (filter (λ one. not b) kept ++ []) ≡ cond b fin.empty (left kept)
      by_reason true = ap left (append-nil (filter (λ one. false) kept) ∙ filter-none kept) ∙ left-nothing
      by_reason false = ap left (append-nil (filter (λ one. true) kept) ∙ filter-all kept)

  pub left-taken : (change : Change) → left (filter (λ one. not (ends_route change one)) kept
      ++ cond (announces change) (change ∷ []) []) ≡ after (left kept) change
  left-taken change = left-taken-body change.time change.body

  -- no close is kept
  pub taken-unclosed : (change : Change) → HasNoClose (filter (λ one. not (ends_route change one)) kept
      ++ cond (announces change) (change ∷ []) [])
  taken-unclosed change = by_body change.time change.body
    where
      part : (body : ChangeBody) → HasNoClose (filter (λ one. not (body_ends_route body one)) kept)
      part body = none-part is_close (λ one. not (body_ends_route body one)) kept unclosed

      by_body : (time : ℕ) (body : ChangeBody) → HasNoClose
          (filter (λ one. not (body_ends_route body one)) kept ++ cond (body_announces body) (record { time = time; body = body } ∷ []) [])
      by_body time (Announced p attributes) =
          any-one_more is_close (filter (λ one. not (is_on p one)) kept) (record { time = time; body = Announced p attributes })
          (part (Announced p attributes))
      by_body time (Withdrawn p) = subst HasNoClose (sym (append-nil (filter (λ one. not (is_on p one)) kept))) (part (Withdrawn p))
      by_body time Lost = subst HasNoClose (sym (append-nil (filter (λ one. false) kept))) (part Lost)
      by_body time (Closed reason) =
          subst HasNoClose (sym (append-nil (filter (λ one. not (reason_drops reason)) kept))) (part (Closed reason))

-- ---- words

-- among words without a close, none is one
pub no-close-at : (words : List Word) (n : ℕ) (word : Word) → HasNoClose (map change_of words) → n < length words
    → word ≡ get_or words n word → is_close (change_of word) ≡ false
no-close-at [] n word unclosed below here = absurd (omega (arith, below))
no-close-at (w ∷ ws) zero word unclosed below here =
    ap (λ (x : Word). is_close (change_of x)) here ∙ (or_parts (is_close (change_of w)) (list_any is_close (map change_of ws)) unclosed).0
no-close-at (w ∷ ws) (suc n) word unclosed below here =
    no-close-at ws n word (or_parts (is_close (change_of w)) (list_any is_close (map change_of ws)) unclosed).1 (omega (arith, below)) here

module _ (words : List Word) (word : Word) (unclosed : HasNoClose (map change_of words)) (dropped later : List Word)
    (drops : dropped ≡ filter (λ kept. not (ends_route (change_of word) (change_of kept))) words) where
  abbrev rest : List Change
  rest = filter (λ one. not (ends_route (change_of word) one)) (map change_of words)

  dropped-are : map change_of dropped ≡ rest
  dropped-are = ap (map change_of) drops ∙ map-filter change_of (λ one. not (ends_route (change_of word) one)) words

  later-are : later ≡ dropped ++ cond (announces (change_of word)) (word ∷ []) []
      → map change_of later ≡ rest ++ cond (announces (change_of word)) (change_of word ∷ []) []
  later-are grown =
      ap (map change_of) grown
      ∙ map-append change_of dropped (cond (announces (change_of word)) (word ∷ []) [])
      ∙ ap (λ (front : List Change). front ++ map change_of (cond (announces (change_of word)) (word ∷ []) [])) dropped-are
      ∙ ap (λ (back : List Change). rest ++ back)
      (elim (announces (change_of word)) as (λ b. map change_of (cond b (word ∷ []) []) ≡ cond b (change_of word ∷ []) [])
      [ true ↦ refl | false ↦ refl ])

  -- what the words leave, once a change ended some of them and was kept where it is an announcement
  pub words-left : (one_more : LeftAfterOneMore) → later ≡ dropped ++ cond (announces (change_of word)) (word ∷ []) []
      → left (map change_of later) ≡ after (left (map change_of words)) (change_of word)
  words-left one_more grown = ap left (later-are grown) ∙ left-taken one_more (map change_of words) unclosed (change_of word)

  -- no close is among them, were memory refused or not
  pub words-unclosed : (one_more : LeftAfterOneMore) → (r : Result (Unit {0}) AllocError)
      → OnOk r (later ≡ dropped ++ cond (announces (change_of word)) (word ∷ []) []) → OnErr r (later ≡ dropped)
      → HasNoClose (map change_of later)
  words-unclosed one_more (Ok done) grown same =
      subst HasNoClose (sym (later-are grown)) (taken-unclosed one_more (map change_of words) unclosed (change_of word))
  words-unclosed one_more (Err refused) grown same =
      subst HasNoClose (sym (ap (map change_of) same ∙ dropped-are))
      (none-part is_close (λ one. not (ends_route (change_of word) one)) (map change_of words) unclosed)
