-- What a list of changes leaves, on each prefix, after one more change, by a part and by last places: for laws.rt and `apply` of tables.rt.
use Rattle.std.proofs.Common.{◌≡◌, ℕ, Bool, true, false, cond, ◌||◌, List, [], ◌∷◌, ◌++◌, reverse, filter, Option, Some, None, refl, sym}
use Rattle.std.proofs.Common.{ap, ◌∙◌, inl, inr}
use Rattle.std.specs.List.{find, filter_map, cons_option, list_any}
use Rattle.std.specs.Option.{option_and_then, option_map_or, option_or}
use Rattle.std.specs.FinMap as map
use Rattle.std.proofs.lemmas.Bool.{cases_Bool, or_parts, or_from}
use Rattle.std.proofs.lemmas.List.{append_assoc, reverse-append, reverse-reverse}
use Rattle.std.proofs.lemmas.List.Folds.{find-append, list_any-append}
use Rattle.rs_types.specs.IpPrefix.{IpPrefix}
use Rattle.rs_change.specs.Change.{Change, ChangeBody, Announced, Withdrawn, Lost, Closed, is_close, body_closes}
use Rattle.rs_types.specs.PrefixOrder.{prefix_cmp, same_prefix}
use Rattle.rs_table.specs.Left.{RouteLeft, Routes, Leaves, announcement, body_prefix, body_route, body_drops, body_loses}
use Rattle.rs_table.specs.Left.{drops_routes, is_loss, is_on, bears_on, HasNoClose, last_change_on, route_left_on, left, after, after_body}
use Rattle.rs_table.specs.Left.{reason_drops}
use Rattle.rs_table.proofs.PrefixLemmas.{prefix_total, prefix_cmp-IsAntisymmetric, same_prefix-true, same_prefix-itself, find-entries}

-- ---- searches

pub find_none : {X : Type 0} (p : X → Bool) (xs : List X) → list_any p xs ≡ false → find p xs ≡ None
find_none p [] e = refl
find_none p (x ∷ xs) e =
    let parts = or_parts (p x) (list_any p xs) e in
    rw parts.0 (find_none p xs parts.1)

-- an element that passes, at the front
find_here : {X : Type 0} (p : X → Bool) (x : X) (xs : List X) → p x ≡ true → find p (x ∷ xs) ≡ Some x
find_here p x xs e = rw e refl

pub list_any-reverse : {X : Type 0} (p : X → Bool) (xs : List X) → list_any p xs ≡ false → list_any p (reverse xs) ≡ false
list_any-reverse p [] e = refl
list_any-reverse p (x ∷ xs) e =
    let parts = or_parts (p x) (list_any p xs) e in
    ap (list_any p) (reverse-append (x ∷ []) xs)
    ∙ list_any-append p (reverse xs) (x ∷ [])
    ∙ or_from _ _ (list_any-reverse p xs parts.1) (or_from _ _ parts.0 refl)

-- none passes one of two tests exactly if none passes either
none_of_both : {X : Type 0} (p q : X → Bool) (xs : List X) → list_any p xs ≡ false → list_any q xs ≡ false
    → list_any (λ x. p x || q x) xs ≡ false
none_of_both p q [] e f = refl
none_of_both p q (x ∷ xs) e f =
    let one = or_parts (p x) (list_any p xs) e in
    let other = or_parts (q x) (list_any q xs) f in
    or_from _ _ (or_from _ _ one.0 other.0) (none_of_both p q xs one.1 other.1)

both_none : {X : Type 0} (p q : X → Bool) (xs : List X) → list_any (λ x. p x || q x) xs ≡ false → (list_any p xs ≡ false)
    × (list_any q xs ≡ false)
both_none p q [] e = (refl, refl)
both_none p q (x ∷ xs) e =
    let parts = or_parts (p x || q x) (list_any (λ x. p x || q x) xs) e in
    let here = or_parts (p x) (q x) parts.0 in
    let there = both_none p q xs parts.1 in (or_from _ _ here.0 there.0, or_from _ _ here.1 there.1)

-- what a search found, with what stands before it and behind it
record FoundAt {X : Type 0} (p : X → Bool) (xs : List X) (x : X) : Type 0 where
  before : List X
  behind : List X
  is : xs ≡ before ++ x ∷ behind
  none_before : list_any p before ≡ false
  passes : p x ≡ true

found_at : {X : Type 0} (p : X → Bool) (xs : List X) (x : X) → find p xs ≡ Some x → FoundAt p xs x
found_at p [] x e = absurd (cc e)
found_at p (y ∷ ys) x e =
    elim (cases_Bool (p y)) [
      | inl here ↦
          let same : y ≡ x = cc (e, find_here p y ys here) in
          record { before = []; behind = ys; is = ap (λ z. z ∷ ys) same; none_before = refl; passes = ap p (sym same) ∙ here }
      | inr not_here ↦
          let there : FoundAt p ys x = found_at p ys x (rw not_here at e) in
          record {
            before = y ∷ there.before;
            behind = there.behind;
            is = ap (λ zs. y ∷ zs) there.is;
            none_before =
                or_from _ _ not_here there.none_before;
            passes = there.passes;
          }
    ]

-- ---- prefix by prefix

-- a list names the prefixes that its changes are on
named : (q : IpPrefix) (changes : List Change) → list_any (same_prefix q) (filter_map (λ change. body_prefix change.body) changes)
    ≡ list_any (is_on q) changes
named q [] = refl
named q (change ∷ later) =
    let rest = named q later in
    let step : (o : Option IpPrefix) → list_any (same_prefix q) (cons_option o (filter_map (λ change. body_prefix change.body) later))
    ≡ (option_map_or (same_prefix q) o false || list_any (is_on q) later) = elim [
      | None ↦ rest
      | Some p ↦ ap (λ b. same_prefix q p || b) rest
    ] in
    step (body_prefix change.body)

loss_leaves_none : (body : ChangeBody) (time : ℕ) → body_loses body ≡ true → body_route time body ≡ None
loss_leaves_none (Announced prefix attributes) time e = absurd (cc e)
loss_leaves_none (Withdrawn prefix) time e = refl
loss_leaves_none Lost time e = refl
loss_leaves_none (Closed reason) time e = refl

-- a loss alone bears on a prefix without a change: it leaves no route
found_none : (q : IpPrefix) (changes : List Change) → list_any (is_on q) changes ≡ false
    → option_and_then (λ change. body_route change.time change.body) (find (bears_on q) changes) ≡ None
found_none q [] none = refl
found_none q (change ∷ later) none =
    let parts = or_parts (is_on q change) (list_any (is_on q) later) none in
    elim (cases_Bool (is_loss change)) [
      | inl loss ↦ rw loss (loss_leaves_none change.body change.time loss)
      | inr not_loss ↦ rw (not_loss, parts.0) (found_none q later parts.1)
    ]

no_change_no_route : (q : IpPrefix) (changes : List Change) → list_any (is_on q) changes ≡ false → route_left_on q changes ≡ None
no_change_no_route q changes none =
    let nothing = found_none q (reverse changes) (list_any-reverse (is_on q) changes none) in
    elim (list_any drops_routes changes) as (λ b. cond b None
    (option_and_then (λ change. body_route change.time change.body) (last_change_on q changes)) ≡ None) [
      | true ↦ refl
      | false ↦ nothing
    ]

pub get-left : (changes : List Change) (q : IpPrefix) → map.get (left changes) q ≡ route_left_on q changes
unfolding left
get-left changes q =
    map.get-from_entries prefix_total _ q
    ∙ find-entries (λ p. route_left_on p changes) q _
    ∙ ap (λ b. cond b (route_left_on q changes) None) (named q changes)
    ∙ elim (cases_Bool (list_any (is_on q) changes)) [
      | inl some ↦ rw some refl
      | inr none ↦ rw none (sym (no_change_no_route q changes none))
    ]

-- ---- one more change

close_drops : (body : ChangeBody) → body_closes body ≡ false → body_drops body ≡ false
close_drops (Announced prefix attributes) e = refl
close_drops (Withdrawn prefix) e = refl
close_drops Lost e = refl
close_drops (Closed reason) e = absurd (cc e)

pub open_keeps : (changes : List Change) → HasNoClose changes → list_any drops_routes changes ≡ false
open_keeps [] e = refl
open_keeps (change ∷ later) e =
    let parts = or_parts (is_close change) (list_any is_close later) e in
    or_from _ _ (close_drops change.body parts.0) (open_keeps later parts.1)

last_change_more : (q : IpPrefix) (changes : List Change) (change : Change)
    → last_change_on q (changes ++ change ∷ []) ≡ cond (bears_on q change) (Some change) (last_change_on q changes)
last_change_more q changes change = ap (find (bears_on q)) (reverse-append changes (change ∷ []))

drops_more : (changes : List Change) (change : Change) → HasNoClose changes
    → list_any drops_routes (changes ++ change ∷ []) ≡ (drops_routes change || false)
drops_more changes change unclosed =
    list_any-append drops_routes changes (change ∷ []) ∙ ap (λ b. b || (drops_routes change || false)) (open_keeps changes unclosed)

route_left_open : (q : IpPrefix) (changes : List Change) → HasNoClose changes
    → route_left_on q changes ≡ option_and_then (λ change. body_route change.time change.body) (last_change_on q changes)
route_left_open q changes unclosed = rw (open_keeps changes unclosed) refl

-- what the list with one more change leaves on a prefix, by that change
left_more_at : (changes : List Change) (change : Change) (q : IpPrefix) → HasNoClose changes →
    route_left_on q (changes ++ change ∷ [])
    ≡ cond (drops_routes change) None (cond (bears_on q change) (body_route change.time change.body) (route_left_on q changes))
left_more_at changes change q unclosed =
    let route : Change → Option RouteLeft = λ change. body_route change.time change.body in
    let split : (b : Bool) → option_and_then route (cond b (Some change) (last_change_on q changes))
    ≡ cond b (route change) (option_and_then route (last_change_on q changes)) = elim [ true ↦ refl | false ↦ refl ] in
    let drops : list_any drops_routes (changes ++ change ∷ []) ≡ drops_routes change =
    drops_more changes change unclosed ∙ elim (drops_routes change) as (λ b. (b || false) ≡ b) [ true ↦ refl | false ↦ refl ] in
    ap (λ b. cond b None (option_and_then route (last_change_on q (changes ++ change ∷ [])))) drops
    ∙ ap (λ o. cond (drops_routes change) None (option_and_then route o)) (last_change_more q changes change)
    ∙ ap (λ o. cond (drops_routes change) None o) (split (bears_on q change)
    ∙ ap (cond (bears_on q change) (route change)) (sym (route_left_open q changes unclosed)))

-- what the step on a map of routes leaves on a prefix
pub get-after : (routes : Routes) (change : Change) (q : IpPrefix) →
    map.get (after routes change) q ≡ cond (drops_routes change) None
    (cond (bears_on q change) (body_route change.time change.body) (map.get routes q))
get-after routes change q = by_body change.body
  where
    by_body : (body : ChangeBody) → map.get (after_body routes change.time body) q
        ≡ cond (body_drops body) None (cond (body_loses body || option_map_or (same_prefix q) (body_prefix body) false)
        (body_route change.time body) (map.get routes q))
    by_body (Announced prefix attributes) =
        map.get-insert prefix_total routes prefix (record { time = change.time; attributes = attributes }) q
    by_body (Withdrawn prefix) = map.get-remove prefix_total routes prefix q
    by_body Lost = map.get-empty prefix_cmp q
    by_body (Closed reason) = elim (reason_drops reason) as (λ b. map.get (cond b map.empty routes) q ≡ cond b None (map.get routes q)) [
      | true ↦ map.get-empty prefix_cmp q
      | false ↦ refl
    ]

pub left_more : (changes : List Change) (change : Change) → HasNoClose changes → left (changes ++ change ∷ []) ≡ after (left changes) change
left_more changes change unclosed =
    map.same_map prefix_total prefix_cmp-IsAntisymmetric _ _
    (λ q. get-left (changes ++ change ∷ []) q
    ∙ left_more_at changes change q unclosed
    ∙ ap (λ o. cond (drops_routes change) None (cond (bears_on q change) (body_route change.time change.body) o)) (sym (get-left changes q))
    ∙ sym (get-after (left changes) change q))

-- ---- by a part of the list

pub find_last_more : {X : Type 0} (p : X → Bool) (x : X) (xs : List X)
    → find p (reverse (x ∷ xs)) ≡ option_or (find p (reverse xs)) (find p (x ∷ []))
find_last_more p x xs = ap (find p) (reverse-append (x ∷ []) xs) ∙ find-append p (reverse xs) (x ∷ [])

pub or_none : {X : Type 0} (o : Option X) → option_or o None ≡ o
or_none None = refl
or_none (Some x) = refl

-- what all that passes is kept of, is found all the same
module _ {X : Type 0} (p keeps : X → Bool) (kept : (x : X) → p x ≡ true → keeps x ≡ true) where
  passed_over : (x : X) → keeps x ≡ false → p x ≡ false
  passed_over x not_kept = elim (cases_Bool (p x)) [ inl passes ↦ absurd (cc (kept x passes, not_kept)) | inr fails ↦ fails ]

  find_last-filter : (xs : List X) → find p (reverse (filter keeps xs)) ≡ find p (reverse xs)
  find_last-filter [] = refl
  find_last-filter (x ∷ xs) =
      elim (cases_Bool (keeps x)) [
        | inl stays ↦ rw stays (
            find_last_more p x (filter keeps xs)
            ∙ ap (λ o. option_or o (find p (x ∷ []))) (find_last-filter xs)
            ∙ sym (find_last_more p x xs))
        | inr goes ↦ rw goes (
            find_last-filter xs
            ∙ sym (or_none (find p (reverse xs)))
            ∙ ap (option_or (find p (reverse xs))) (sym (find_none p (x ∷ []) (or_from _ _ (passed_over x goes) refl)))
            ∙ sym (find_last_more p x xs))
      ]

  any-filter : (xs : List X) → list_any p (filter keeps xs) ≡ list_any p xs
  any-filter [] = refl
  any-filter (x ∷ xs) =
      elim (cases_Bool (keeps x)) [
        | inl stays ↦ rw stays (ap (λ b. p x || b) (any-filter xs))
        | inr goes ↦ rw (goes, passed_over x goes) (any-filter xs)
      ]

drops_on_none : (body : ChangeBody) → body_drops body ≡ true → body_prefix body ≡ None
drops_on_none (Announced prefix attributes) e = absurd (cc e)
drops_on_none (Withdrawn prefix) e = absurd (cc e)
drops_on_none Lost e = refl
drops_on_none (Closed reason) e = refl

loses_on_none : (body : ChangeBody) → body_loses body ≡ true → body_prefix body ≡ None
loses_on_none (Announced prefix attributes) e = absurd (cc e)
loses_on_none (Withdrawn prefix) e = absurd (cc e)
loses_on_none Lost e = refl
loses_on_none (Closed reason) e = refl

pub route_left_by_part : (keeps : Change → Bool) (prefix : IpPrefix)
    → ((change : Change) → is_on prefix change ≡ true → keeps change ≡ true) →
    ((change : Change) → body_prefix change.body ≡ None → keeps change ≡ true) → (changes : List Change)
    → route_left_on prefix (filter keeps changes) ≡ route_left_on prefix changes
route_left_by_part keeps prefix on none changes =
    let bearing : (change : Change) → bears_on prefix change ≡ true → keeps change ≡ true =
    λ change bears. elim (cases_Bool (is_loss change)) [
      | inl loss ↦ none change (loses_on_none change.body loss)
      | inr up ↦ on change (rw up at bears)
    ] in
    ap (λ b. cond b None (option_and_then (λ change. body_route change.time change.body) (last_change_on prefix (filter keeps changes))))
    (any-filter drops_routes keeps (λ change drops. none change (drops_on_none change.body drops)) changes)
    ∙ ap (λ o. cond (list_any drops_routes changes) None (option_and_then (λ change. body_route change.time change.body) o))
    (find_last-filter (bears_on prefix) keeps bearing changes)

-- ---- by last places

pub left-from-leaves : (changes : List Change) (prefix : IpPrefix) (route : RouteLeft) → Leaves changes prefix route
    → map.get (left changes) prefix ≡ Some route
left-from-leaves changes prefix route leaves =
    let here : Change = announcement prefix route in
    let backward : reverse changes ≡ (reverse leaves.later ++ here ∷ []) ++ reverse leaves.earlier =
    ap reverse leaves.is_announced ∙ reverse-append leaves.earlier (here ∷ leaves.later)
    ∙ ap (λ xs. xs ++ reverse leaves.earlier) (reverse-append (here ∷ []) leaves.later) in
    let not_later : find (bears_on prefix) (reverse leaves.later) ≡ None =
    find_none (bears_on prefix) (reverse leaves.later) (list_any-reverse (bears_on prefix) leaves.later
    (none_of_both is_loss (is_on prefix) leaves.later leaves.stays_up leaves.is_last)) in
    let last : last_change_on prefix changes ≡ Some here =
    ap (find (bears_on prefix)) backward
    ∙ find-append (bears_on prefix) (reverse leaves.later ++ here ∷ []) (reverse leaves.earlier)
    ∙ ap (λ o. option_or o (find (bears_on prefix) (reverse leaves.earlier)))
    (find-append (bears_on prefix) (reverse leaves.later) (here ∷ [])
    ∙ ap (λ o. option_or o (find (bears_on prefix) (here ∷ []))) not_later
    ∙ find_here (bears_on prefix) here [] (same_prefix-itself prefix)) in
    get-left changes prefix
    ∙ ap (λ b. cond b None (option_and_then (λ change. body_route change.time change.body) (last_change_on prefix changes)))
    leaves.keeps_routes
    ∙ ap (option_and_then (λ change. body_route change.time change.body)) last

-- a change on a prefix that leaves a route is that route's announcement
announces : (prefix : IpPrefix) (route : RouteLeft) (change : Change) → bears_on prefix change ≡ true
    → body_route change.time change.body ≡ Some route → change ≡ announcement prefix route
announces prefix route change here is = by_body change.body refl here is
  where
    by_body : (body : ChangeBody) → change.body ≡ body → (body_loses body || option_map_or (same_prefix prefix) (body_prefix body) false)
        ≡ true → body_route change.time body ≡ Some route → change ≡ announcement prefix route
    by_body (Announced p attributes) e on is =
        let same : prefix ≡ p = same_prefix-true prefix p on in
        let whole : record { time = change.time; attributes = attributes } ≡ route = cc is in
        λ i. record { time = (whole i).time; body = (e ∙ λ j. Announced (sym same j) (whole j).attributes) i }
    by_body (Withdrawn p) e on is = absurd (cc is)
    by_body Lost e on is = absurd (cc is)
    by_body (Closed reason) e on is = absurd (cc is)

pub leaves-from-left : (changes : List Change) (prefix : IpPrefix) (route : RouteLeft) → map.get (left changes) prefix ≡ Some route
    → Leaves changes prefix route
leaves-from-left changes prefix route is =
    let is_left : route_left_on prefix changes ≡ Some route = sym (get-left changes prefix) ∙ is in
    by_drops (list_any drops_routes changes) refl is_left
  where
    from_last : list_any drops_routes changes ≡ false → (o : Option Change) → last_change_on prefix changes ≡ o
        → option_and_then (λ change. body_route change.time change.body) o ≡ Some route → Leaves changes prefix route
    from_last keeps None e is = absurd (cc is)
    from_last keeps (Some change) e is =
        let found : FoundAt (bears_on prefix) (reverse changes) change = found_at (bears_on prefix) (reverse changes) change e in
        let same : change ≡ announcement prefix route = announces prefix route change found.passes is in
        let forward : changes ≡ reverse found.behind ++ announcement prefix route ∷ reverse found.before =
        sym (reverse-reverse changes) ∙ ap reverse found.is ∙ reverse-append found.before (change ∷ found.behind)
        ∙ ap (λ xs. xs ++ reverse found.before) (reverse-append (change ∷ []) found.behind)
        ∙ append_assoc (reverse found.behind) (change ∷ []) (reverse found.before)
        ∙ ap (λ x. reverse found.behind ++ x ∷ reverse found.before) same in
        let none = both_none is_loss (is_on prefix) found.before found.none_before in
        record {
          earlier = reverse found.behind;
          later = reverse found.before;
          is_announced = forward;
          is_last = list_any-reverse (is_on prefix) found.before none.1;
          stays_up = list_any-reverse is_loss found.before none.0;
          keeps_routes = keeps;
        }

    by_drops : (b : Bool) → list_any drops_routes changes ≡ b
        → cond b None (option_and_then (λ change. body_route change.time change.body) (last_change_on prefix changes)) ≡ Some route
        → Leaves changes prefix route
    by_drops true e is = absurd (cc is)
    by_drops false e is = from_last e (last_change_on prefix changes) refl is
