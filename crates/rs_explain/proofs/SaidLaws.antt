-- The last changes on a prefix agree with the routes that are left.
use Rattle.std.proofs.Common.{◌≡◌, ◌∙◌, sym, ap, refl, ℕ, Bool, true, false, cond, List, [], ◌∷◌, ◌++◌, inl, inr}
use Rattle.std.specs.Prelude.{Some, None}
use Rattle.std.specs.List.{list_any}
use Rattle.std.specs.Option.{is_some}
use Rattle.std.proofs.lemmas.Bool.{both_ways, or_parts}
use Rattle.std.proofs.lemmas.Option.{cond_some}
use Rattle.rs_update.specs.IpPrefix.{IpPrefix}
use Rattle.rs_update.specs.PathAttributes.{PathAttributes}
use Rattle.rs_update.specs.PrefixOrder.{same_prefix}
use Rattle.rs_session.specs.Change.{Change, ChangeBody, Announced, Withdrawn, Lost, Closed}
use Rattle.rs_table.specs.Left.{announcement, drops_routes, is_loss, is_on, reason_drops, Leaves, RouteLeft}
use Rattle.rs_explain.specs.declared.last_said.Ending.{Ending}
use Rattle.rs_explain.specs.declared.last_said.EndedBy.{EndedBy}
use Rattle.rs_explain.specs.declared.last_said.EndedBy.TheVariants as by
use Rattle.rs_explain.specs.LastSaid.{announces, body_announces, body_ends_by, ends, EndRoute, IsAnnouncedLast, KeepRoute}
use Rattle.rs_table.proofs.PrefixLemmas.{same_prefix-itself, same_prefix-true}
use Rattle.rs_choice.proofs.Members.{Mem, list_any-none, mem-append_right}

-- ---- one change

module _ (prefix : IpPrefix) where
  body_of_announcement : (body : ChangeBody) → body_announces prefix body ≡ true → (attributes : PathAttributes)
      × (body ≡ Announced prefix attributes)
  body_of_announcement (Announced announced attributes) is =
      (attributes, ap (λ (announced : IpPrefix). Announced announced attributes) (sym (same_prefix-true prefix announced is)))
  body_of_announcement (Withdrawn withdrawn) is = absurd (cc)
  body_of_announcement Lost is = absurd (cc)
  body_of_announcement (Closed reason) is = absurd (cc)

  none_if : (b : Bool) (by : EndedBy) → is_some (cond b (Some by) None) ≡ false → b ≡ false
  none_if true by none = absurd (cc)
  none_if false by none = refl

  body_off : (time : ℕ) (body : ChangeBody) → body_announces prefix body ≡ false → is_some (body_ends_by prefix body) ≡ false
      → is_on prefix (record { time = time; body = body }) ≡ false
  body_off time (Announced announced attributes) other keeps = other
  body_off time (Withdrawn withdrawn) other keeps = none_if (same_prefix prefix withdrawn) by.Withdrawal keeps
  body_off time Lost other keeps = refl
  body_off time (Closed reason) other keeps = refl

  body_up : (time : ℕ) (body : ChangeBody) → is_some (body_ends_by prefix body) ≡ false
      → is_loss (record { time = time; body = body }) ≡ false
  body_up time (Announced announced attributes) keeps = refl
  body_up time (Withdrawn withdrawn) keeps = refl
  body_up time Lost keeps = absurd (cc)
  body_up time (Closed reason) keeps = refl

  -- a change that takes the route away is on the prefix, or a loss, or drops all routes
  body_ends : (time : ℕ) (body : ChangeBody) (ended : EndedBy) → body_ends_by prefix body ≡ Some ended
      → is_on prefix (record { time = time; body = body }) ≡ false →
      is_loss (record { time = time; body = body }) ≡ false → drops_routes (record { time = time; body = body }) ≡ false → ⊥
  body_ends time (Announced announced attributes) ended is off up keeps = absurd (cc)
  body_ends time (Withdrawn withdrawn) ended is off up keeps =
      both_ways (same_prefix prefix withdrawn) off (cond_some (same_prefix prefix withdrawn) by.Withdrawal ended is).0
  body_ends time Lost ended is off up keeps = absurd (cc)
  body_ends time (Closed reason) ended is off up keeps =
      both_ways (reason_drops reason) keeps (cond_some (reason_drops reason) (by.Close reason) ended is).0

  -- ---- lists

  none_on : (later : List Change) → list_any (announces prefix) later ≡ false → KeepRoute prefix later
      → list_any (is_on prefix) later ≡ false
  none_on [] other keeps = refl
  none_on (change ∷ later) other keeps =
      let others = or_parts (announces prefix change) (list_any (announces prefix) later) other in
      let kept = or_parts (ends prefix change) (list_any (ends prefix) later) keeps in
      rw (body_off change.time change.body others.0 kept.0, none_on later others.1 kept.1) refl

  none_lost : (later : List Change) → KeepRoute prefix later → list_any is_loss later ≡ false
  none_lost [] keeps = refl
  none_lost (change ∷ later) keeps =
      let kept = or_parts (ends prefix change) (list_any (ends prefix) later) keeps in
      rw (body_up change.time change.body kept.0, none_lost later kept.1) refl

  -- what is announced last and not taken away is left
  pub announced_is_left : (changes : List Change) (time : ℕ) → IsAnnouncedLast prefix changes time (KeepRoute prefix)
      → list_any drops_routes changes ≡ false →
      (route : RouteLeft) × (route.time ≡ time) × Leaves changes prefix route
  announced_is_left changes time said keeps =
      let is = body_of_announcement said.announcement.body said.announced in
      let earlier = said.earlier in
      let later = said.later in (
        record { time = said.announcement.time; attributes = is.0 },
        said.at,
        record {
          earlier = earlier;
          later = later;
          is_announced =
              said.splits ∙ ap (λ (body : ChangeBody). earlier ++ record { time = said.announcement.time; body = body } ∷ later) is.1;
          is_last = none_on later said.last said.after;
          stays_up = none_lost later said.after;
          keeps_routes = keeps;
        },
      )

module _ {M : Type 0} (p : M → Bool) where
  head_tail : (x y : M) (xs ys : List M) → x ∷ xs ≡ y ∷ ys → (x ≡ y) × (xs ≡ ys)
  head_tail x y xs ys e = (cc, cc)

  -- of two ways to split a list, what follows where no test holds follows in the other too, where a test holds
  pub follows_too : (e e' : List M) (a a' : M) (later later' : List M) → e ++ a ∷ later ≡ e' ++ a' ∷ later' → p a' ≡ true
      → list_any p later ≡ false →
      (x : M) → Mem later x → Mem later' x
  follows_too [] [] a a' later later' same is none x h = rw (← (head_tail a a' later later' same).1) h
  follows_too [] (y ∷ e') a a' later later' same is none x h =
      let tail : later ≡ e' ++ a' ∷ later' = (head_tail a y later (e' ++ a' ∷ later') same).1 in
      let other : p a' ≡ false = list_any-none p later a' none (rw tail (mem-append_right e' (a' ∷ later') a' (inl refl))) in
      absurd (cc (is, other))
  follows_too (y ∷ e) [] a a' later later' same is none x h =
      rw (← (head_tail y a' (e ++ a ∷ later) later' same).1) (mem-append_right e (a ∷ later) x (inr h))
  follows_too (y ∷ e) (z ∷ e') a a' later later' same is none x h =
      follows_too e e' a a' later later' (head_tail y z (e ++ a ∷ later) (e' ++ a' ∷ later') same).1 is none x h

-- what is not announced last, or taken away since, is not left
module _ (prefix : IpPrefix) where
  announced_itself : (route : RouteLeft) → announces prefix (announcement prefix route) ≡ true
  announced_itself route = same_prefix-itself prefix

  pub never_announced : (changes : List Change) → list_any (announces prefix) changes ≡ false → (route : RouteLeft)
      → Leaves changes prefix route → ⊥
  never_announced changes none route leaves =
      let there : Mem changes (announcement prefix route) =
      rw leaves.is_announced (mem-append_right leaves.earlier (announcement prefix route ∷ leaves.later) (announcement prefix route)
      (inl refl)) in
      let other : announces prefix (announcement prefix route) ≡ false =
      list_any-none (announces prefix) changes (announcement prefix route) none there in
      absurd (cc (announced_itself route, other))

  pub ended_is_gone : (changes : List Change) (time : ℕ) (ending : Ending) → IsAnnouncedLast prefix changes time (EndRoute prefix ending) →
      (route : RouteLeft) → Leaves changes prefix route → ⊥
  ended_is_gone changes time ending said route leaves =
      let ended = said.after in
      let change = ended.change in
      let in_later : Mem said.later change = rw ended.splits (mem-append_right ended.before (change ∷ ended.after) change (inl refl)) in
      let follows : Mem leaves.later change =
      follows_too (announces prefix) said.earlier leaves.earlier said.announcement (announcement prefix route) said.later leaves.later
      (sym said.splits ∙ leaves.is_announced) (announced_itself route) said.last change in_later in
      let in_all : Mem changes change =
      rw leaves.is_announced (mem-append_right leaves.earlier (announcement prefix route ∷ leaves.later) change (inr follows)) in
      body_ends prefix change.time change.body ending.by ended.ends.by
      (list_any-none (is_on prefix) leaves.later change leaves.is_last follows)
      (list_any-none is_loss leaves.later change leaves.stays_up follows)
      (list_any-none drops_routes changes change leaves.keeps_routes in_all)
