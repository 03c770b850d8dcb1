-- What a list of changes leaves, with one more at either end, and where no entry counts: for log.rt, gathering.rt and settling.rt.
use Rattle.std.proofs.Common.{◌≡◌, ℕ, Bool, true, false, cond, ◌&&◌, ◌==◌, List, [], ◌∷◌, ◌++◌, reverse, All, Option, Some, None, refl, ap}
use Rattle.std.proofs.Common.{◌∙◌, inl, inr}
use Rattle.std.specs.List.{find, list_any}
use Rattle.std.specs.Option.{option_map_or, option_or}
use Rattle.std.proofs.lemmas.Bool.{cases_Bool, and_right}
use Rattle.std.proofs.lemmas.List.{reverse-append}
use Rattle.std.proofs.lemmas.List.Elements.{All-head, All-tail}
use Rattle.rs_types.specs.IpPrefix.{IpPrefix}
use Rattle.rs_types.specs.PrefixOrder.{same_prefix}
use Rattle.rs_table.specs.Logged.{Logged}
use Rattle.rs_table.specs.Left.{RouteLeft}
use Rattle.rs_table.specs.Gathered.{counts, entry_route, first_octet, is_current, left_over}
use Rattle.rs_table.proofs.LeftLemmas.{find_last_more, find_none, list_any-reverse}
use Rattle.rs_table.proofs.PrefixLemmas.{same_prefix-true}

module _ (losses : List ℕ) (peer : ℕ) (prefix : IpPrefix) where
  -- one entry more came
  pub left-push : (entries : List Logged) (entry : Logged) (before : Option RouteLeft) →
      left_over losses (entries ++ entry ∷ []) peer prefix before
      ≡ cond (counts losses peer prefix entry) (entry_route entry) (left_over losses entries peer prefix before)
  left-push entries entry before =
      ap (λ (list : List Logged). option_map_or entry_route (find (counts losses peer prefix) list) before)
      (reverse-append entries (entry ∷ []))
      ∙ by_test (counts losses peer prefix entry)
    where
      by_test : (b : Bool) → option_map_or entry_route (cond b (Some entry) (find (counts losses peer prefix) (reverse entries))) before
          ≡ cond b (entry_route entry) (left_over losses entries peer prefix before)
      by_test true = refl
      by_test false = refl

  -- the first entry is what the others stand behind
  pub left-cons : (entry : Logged) (entries : List Logged) (before : Option RouteLeft) →
      left_over losses (entry ∷ entries) peer prefix before
      ≡ left_over losses entries peer prefix (cond (counts losses peer prefix entry) (entry_route entry) before)
  left-cons entry entries before =
      ap (λ (o : Option Logged). option_map_or entry_route o before) (find_last_more (counts losses peer prefix) entry entries)
      ∙ by_both (find (counts losses peer prefix) (reverse entries)) (counts losses peer prefix entry)
    where
      by_both : (o : Option Logged) (b : Bool) → option_map_or entry_route (option_or o (cond b (Some entry) None)) before
          ≡ option_map_or entry_route o (cond b (entry_route entry) before)
      by_both (Some found) b = refl
      by_both None true = refl
      by_both None false = refl

  -- where no entry counts, what was left before stays
  pub left-none : (entries : List Logged) (before : Option RouteLeft) → list_any (counts losses peer prefix) entries ≡ false
      → left_over losses entries peer prefix before ≡ before
  left-none entries before none =
      ap (λ (o : Option Logged). option_map_or entry_route o before)
      (find_none (counts losses peer prefix) (reverse entries) (list_any-reverse (counts losses peer prefix) entries none))

  -- the last entry that counts says what is left
  pub left-by-last : (earlier later : List Logged) (entry : Logged) (before : Option RouteLeft) → counts losses peer prefix entry ≡ true
      → list_any (counts losses peer prefix) later ≡ false
      → left_over losses (earlier ++ entry ∷ later) peer prefix before ≡ entry_route entry
  left-by-last [] later entry before here none = left-cons entry later before ∙ left-none later _ none ∙ rw here refl
  left-by-last (first ∷ earlier) later entry before here none =
      left-cons first (earlier ++ entry ∷ later) before ∙ left-by-last earlier later entry _ here none

  -- an entry on another prefix doesn't count, nor does a void one
  pub uncounted-elsewhere : (entry : Logged) → same_prefix prefix entry.prefix ≡ false → counts losses peer prefix entry ≡ false
  uncounted-elsewhere entry other = rw other (ap (λ b. b && is_current losses entry) (and_right (entry.peer == peer) false refl))

  pub uncounted-void : (entry : Logged) → is_current losses entry ≡ false → counts losses peer prefix entry ≡ false
  uncounted-void entry void = and_right _ _ void

  -- entries of another first octet don't count
  pub uncounted-octet : (entry : Logged) (octet : ℕ) → first_octet entry.prefix ≡ octet → (first_octet prefix ≡ octet → ⊥)
      → counts losses peer prefix entry ≡ false
  uncounted-octet entry octet is apart =
      elim (cases_Bool (same_prefix prefix entry.prefix)) [
        | inl same ↦ absurd (apart (ap first_octet (same_prefix-true prefix entry.prefix same) ∙ is))
        | inr other ↦ uncounted-elsewhere entry other
      ]

-- a test that all fail, none passes
pub none-any : {X : Type 0} (p : X → Bool) (xs : List X) → All (λ x. p x ≡ false) xs → list_any p xs ≡ false
none-any p [] all = refl
none-any p (x ∷ xs) all = rw (All-head (λ y. p y ≡ false) x xs all) (none-any p xs (All-tail (λ y. p y ≡ false) x xs all))

-- tests that agree find the same
pub find-agree : {X : Type 0} (p q : X → Bool) → ((x : X) → p x ≡ q x) → (xs : List X) → find p xs ≡ find q xs
find-agree p q agree [] = refl
find-agree p q agree (x ∷ xs) = rw (agree x) (ap (λ rest. cond (q x) (Some x) rest) (find-agree p q agree xs))
