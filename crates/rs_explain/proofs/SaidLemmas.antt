-- The last changes on a prefix, after one more change.
use Rattle.std.proofs.Common.{◌≡◌, ◌∙◌, ap, refl, ℕ, Bool, true, false, List, [], ◌∷◌, ◌++◌, append_assoc}
use Rattle.std.specs.List.{list_any}
use Rattle.std.proofs.lemmas.Bool.{or_from}
use Rattle.std.proofs.lemmas.List.Folds.{list_any-append}
use Rattle.rs_update.specs.IpPrefix.{IpPrefix}
use Rattle.rs_session.specs.Change.{Change}
use Rattle.rs_explain.specs.declared.last_said.Ending.{Ending}
use Rattle.rs_explain.specs.LastSaid.{announces, ends, EndRoute, IsAnnouncedLast, IsEnding, KeepRoute}

-- no member of two lists passes a test
pub none-append : {M : Type 0} (p : M → Bool) (xs ys : List M) → list_any p xs ≡ false → list_any p ys ≡ false
    → list_any p (xs ++ ys) ≡ false
none-append p xs ys none later = list_any-append p xs ys ∙ or_from (list_any p xs) (list_any p ys) none later

pub none-one : {M : Type 0} (p : M → Bool) (x : M) → p x ≡ false → list_any p (x ∷ []) ≡ false
none-one p x none = rw none refl

module _ (prefix : IpPrefix) (change : Change) where
  pub announced_now : (changes : List Change) → announces prefix change ≡ true
      → IsAnnouncedLast prefix (changes ++ change ∷ []) change.time (KeepRoute prefix)
  announced_now changes is =
      record { earlier = changes; announcement = change; later = []; splits = refl; announced = is; at = refl; last = refl; after = refl }

  -- the last announcement stays the last
  pub announced_before : (changes : List Change) (time : ℕ) (Then Next : List Change → Type 0) → announces prefix change ≡ false →
      ((later : List Change) → Then later → Next (later ++ change ∷ [])) →
      IsAnnouncedLast prefix changes time Then → IsAnnouncedLast prefix (changes ++ change ∷ []) time Next
  announced_before changes time Then Next other goes_on said = record {
    earlier = said.earlier;
    announcement = said.announcement;
    later = said.later ++ change ∷ [];
    splits = ap (λ (all : List Change). all ++ change ∷ []) said.splits
        ∙ append_assoc said.earlier (said.announcement ∷ said.later) (change ∷ []);
    announced = said.announced;
    at = said.at;
    last = none-append (announces prefix) said.later (change ∷ []) said.last (none-one (announces prefix) change other);
    after = goes_on said.later said.after;
  }

  pub kept : ends prefix change ≡ false → (later : List Change) → KeepRoute prefix later → KeepRoute prefix (later ++ change ∷ [])
  kept none later keeps = none-append (ends prefix) later (change ∷ []) keeps (none-one (ends prefix) change none)

  pub ended_now : (ending : Ending) → IsEnding prefix change ending → (later : List Change) → KeepRoute prefix later
      → EndRoute prefix ending (later ++ change ∷ [])
  ended_now ending is later keeps = record { before = later; change = change; after = []; splits = refl; first = keeps; ends = is }

  pub ended_before : (ending : Ending) (later : List Change) → EndRoute prefix ending later → EndRoute prefix ending (later ++ change ∷ [])
  ended_before ending later said = record {
    before = said.before;
    change = said.change;
    after = said.after ++ change ∷ [];
    splits = ap (λ (all : List Change). all ++ change ∷ []) said.splits ∙ append_assoc said.before (said.change ∷ said.after) (change ∷ []);
    first = said.first;
    ends = said.ends;
  }
