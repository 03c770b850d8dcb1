-- Changes that don't concern a prefix are passed over: what is said of the prefix stays, and what is left on those that cover it.
use Rattle.std.proofs.Common.{◌≡◌, ◌∙◌, sym, ap, subst, refl, ℕ, Bool, true, false, List, [], ◌∷◌, ◌++◌, Option, Some, Ok, append_assoc}
use Rattle.std.specs.Prelude.{◌||◌, cond, filter}
use Rattle.std.specs.List.{list_any}
use Rattle.std.specs.Option.{is_some}
use Rattle.std.proofs.lemmas.Bool.{false_from_ne_true, or_parts, true≢false}
use Rattle.std.proofs.lemmas.List.{append-nil}
use Rattle.std.proofs.lemmas.List.Elements.{filter-append}
use Rattle.rs_update.specs.Covering.{covers}
use Rattle.rs_update.specs.IpPrefix.{IpPrefix}
use Rattle.rs_update.specs.PrefixOrder.{same_prefix}
use Rattle.rs_mrt.specs.Record.{MrtRecord}
use Rattle.rs_session.specs.Change.{Change, ChangeBody, Announced, Withdrawn, Closed, body_closes, change_of, is_close}
use Rattle.rs_session.specs.Concerning.{SaysBehind, body_concerns, concerns}
use Rattle.rs_session.specs.Stage.{Comes, Stage, May, Closes}
use Rattle.rs_change.specs.declared.word.Reason.{Reason}
use Rattle.rs_change.specs.declared.word.Word.{Word}
use Rattle.rs_table.proofs.RibLemmas.{any-one_more}
use Rattle.rs_table.specs.Left.{Routes, left}
use Rattle.rs_explain.specs.LastSaid.{IsSaidLast, EndRoute, KeepRoute, announces, body_announces, body_ends_by}
use Rattle.rs_explain.specs.declared.last_said.LastSaid.{LastSaid}
use Rattle.rs_explain.specs.declared.last_said.LastSaid.TheVariants as last
use Rattle.rs_explain.proofs.SaidLemmas.{announced_before, ended_before, kept, none-append, none-one}
use Rattle.rs_glass.specs.Recorded.{IsSaid, close_after, close_in}
use Rattle.rs_glass.specs.declared.said.Said.{Said}
use Rattle.rs_table.proofs.PrefixLemmas.{same_prefix-true}
use Rattle.rs_glass.proofs.GivenLemmas.{IsGiven}
use Rattle.rs_glass.proofs.ReadingLemmas.{IsTaken}
use Rattle.rs_glass.proofs.SaidLemmas.{close_in-more}

-- ---- what is said of a prefix

module _ (prefix : IpPrefix) (itself : covers prefix prefix ≡ true) where
  -- a prefix that doesn't cover it is another one
  other-prefix : (changed : IpPrefix) → covers changed prefix ≡ false → same_prefix prefix changed ≡ false
  other-prefix changed beside =
      false_from_ne_true (same_prefix prefix changed) (λ same. true≢false
      (sym (subst (λ (one : IpPrefix). covers one prefix ≡ true) (same_prefix-true prefix changed same) itself) ∙ beside))

  -- a change that doesn't concern it neither announces it nor takes its route away
  beside-announces : (body : ChangeBody) → body_concerns prefix body ≡ false → body_announces prefix body ≡ false
  beside-announces (Announced changed attributes) beside = other-prefix changed beside
  beside-announces body beside = refl

  beside-ends : (body : ChangeBody) → body_concerns prefix body ≡ false → is_some (body_ends_by prefix body) ≡ false
  beside-ends (Announced changed attributes) beside = refl
  beside-ends (Withdrawn changed) beside = rw (other-prefix changed beside) refl
  beside-ends body beside = absurd cc

  -- nor closes the session
  beside-close_after : (before : Option Reason) (body : ChangeBody) → body_concerns prefix body ≡ false → close_after before body ≡ before
  beside-close_after before (Closed reason) beside = absurd cc
  beside-close_after before body beside = refl

  said_last-over : (given : List Change) (change : Change) → concerns prefix change ≡ false → (one : LastSaid) → IsSaidLast prefix given one
      → IsSaidLast prefix (given ++ change ∷ []) one
  said_last-over given change beside last.NeverAnnounced said =
      none-append (announces prefix) given (change ∷ []) said (none-one (announces prefix) change (beside-announces change.body beside))
  said_last-over given change beside (last.Announced time) said =
      announced_before prefix change given time (KeepRoute prefix) (KeepRoute prefix) (beside-announces change.body beside)
      (kept prefix change (beside-ends change.body beside)) said
  said_last-over given change beside (last.Ended time ending) said =
      announced_before prefix change given time (EndRoute prefix ending) (EndRoute prefix ending) (beside-announces change.body beside)
      (ended_before prefix change ending) said

  said-over_one : (given : List Change) (change : Change) (said : Said) → concerns prefix change ≡ false → IsSaid prefix given said
      → IsSaid prefix (given ++ change ∷ []) said
  said-over_one given change said beside is = record {
    last = said_last-over given change beside said.last is.last;
    close = is.close ∙ sym (close_in-more given change ∙ beside-close_after (close_in given) change.body beside);
  }

  said-over : (given over : List Change) (said : Said) → list_any (concerns prefix) over ≡ false → IsSaid prefix given said
      → IsSaid prefix (given ++ over) said
  said-over given [] said beside is = subst (λ (all : List Change). IsSaid prefix all said) (sym (append-nil given)) is
  said-over given (change ∷ over) said beside is =
      subst (λ (all : List Change). IsSaid prefix all said) (append_assoc given (change ∷ []) over)
      (said-over (given ++ change ∷ []) over said (or_parts (concerns prefix change) (list_any (concerns prefix) over) beside).1
      (said-over_one given change said (or_parts (concerns prefix change) (list_any (concerns prefix) over) beside).0 is))

  none-kept : (over : List Change) → list_any (concerns prefix) over ≡ false → filter (concerns prefix) over ≡ []
  none-kept [] beside = refl
  none-kept (change ∷ over) beside =
      let first : concerns prefix change ≡ false = (or_parts (concerns prefix change) (list_any (concerns prefix) over) beside).0 in
      ap (λ (b : Bool). cond b (change ∷ filter (concerns prefix) over) (filter (concerns prefix) over)) first
      ∙ none-kept over (or_parts (concerns prefix change) (list_any (concerns prefix) over) beside).1

  pub taken-over : (given over : List Change) (routes : Routes) (said : Said) → list_any (concerns prefix) over ≡ false
      → IsTaken prefix given routes said → IsTaken prefix (given ++ over) routes said
  taken-over given over routes said beside is = record {
    left_is = ap left (filter-append (concerns prefix) given over
        ∙ ap (λ (rest : List Change). filter (concerns prefix) given ++ rest) (none-kept over beside)
        ∙ append-nil (filter (concerns prefix) given)) ∙ is.left_is;
    is_said = said-over given over said beside is.is_said;
  }

-- none of those that don't concern a prefix is a close
over-open : (prefix : IpPrefix) (over : List Change) → list_any (concerns prefix) over ≡ false → list_any is_close over ≡ false
over-open prefix [] beside = refl
over-open prefix (change ∷ over) beside =
    open_one change.body (or_parts (concerns prefix change) (list_any (concerns prefix) over) beside).0
    (over-open prefix over (or_parts (concerns prefix change) (list_any (concerns prefix) over) beside).1)
  where
    open_one : (body : ChangeBody) → body_concerns prefix body ≡ false → list_any is_close over ≡ false
        → (body_closes body || list_any is_close over) ≡ false
    open_one (Closed reason) b later = absurd cc
    open_one body b later = later

pub open-over : (prefix : IpPrefix) (given over : List Change) → list_any (concerns prefix) over ≡ false → list_any is_close given ≡ false
    → list_any is_close (given ++ over) ≡ false
open-over prefix given over beside none = none-append is_close given over none (over-open prefix over beside)

-- ---- what was given and passed over

module _ {S : Type 0} (comes : Comes S) (shows : S → Option MrtRecord) (start : Stage S) where
  -- those that were passed over come behind those that were given, and what is given then behind these
  before-behind : (given over : List Change) (old new : Stage S) (word : Word)
      → IsGiven comes shows start given old → SaysBehind comes shows over old new (Ok (Some word))
      → (changes : List Change) (passed : ℕ) → May comes shows new changes passed
      → May comes shows start (((given ++ over) ++ change_of word ∷ []) ++ changes) passed
  before-behind given over old new word is says changes passed may =
      let change = change_of word in
      let same : given ++ ((over ++ change ∷ []) ++ changes) ≡ ((given ++ over) ++ change ∷ []) ++ changes =
      ap (λ (rest : List Change). given ++ rest) (append_assoc over (change ∷ []) changes)
      ∙ sym (append_assoc (given ++ over) (change ∷ []) changes ∙ append_assoc given over (change ∷ changes)) in
      subst (λ (all : List Change). May comes shows start all passed) same
      (is.before ((over ++ change ∷ []) ++ changes) passed (says.0 changes passed may))

  pub given-more-behind : (prefix : IpPrefix) (given over : List Change) (old new : Stage S) (word : Word)
      → list_any (concerns prefix) over ≡ false → IsGiven comes shows start given old
      → SaysBehind comes shows over old new (Ok (Some word)) → Closes old.closed new.closed (Ok (Some word))
      → IsGiven comes shows start ((given ++ over) ++ change_of word ∷ []) new
  given-more-behind prefix given over old new word beside is says closes = record {
    before = before-behind given over old new word is says;
    closed = closes.1 ∙ sym (any-one_more is_close (given ++ over) (change_of word)
        (open-over prefix given over beside (sym is.closed ∙ closes.0)));
  }
