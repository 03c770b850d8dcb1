-- The recorded session of a peer: what its changes leave and say, change by change.
use Rattle.std.proofs.Common.{◌≡◌, ◌∙◌, sym, ap, subst, refl, Bool, true, false, List, [], ◌∷◌, ◌++◌, Option, None}
use Rattle.std.specs.Prelude.{cond, filter}
use Rattle.std.specs.List.{list_any}
use Rattle.std.specs.Option.{option_map_or}
use Rattle.std.specs.FinMap.{empty, get}
use Rattle.std.proofs.lemmas.List.{append-nil}
use Rattle.std.proofs.lemmas.List.Elements.{filter-append}
use Rattle.rs_update.specs.IpPrefix.{IpPrefix}
use Rattle.rs_mrt.specs.Record.{MrtRecord}
use Rattle.rs_session.specs.Change.{Change, ChangeBody, Announced, Withdrawn, is_close}
use Rattle.rs_session.specs.Stage.{Comes, Stage}
use Rattle.rs_table.specs.Laws.{LeftAfterOneMore, LeftByLastChanges, LeftByPart}
use Rattle.rs_table.specs.Left.{Routes, after, body_prefix, left}
use Rattle.rs_update.specs.Covering.{covers}
use Rattle.rs_update.specs.PrefixOrder.{same_prefix}
use Rattle.rs_session.specs.Concerning.{body_concerns, concerns}
use Rattle.rs_glass.specs.Recorded.{AreTold, IsSaid}
use Rattle.rs_glass.specs.declared.said.Said.{Said}
use Rattle.rs_session.proofs.BesideLemmas.{none-part}
use Rattle.rs_table.proofs.PrefixLemmas.{same_prefix-true}
use Rattle.rs_table.proofs.RibLemmas.{left-nothing}
use Rattle.rs_glass.proofs.GivenLemmas.{IsGiven}

-- ---- prefixes that cover one

module _ (prefix : IpPrefix) where
  -- one on a prefix that covers it concerns it
  body_on : (wide : IpPrefix) → covers wide prefix ≡ true → (body : ChangeBody)
      → option_map_or (same_prefix wide) (body_prefix body) false ≡ true → body_concerns prefix body ≡ true
  body_on wide covered (Announced changed attributes) on =
      subst (λ (one : IpPrefix). covers one prefix ≡ true) (same_prefix-true wide changed on) covered
  body_on wide covered (Withdrawn changed) on =
      subst (λ (one : IpPrefix). covers one prefix ≡ true) (same_prefix-true wide changed on) covered
  body_on wide covered body on = absurd cc

  -- and so does one on no prefix
  body_on_none : (body : ChangeBody) → body_prefix body ≡ None → body_concerns prefix body ≡ true
  body_on_none (Announced changed attributes) none = absurd cc
  body_on_none (Withdrawn changed) none = absurd cc
  body_on_none body none = refl

  -- what the changes that concern it leave is what all leave on each prefix that covers it
  pub told : (given : List Change) (routes : Routes) (one : Said) → LeftByPart → LeftByLastChanges
      → left (filter (concerns prefix) given) ≡ routes → IsSaid prefix given one → AreTold prefix given routes one
  told given routes one by_part by_last left_is said = record {
    is_said = said;
    left_on = λ wide covered route.
        let part = by_part (concerns prefix) wide (λ change. body_on wide covered change.body) (λ change. body_on_none change.body)
        given route in
        let last = by_last (filter (concerns prefix) given) wide route in
        let same : get (left (filter (concerns prefix) given)) wide ≡ get routes wide = ap (λ (held : Routes). get held wide) left_is in
        (λ leaves. sym same ∙ last.0 (part.0 leaves), λ found. part.1 (last.1 (same ∙ found)));
  }

-- ---- change by change

module _ (prefix : IpPrefix) where
  -- of the changes that were given, those that concern the prefix leave these routes, and this is said by all
  pub record IsTaken (given : List Change) (routes : Routes) (said : Said) : Type 0 where
    pub left_is : left (filter (concerns prefix) given) ≡ routes
    pub is_said : IsSaid prefix given said

  -- nothing was read yet
  pub taken-none : (routes : Routes) (said : Said) → routes ≡ empty → IsSaid prefix [] said → IsTaken [] routes said
  taken-none routes said nothing is_said = record { left_is = left-nothing ∙ sym nothing; is_said = is_said }

  -- what is left once a change was taken
  next_left : (keeps : Bool) (change : Change) (given : List Change) (routes : Routes) → LeftAfterOneMore → list_any is_close given ≡ false
      → left (filter (concerns prefix) given) ≡ routes
      → left (filter (concerns prefix) given ++ cond keeps (change ∷ []) []) ≡ cond keeps (after routes change) routes
  next_left true change given routes one_more none left_is =
      one_more (filter (concerns prefix) given) change (none-part is_close (concerns prefix) given none)
      ∙ ap (λ (held : Routes). after held change) left_is
  next_left false change given routes one_more none left_is = ap left (append-nil (filter (concerns prefix) given)) ∙ left_is

  -- one change more was given, where none before it was a close
  pub taken-more : (given : List Change) (change : Change) (before later : Routes) (said next : Said) → LeftAfterOneMore
      → IsTaken given before said → list_any is_close given ≡ false → IsSaid prefix (given ++ change ∷ []) next
      → later ≡ cond (concerns prefix change) (after before change) before → IsTaken (given ++ change ∷ []) later next
  taken-more given change before later said next one_more is none is_said becomes = record {
    left_is = ap left (filter-append (concerns prefix) given (change ∷ []))
        ∙ next_left (concerns prefix change) change given before one_more none is.left_is ∙ sym becomes;
    is_said = is_said;
  }

-- how far the reading of a session has come
pub record IsReading {S : Type 0} (comes : Comes S) (shows : S → Option MrtRecord) (start : Stage S) (prefix : IpPrefix)
    (stage : Stage S) (routes : Routes) (said : Said) : Type 0 where
  pub given : List Change
  pub is_given : IsGiven comes shows start given stage
  pub is_taken : IsTaken prefix given routes said
