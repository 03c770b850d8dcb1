-- The prefixes that were passed have the same choices: for `next` of differences.rt.
use Rattle.std.proofs.Common.{◌≡◌, ◌∙◌, sym, ap, subst, inl, inr}
use Rattle.std.specs.Prelude.{◌⊎◌, Option, None, Some}
use Rattle.std.specs.Option.{option_map}
use Rattle.std.specs.declared.cmp.Ordering.TheVariants.{Less}
use Rattle.rs_update.specs.IpPrefix.{IpPrefix}
use Rattle.rs_update.specs.PrefixOrder.{prefix_cmp}
use Rattle.rs_choice.specs.Plan.{Plan}
use Rattle.rs_table.specs.RouteView.{sent_route_of}
use Rattle.rs_table.specs.declared.route.Route.{Route}
use Rattle.rs_survey.specs.Differences.{ClientOf, IsBehind, choice_of, choice_on, chosen, route_of}
use Rattle.rs_survey.specs.RowsToCome.{GetsNoneBehind, GetsNoneBetween}
use Rattle.rs_survey.proofs.RowLemmas.{behind-later, order}

-- a route that a client gets is its choice
pub chosen-is : (client : ClientOf) (plan : Plan) (route : Option Route) (p : IpPrefix) → plan ≡ client.tables.plan
    → option_map sent_route_of route ≡ route_of client p → chosen plan route ≡ choice_on client p
chosen-is client plan route p of_plan is =
    ap (λ (plan : Plan). option_map (choice_of plan) (option_map sent_route_of route)) of_plan
    ∙ ap (option_map (choice_of client.tables.plan)) is

module _ (a b : ClientOf) where
  -- where neither gets a route the choices are the same
  none-same : (q : IpPrefix) → route_of a q ≡ None → route_of b q ≡ None → choice_on a q ≡ choice_on b q
  none-same q one other =
      ap (option_map (choice_of a.tables.plan)) one ∙ sym (ap (option_map (choice_of b.tables.plan)) other)

  -- of the prefixes behind the first one all are behind this one, or have the same choices
  pub record IsPassed (first now : Option IpPrefix) : Type 0 where
    pub behind : (q : IpPrefix) → IsBehind now q → IsBehind first q
    pub same : (q : IpPrefix) → IsBehind first q → IsBehind now q ⊎ (choice_on a q ≡ choice_on b q)

  pub nothing-passed : (first : Option IpPrefix) → IsPassed first first
  nothing-passed first = record { behind = λ q behind. behind; same = λ q behind. inl behind }

  module _ (first mid : Option IpPrefix) (passed : IsPassed first mid) where
    pub same-till : (p : IpPrefix) → GetsNoneBetween a mid p → GetsNoneBetween b mid p
        → (q : IpPrefix) → IsBehind first q → prefix_cmp q p ≡ Less → choice_on a q ≡ choice_on b q
    same-till p none_before none_after q behind less = elim (passed.same q behind) [
      | inl later ↦ none-same q (none_before q later less) (none_after q later less)
      | inr same ↦ same
    ]

    pub same-on : GetsNoneBehind a mid → GetsNoneBehind b mid → (q : IpPrefix) → IsBehind first q → choice_on a q ≡ choice_on b q
    same-on none_before none_after q behind = elim (passed.same q behind) [
      | inl later ↦ none-same q (none_before q later) (none_after q later)
      | inr same ↦ same
    ]

    pub one-passed : (p : IpPrefix) → IsBehind mid p → GetsNoneBetween a mid p → GetsNoneBetween b mid p → choice_on a p ≡ choice_on b p
        → (new : Option IpPrefix) → new ≡ Some p → IsPassed first new
    one-passed p here none_before none_after alike new is = record {
      behind = λ q later. passed.behind q (behind-later mid p q here (subst (λ (last : Option IpPrefix). IsBehind last q) is later));
      same = λ q behind. elim (order q p) [
        | inl less ↦ inr (same-till p none_before none_after q behind less)
        | inr (inl equal) ↦ inr (subst (λ (q : IpPrefix). choice_on a q ≡ choice_on b q) (sym equal) alike)
        | inr (inr more) ↦ inl (subst (λ (last : Option IpPrefix). IsBehind last q) (sym is) more)
      ];
    }
