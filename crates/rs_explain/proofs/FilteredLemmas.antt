-- A filter that does not take a route in has a value, and the value is of this filter: for filtered_by.rt.
use Rattle.std.proofs.Common.{◌≡◌, ◌∙◌, ap, sym, refl, ℕ, Bool, true, false, not, cond, ◌||◌, List, [], ◌∷◌}
use Rattle.std.specs.Prelude.{Option, None, Some, reverse, slice_get, ⊤}
use Rattle.std.specs.List.{find, list_any}
use Rattle.std.specs.Option.{is_some, option_and_then, option_map, option_or}
use Rattle.rs_update.specs.AsPath.{numbers_of}
use Rattle.rs_update.specs.IpPrefix.{IpPrefix}
use Rattle.rs_update.specs.FirstFault.{first_fault}
use Rattle.rs_update.specs.PathAttributes.{PathAttributes, PathSegment}
use Rattle.rs_types.specs.declared.as_range.AsRange.{AsRange}
use Rattle.rs_import.specs.declared.filter.Filter.{Filter}
use Rattle.rs_import.specs.declared.filter.Filter.TheVariants as filters
use Rattle.rs_import.specs.AsRanges.{is_in_ranges}
use Rattle.rs_import.specs.Import.{PeerImport, Test, filter_by_peer, holds_one_of, import_tests, refused_as_of}
use Rattle.rs_import.specs.Patterns.{is_match, matches_some}
use Rattle.rs_import.proofs.PathLemmas.{refused-more}
use Rattle.rs_import.proofs.SearchLemmas.{any-find}
use Rattle.rs_choice.specs.Acceptance.{accepts, filter_from, filter_on}
use Rattle.rs_choice.specs.Plan.{Peer, Plan}
use Rattle.rs_explain.specs.declared.filtered_by.FilteredBy.{FilteredBy}
use Rattle.rs_explain.specs.declared.filtered_by.FilteredBy.TheVariants.{RefusedPrefix, RefusedAs}
use Rattle.rs_explain.specs.Filtered.{failed_filter, filter_in, value_of}

-- ---- what is searched is found

any_found : {X : Type 0} (P : X → Bool) (xs : List X) → list_any P xs ≡ is_some (find P xs)
any_found P [] = refl
any_found P (x ∷ xs) =
    elim (P x) as (λ b. (b || list_any P xs) ≡ is_some (cond b (Some x) (find P xs))) [ true ↦ refl | false ↦ any_found P xs ]

some-or : {X : Type 0} (one other : Option X) → is_some (option_or one other) ≡ (is_some one || is_some other)
some-or None other = refl
some-or (Some x) other = refl

as_found : (ranges : List AsRange) (path : List PathSegment) → holds_one_of ranges path ≡ is_some (refused_as_of ranges path)
as_found ranges [] = refl
as_found ranges (segment ∷ later) =
    let first = find (λ (asn : ℕ). is_in_ranges ranges asn) (numbers_of segment) in
    ap (λ (b : Bool). b || holds_one_of ranges later) (any_found (λ (asn : ℕ). is_in_ranges ranges asn) (numbers_of segment))
    ∙ (ap (λ (b : Bool). is_some first || b) (as_found ranges later)
    ∙ (sym (some-or first (refused_as_of ranges later)) ∙ ap is_some (sym (refused-more ranges segment later))))

-- ---- the value is of the filter

abbrev HasValue : (Filter → Option FilteredBy) → Filter → Type 0
HasValue value filter = option_map filter_in (value filter) ≡ Some filter

-- each filter whose test succeeds has a value
abbrev AllHaveValues : (Filter → Option FilteredBy) → List Test → Type 0
AllHaveValues value [] = ⊤
AllHaveValues value ((fails, filter) ∷ later) = (fails ≡ true → HasValue value filter) × AllHaveValues value later

made : {V : Type 0} (of : V → FilteredBy) (filter : Filter) → ((v : V) → filter_in (of v) ≡ filter) → (found : Option V)
    → is_some found ≡ true → option_map filter_in (option_map of found) ≡ Some filter
made of filter says None is = absurd (cc is)
made of filter says (Some v) is = ap (λ (one : Filter). Some one) (says v)

by_tests : (value : Filter → Option FilteredBy) (tests : List Test) → AllHaveValues value tests →
    option_map filter_in (option_and_then value (first_fault tests)) ≡ first_fault tests
by_tests value [] all = refl
by_tests value ((true, filter) ∷ later) all = all.0 refl
by_tests value ((false, filter) ∷ later) all = by_tests value later all.1

if_asked : (value : Filter → Option FilteredBy) (tests : List Test) (is_asked : Bool) → AllHaveValues value tests →
    option_map filter_in (option_and_then value (cond is_asked (first_fault tests) None)) ≡ cond is_asked (first_fault tests) None
if_asked value tests true all = by_tests value tests all
if_asked value tests false all = refl

module _ (plan : Plan) (number : ℕ) (prefix : IpPrefix) (attributes : PathAttributes) where
  abbrev value : Filter → Option FilteredBy
  value = value_of plan prefix attributes

  tests_have : (peer : PeerImport) (sender_as : ℕ) →
      AllHaveValues value (import_tests plan.import.rules peer plan.local.asn sender_as prefix attributes)
  tests_have peer sender_as =
      let by_pattern : matches_some plan.import.rules.refuse_prefixes prefix ≡ true → HasValue value filters.RefusedPrefix =
      λ is. made (λ pattern. RefusedPrefix pattern) filters.RefusedPrefix (λ pattern. refl)
      (find (is_match prefix) (reverse plan.import.rules.refuse_prefixes))
      (sym (any-find (is_match prefix) plan.import.rules.refuse_prefixes) ∙ is) in
      let by_number : holds_one_of plan.import.rules.refuse_as attributes.path ≡ true → HasValue value filters.RefusedAs =
      λ is. made (λ asn. RefusedAs asn) filters.RefusedAs (λ asn. refl) (refused_as_of plan.import.rules.refuse_as attributes.path)
      (sym (as_found plan.import.rules.refuse_as attributes.path) ∙ is) in
      (λ is. refl, (by_pattern, (λ is. refl, (by_number, (λ is. refl, (λ is. refl, (λ is. refl, (λ is. refl, tt))))))))

  by_lists : (lists : Option PeerImport) (sender : Peer) →
      option_map filter_in (option_and_then value (option_and_then
      (filter_by_peer plan.import.rules plan.local.asn sender.asn prefix attributes) lists))
      ≡ option_and_then (filter_by_peer plan.import.rules plan.local.asn sender.asn prefix attributes) lists
  by_lists None sender = refl
  by_lists (Some peer) sender =
      if_asked value (import_tests plan.import.rules peer plan.local.asn sender.asn prefix attributes) peer.is_asked
      (tests_have peer sender.asn)

  by_sender : (sender : Option Peer) →
      option_map filter_in (option_and_then value (option_and_then (filter_from plan number prefix attributes) sender))
      ≡ option_and_then (filter_from plan number prefix attributes) sender
  by_sender None = refl
  by_sender (Some sender) = by_lists (slice_get plan.import.peers number) sender

  -- the filter of the condition that fails
  pub filter_of_failed : option_map filter_in (failed_filter plan number prefix attributes) ≡ filter_on plan number prefix attributes
  filter_of_failed = by_sender (slice_get plan.peers number)

  some_in : (failed : Option FilteredBy) → is_some (option_map filter_in failed) ≡ is_some failed
  some_in None = refl
  some_in (Some one) = refl

  -- a route is taken in where it fails no condition
  pub accepted_unless : accepts plan number prefix attributes ≡ not (is_some (failed_filter plan number prefix attributes))
  accepted_unless =
      ap (λ (filter : Option Filter). not (is_some filter)) (sym filter_of_failed)
      ∙ ap not (some_in (failed_filter plan number prefix attributes))
