-- One finding more is counted: for `add` of tally.rt.
use Rattle.std.proofs.Common.{◌≡◌, ◌≢◌, ◌∙◌, sym, ap, subst, refl, arith, ℕ, ◌<◌, ◌+◌, ◌*◌, ◌/◌, ◌%◌}
use Rattle.std.proofs.Common.{◌==◌, ◌&&◌, Bool, true, false, cond, inl}
use Rattle.std.proofs.Common.{inr, List, []}
use Rattle.std.proofs.Common.{◌∷◌, ◌++◌, length, get_or, count_by, min}
use Rattle.std.proofs.Math.ListN.{set}
use Rattle.std.proofs.lemmas.Bool.{cases_Bool}
use Rattle.std.proofs.lemmas.Bool.Decides.{nat_tests}
use Rattle.std.proofs.Math.Nat.{mul_comm}
use Rattle.std.proofs.lemmas.Nat.{div-mul-add, mod-mul-add, mul-add-lt}
use Rattle.std.proofs.lemmas.List.{get_or-set_same, get_or-set_other}
use Rattle.std.proofs.lemmas.List.Elements.{All-push}
use Rattle.std.proofs.lemmas.List.Sums.{sum_by-append}
use Rattle.rs_choice.specs.declared.step.Step.{Step}
use Rattle.rs_choice.specs.declared.step.Step.TheVariants.{Preference, PathLength, Origin, Med, Identifier, Address}
use Rattle.rs_import.specs.declared.filter.Filter.{Filter}
use Rattle.rs_import.specs.declared.filter.Filter.TheVariants as filters
use Rattle.rs_explain.specs.declared.condition.ConditionKind.{ConditionKind}
use Rattle.rs_explain.specs.declared.condition.ConditionKind.TheVariants.{OwnAs, ServerAsNextHop, NextHopOffExchange}
use Rattle.rs_explain.specs.declared.missing_reason.MissingReason.{MissingReason}
use Rattle.rs_explain.specs.declared.missing_reason.MissingReason.TheVariants as reasons
use Rattle.rs_survey.specs.declared.finding.Finding.{Finding}
use Rattle.rs_survey.specs.declared.finding.Finding.TheVariants.{Left, Ineligible, Filtered, Refused, Lost, Best, Removed, Hidden, Missing}
use Rattle.rs_survey.specs.declared.finding.Key.{Key}
use Rattle.rs_survey.specs.Findings.{IsKnown, condition_number, filter_number, is_same, is_same_key, key_of, reason_number, step_number}
use Rattle.rs_survey.specs.Tally.{IsTally, TallyContent, digits, most, place_in, room_for}

-- ---- places tell findings apart

digits_same : (w a b c d : ℕ) → b < w → d < w → a * w + b ≡ c * w + d → (a ≡ c) × (b ≡ d)
digits_same w a b c d below also e = (
  sym (div-mul-add a w b below) ∙ ap (λ n. n / w) e ∙ div-mul-add c w d also,
  sym (mod-mul-add a w b below) ∙ ap (λ n. n % w) e ∙ mod-mul-add c w d also,
)

record HasDigits (width : ℕ) (key : Key) : Type 0 where
  first : key.first < width
  second : key.second < width

condition_below : (condition : ConditionKind) → condition_number condition < 3
condition_below OwnAs = omega arith
condition_below ServerAsNextHop = omega arith
condition_below NextHopOffExchange = omega arith

step_below : (step : Step) → step_number step < 6
step_below Preference = omega arith
step_below PathLength = omega arith
step_below Origin = omega arith
step_below Med = omega arith
step_below Identifier = omega arith
step_below Address = omega arith

filter_below : (filter : Filter) → filter_number filter < 8
filter_below filters.PrefixLength = omega arith
filter_below filters.RefusedPrefix = omega arith
filter_below filters.PathLengthLimit = omega arith
filter_below filters.RefusedAs = omega arith
filter_below filters.FirstAs = omega arith
filter_below filters.PrefixList = omega arith
filter_below filters.OriginAs = omega arith
filter_below filters.RpkiInvalid = omega arith

reason_below : (reason : MissingReason) → reason_number reason < 20
reason_below (reasons.Ineligible condition) = omega (arith, condition_below condition)
reason_below (reasons.Filtered filter) = omega (arith, filter_below filter)
reason_below reasons.RefusedByName = omega arith
reason_below reasons.RefusedByCommunity = omega arith
reason_below reasons.RefusedByLargeCommunity = omega arith
reason_below (reasons.Lost step) = omega (arith, step_below step)

has_digits : (peers : ℕ) (finding : Finding) → IsKnown peers finding → HasDigits (digits peers) (key_of finding)
has_digits peers (Left sender) known = record { first = omega (arith, known); second = omega arith }
has_digits peers (Ineligible sender condition) known =
    record { first = omega (arith, known); second = omega (arith, condition_below condition) }
has_digits peers (Refused client sender) known = record { first = omega (arith, known.0); second = omega (arith, known.1) }
has_digits peers (Lost client sender) known = record { first = omega (arith, known.0); second = omega (arith, known.1) }
has_digits peers (Best client sender) known = record { first = omega (arith, known.0); second = omega (arith, known.1) }
has_digits peers (Removed step) known = record { first = omega (arith, step_below step); second = omega arith }
has_digits peers Hidden known = record { first = omega arith; second = omega arith }
has_digits peers (Missing sender reason) known =
    record { first = omega (arith, known); second = omega (arith, reason_below reason) }
has_digits peers (Filtered sender filter) known =
    record { first = omega (arith, known); second = omega (arith, filter_below filter) }

and_true : (x y : Bool) → (x && y) ≡ true → (x ≡ true) × (y ≡ true)
and_true true true both = (refl, refl)
and_true true false both = absurd (cc both)
and_true false y both = absurd (cc both)

equal : (m n : ℕ) → (m == n) ≡ true → m ≡ n
equal m n same = grind (arith, nat_tests)

is_equal : (m n : ℕ) → m ≡ n → (m == n) ≡ true
is_equal m n same = grind (arith, nat_tests)

same_place : (width : ℕ) (one other : Key) → is_same_key one other ≡ true → place_in width one ≡ place_in width other
same_place width one other same =
    let parts = and_true (one.kind == other.kind) _ same in
    let later = and_true (one.first == other.first) _ parts.1 in
    rw (equal one.kind other.kind parts.0, equal one.first other.first later.0, equal one.second other.second later.1) refl

same_key : (width : ℕ) (one other : Key) → HasDigits width one → HasDigits width other → place_in width one ≡ place_in width other →
    is_same_key one other ≡ true
same_key width one other digits also same =
    let second = digits_same width (one.kind * width + one.first) one.second (other.kind * width + other.first) other.second
    digits.second also.second same in
    let first = digits_same width one.kind one.first other.kind other.first digits.first also.first second.0 in
    rw (is_equal one.kind other.kind first.0, is_equal one.first other.first first.1, is_equal one.second other.second second.1) refl

kind_below : (finding : Finding) → (key_of finding).kind < 9
kind_below (Left sender) = omega arith
kind_below (Ineligible sender condition) = omega arith
kind_below (Refused client sender) = omega arith
kind_below (Lost client sender) = omega arith
kind_below (Best client sender) = omega arith
kind_below (Removed step) = omega arith
kind_below Hidden = omega arith
kind_below (Missing sender reason) = omega arith
kind_below (Filtered sender filter) = omega arith

room_is : (width : ℕ) → width * (width * 9) ≡ room_for width
room_is width = mul_comm width (width * 9) ∙ ap (λ n. n * width) (mul_comm width 9)

-- ---- one more

count-more : (p : Finding → Bool) (findings : List Finding) (one : Finding) →
    count_by p (findings ++ one ∷ []) ≡ count_by p findings + cond (p one) 1 0
count-more p findings one =
    sum_by-append (λ x. cond (p x) 1 0) findings (one ∷ [])
    ∙ ap (λ n. count_by p findings + n) (omega arith)

saturates : (n : ℕ) → min (min n most + 1) most ≡ min (n + 1) most
saturates n = omega arith

counted_if : (tally : TallyContent) (findings : List Finding) (one other : Finding) (place value : ℕ) →
    place ≡ place_in (digits tally.peers) (key_of one) → place < length tally.counts →
    value ≡ min (get_or tally.counts place 0 + 1) most →
    IsKnown tally.peers one → IsKnown tally.peers other → IsTally tally findings →
    get_or (set tally.counts place value) (place_in (digits tally.peers) (key_of other)) 0
    ≡ min (count_by (is_same other) (findings ++ one ∷ [])) most
counted_if tally findings one other place value at within is known also counts =
    let width = digits tally.peers in
    let there = place_in width (key_of other) in
    let before : get_or tally.counts there 0 ≡ min (count_by (is_same other) findings) most = counts.counted other also in
    elim (cases_Bool (is_same other one)) [
      | inl same ↦
          let here : there ≡ place = same_place width (key_of other) (key_of one) same ∙ sym at in
          let more : count_by (is_same other) (findings ++ one ∷ []) ≡ count_by (is_same other) findings + 1 =
          count-more (is_same other) findings one ∙ ap (λ b. count_by (is_same other) findings + cond b 1 0) same in
          let read : get_or tally.counts place 0 ≡ min (count_by (is_same other) findings) most =
          ap (λ n. get_or tally.counts n 0) (sym here) ∙ before in
          ap (λ n. get_or (set tally.counts place value) n 0) here
          ∙ get_or-set_same tally.counts place value 0 within ∙ is
          ∙ ap (λ n. min (n + 1) most) read ∙ saturates (count_by (is_same other) findings) ∙ ap (λ n. min n most) (sym more)
      | inr differs ↦
          let elsewhere : there ≢ place =
          λ e. absurd (cc (sym differs ∙ same_key width (key_of other) (key_of one) (has_digits tally.peers other also)
          (has_digits tally.peers one known) (e ∙ at))) in
          let same : count_by (is_same other) (findings ++ one ∷ []) ≡ count_by (is_same other) findings =
          count-more (is_same other) findings one ∙ ap (λ b. count_by (is_same other) findings + cond b 1 0) differs ∙ omega arith in
          get_or-set_other tally.counts place there value 0 elsewhere ∙ before ∙ ap (λ n. min n most) (sym same)
    ]

pub counts_one_more : (tally : TallyContent) (findings : List Finding) (one : Finding) (place value : ℕ) →
    place ≡ place_in (digits tally.peers) (key_of one) → place < length tally.counts →
    value ≡ min (get_or tally.counts place 0 + 1) most → IsKnown tally.peers one → IsTally tally findings →
    IsTally (record { peers = tally.peers; counts = set tally.counts place value }) (findings ++ one ∷ [])
counts_one_more tally findings one place value at within is known counts = record {
  known = All-push (IsKnown tally.peers) findings one counts.known known;
  counted = λ other also. counted_if tally findings one other place value at within is known also counts;
}

-- ---- the place of a finding

pub place_within : (peers : ℕ) (finding : Finding) → IsKnown peers finding →
    place_in (digits peers) (key_of finding) < room_for (digits peers)
place_within peers finding known =
    let width = digits peers in
    let key = key_of finding in
    let has = has_digits peers finding known in
    let outer : (key.kind * width + key.first) * width + key.second < width * (width * 9) =
    mul-add-lt (key.kind * width + key.first) width key.second (width * 9) (mul-add-lt key.kind width key.first 9 (kind_below finding)
    has.first) has.second in
    subst (λ (room : ℕ). place_in width key < room) (room_is width) outer
