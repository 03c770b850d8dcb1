-- The findings that are counted on a prefix, and which findings are equal (our choice).
use Rattle.std.specs.Prelude.{◌<◌, ℕ, ◌+◌, ◌==◌, ◌&&◌, Bool}
use Rattle.rs_choice.specs.declared.step.Step.{Step}
use Rattle.rs_choice.specs.declared.step.Step.TheVariants.{Preference, PathLength, Origin, Med, Identifier, Address}
use Rattle.rs_import.specs.declared.filter.Filter.{Filter}
use Rattle.rs_import.specs.declared.filter.Filter.TheVariants as filters
use Rattle.rs_explain.specs.declared.condition.ConditionKind.{ConditionKind}
use Rattle.rs_explain.specs.declared.condition.ConditionKind.TheVariants.{OwnAs, ServerAsNextHop, NextHopOffExchange}
use Rattle.rs_explain.specs.declared.missing_reason.MissingReason.{MissingReason}
use Rattle.rs_explain.specs.declared.missing_reason.MissingReason.TheVariants as reasons
use Rattle.rs_survey.specs.declared.finding.Finding.{Finding}
use Rattle.rs_survey.specs.declared.finding.Finding.TheVariants.{Left, Ineligible, Filtered, Refused, Lost, Best}
use Rattle.rs_survey.specs.declared.finding.Finding.TheVariants.{Removed, Hidden, Missing}
use Rattle.rs_survey.specs.declared.finding.Key.{Key}

-- the conditions and the steps by their places in the standard's order
abbrev pub condition_number : ConditionKind → ℕ
condition_number OwnAs = 0
condition_number ServerAsNextHop = 1
condition_number NextHopOffExchange = 2

abbrev pub step_number : Step → ℕ
step_number Preference = 0
step_number PathLength = 1
step_number Origin = 2
step_number Med = 3
step_number Identifier = 4
step_number Address = 5

-- the filters of import policy by their places in its order
abbrev pub filter_number : Filter → ℕ
filter_number filters.PrefixLength = 0
filter_number filters.RefusedPrefix = 1
filter_number filters.PathLengthLimit = 2
filter_number filters.RefusedAs = 3
filter_number filters.FirstAs = 4
filter_number filters.PrefixList = 5
filter_number filters.OriginAs = 6
filter_number filters.RpkiInvalid = 7

-- the reasons by their places: conditions, filters, rules, steps
abbrev pub reason_number : MissingReason → ℕ
reason_number (reasons.Ineligible condition) = condition_number condition
reason_number (reasons.Filtered filter) = 3 + filter_number filter
reason_number reasons.RefusedByName = 11
reason_number reasons.RefusedByCommunity = 12
reason_number reasons.RefusedByLargeCommunity = 13
reason_number (reasons.Lost step) = 14 + step_number step

-- three numbers that distinguish a finding from all others: its kind, and what it is about
abbrev pub key_of : Finding → Key
key_of (Left sender) = record { kind = 0; first = sender; second = 0 }
key_of (Ineligible sender condition) = record { kind = 1; first = sender; second = condition_number condition }
key_of (Refused client sender) = record { kind = 2; first = client; second = sender }
key_of (Lost client sender) = record { kind = 3; first = client; second = sender }
key_of (Best client sender) = record { kind = 4; first = client; second = sender }
key_of (Removed step) = record { kind = 5; first = step_number step; second = 0 }
key_of Hidden = record { kind = 6; first = 0; second = 0 }
key_of (Missing sender reason) = record { kind = 7; first = sender; second = reason_number reason }
key_of (Filtered sender filter) = record { kind = 8; first = sender; second = filter_number filter }

-- two keys are equal
abbrev pub is_same_key : Key → Key → Bool
is_same_key one other = one.kind == other.kind && (one.first == other.first && one.second == other.second)

abbrev pub is_same : Finding → Finding → Bool
is_same one other = is_same_key (key_of one) (key_of other)

-- the peers of a finding have numbers below a count
abbrev pub IsKnown : ℕ → Finding → Type 0
IsKnown peers (Left sender) = sender < peers
IsKnown peers (Ineligible sender condition) = sender < peers
IsKnown peers (Refused client sender) = (client < peers) × (sender < peers)
IsKnown peers (Lost client sender) = (client < peers) × (sender < peers)
IsKnown peers (Best client sender) = (client < peers) × (sender < peers)
IsKnown peers (Removed step) = Unit {0}
IsKnown peers Hidden = Unit {0}
IsKnown peers (Missing sender reason) = sender < peers
IsKnown peers (Filtered sender filter) = sender < peers
