-- Why a client gets a peer's route on a prefix, or why not, with the reason. The first case that applies counts (RFC
-- 4271, section 9.1; RFC 7947, section 2.3).
use Rattle.std.specs.Prelude.{◌≡◌, ℕ, ◌==◌, true, false, not, if◌then◌else◌, List, map, filter, Option, None, Some}
use Rattle.std.specs.Prelude.{MatchOption}
use Rattle.std.specs.Option.{option_map, option_or}
use Rattle.rs_update.specs.IpPrefix.{IpPrefix}
use Rattle.rs_choice.specs.Decision.{decision_steps, SentRoute}
use Rattle.rs_choice.specs.Plan.{Plan}
use Rattle.rs_table.specs.declared.why.Why.{Why}
use Rattle.rs_table.specs.declared.why.Why.TheVariants as answers
use Rattle.rs_table.specs.Content.{TablesContent}
use Rattle.rs_table.specs.Table.{route_from, best_of, is_from}
use Rattle.rs_explain.specs.declared.contender.Contender.{Contender}
use Rattle.rs_explain.specs.declared.explanation.Explanation.{Explanation}
use Rattle.rs_explain.specs.declared.explanation.Explanation.TheVariants.{Own, Absent, Ineligible, Filtered, Refused, Best, Lost}
use Rattle.rs_explain.specs.declared.removal.Removal.{Removal}
use Rattle.rs_explain.specs.Contenders.{contender_of, contender_from, contenders_of}
use Rattle.rs_explain.specs.Filtered.{failed_filter}
use Rattle.rs_explain.specs.Reasons.{failed_condition, refusal_of}
use Rattle.rs_explain.specs.Removals.{IsRemoval}

-- Why a route is no candidate; None if it is one. The first that applies counts: a condition of eligibility that it
-- fails, a condition of import policy that it fails, a rule that refuses it.
abbrev pub reason_of : Plan → ℕ → ℕ → IpPrefix → Option SentRoute → Option Explanation
reason_of plan client peer prefix None = Some Absent
reason_of plan client peer prefix (Some route) =
    option_or (option_map (λ condition. Ineligible condition) (failed_condition plan peer route.attributes))
    (option_or (option_map (λ failed. Filtered failed) (failed_filter plan peer prefix route.attributes))
    (option_map (λ refusal. Refused refusal) (refusal_of plan client peer route.attributes)))

abbrev pub reason_before_decision : TablesContent → ℕ → ℕ → IpPrefix → Option Explanation
reason_before_decision tables client peer prefix =
    if client == peer then Some Own else reason_of tables.plan client peer prefix (route_from tables prefix peer)

-- the peers of a client's candidates, without one peer
abbrev pub other_peers : List Contender → ℕ → List ℕ
other_peers contenders peer = map (λ one. one.peer) (filter (λ one. not (one.peer == peer)) contenders)

-- the client gets another peer's route, and the decision process removes the peer's own route in this way
pub record IsLoss (tables : TablesContent) (client peer : ℕ) (prefix : IpPrefix) (removal : Removal) : Type 0 where
  pub loser : Contender
  pub best : SentRoute
  pub is_candidate : contender_from tables client prefix peer ≡ Some loser
  pub gets : best_of tables client prefix ≡ Some best
  pub another : is_from peer (Some best) ≡ false
  pub steps : IsRemoval decision_steps (contenders_of tables client prefix)
      (contender_of tables.plan best) loser removal

-- the decision about a candidate: the client gets it, or it is removed
abbrev pub IsDecided : TablesContent → ℕ → ℕ → IpPrefix → Explanation → Type 0
IsDecided tables client peer prefix Own = ⊥
IsDecided tables client peer prefix Absent = ⊥
IsDecided tables client peer prefix (Ineligible condition) = ⊥
IsDecided tables client peer prefix (Filtered failed) = ⊥
IsDecided tables client peer prefix (Refused refusal) = ⊥
IsDecided tables client peer prefix (Best beaten) =
    (is_from peer (best_of tables client prefix) ≡ true)
    × (beaten.items ≡ other_peers (contenders_of tables client prefix) peer)
IsDecided tables client peer prefix (Lost removal) = IsLoss tables client peer prefix removal

-- the explanation: the reason why the peer's route is no candidate, or else the decision about it
abbrev pub IsExplanation : TablesContent → ℕ → ℕ → IpPrefix → Explanation → Type 0
IsExplanation tables client peer prefix explanation =
    MatchOption (reason_before_decision tables client peer prefix)
    (IsDecided tables client peer prefix explanation) (λ reason. explanation ≡ reason)

-- the answer to which an explanation belongs
abbrev pub answer_of : Explanation → Why
answer_of Own = answers.Own
answer_of Absent = answers.Absent
answer_of (Ineligible condition) = answers.Ineligible
answer_of (Filtered failed) = answers.Filtered
answer_of (Refused refusal) = answers.Refused
answer_of (Best beaten) = answers.Best
answer_of (Lost removal) = answers.Lost
