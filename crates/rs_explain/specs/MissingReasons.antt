-- The reason for which a client does not get a route, without its details.
use Rattle.std.specs.Prelude.{Option, None, Some}
use Rattle.rs_explain.specs.declared.explanation.Explanation.{Explanation}
use Rattle.rs_explain.specs.declared.explanation.Explanation.TheVariants as explanations
use Rattle.rs_explain.specs.declared.missing_reason.MissingReason.{MissingReason}
use Rattle.rs_explain.specs.declared.missing_reason.MissingReason.TheVariants.{Ineligible, Filtered, RefusedByName}
use Rattle.rs_explain.specs.declared.missing_reason.MissingReason.TheVariants.{RefusedByCommunity}
use Rattle.rs_explain.specs.declared.missing_reason.MissingReason.TheVariants.{RefusedByLargeCommunity, Lost}
use Rattle.rs_explain.specs.declared.refusal.Refusal.{Refusal}
use Rattle.rs_explain.specs.declared.refusal.Refusal.TheVariants.{ByName, ToClient, LargeToClient, ToAll, LargeToAll}
use Rattle.rs_explain.specs.Filtered.{filter_in}
use Rattle.rs_explain.specs.Reasons.{kind_of}

-- a refusing rule as a reason
abbrev pub reason_of_refusal : Refusal → MissingReason
reason_of_refusal ByName = RefusedByName
reason_of_refusal (ToClient asn) = RefusedByCommunity
reason_of_refusal (LargeToClient server client) = RefusedByLargeCommunity
reason_of_refusal (ToAll asn) = RefusedByCommunity
reason_of_refusal (LargeToAll asn) = RefusedByLargeCommunity

-- the reason in an explanation
abbrev pub reason_in : Explanation → Option MissingReason
reason_in explanations.Own = None
reason_in explanations.Absent = None
reason_in (explanations.Ineligible condition) = Some (Ineligible (kind_of condition))
reason_in (explanations.Filtered failed) = Some (Filtered (filter_in failed))
reason_in (explanations.Refused refusal) = Some (reason_of_refusal refusal)
reason_in (explanations.Best beaten) = None
reason_in (explanations.Lost removal) = Some (Lost removal.step)
