use Rattle.rs_choice.proofs.decision.BehindLemmas.{behind_is_no_matter, others_are_no_matter, outdone_is_no_matter, removed_is_no_matter}
use Rattle.rs_choice.proofs.laws.those_behind_are_no_matter.Goals as goal

pub returns-clause-removed : goal.returns-clause-removed
returns-clause-removed c = removed_is_no_matter

pub returns-clause-behind : goal.returns-clause-behind
returns-clause-behind c = behind_is_no_matter

pub returns-clause-outdone : goal.returns-clause-outdone
returns-clause-outdone c = outdone_is_no_matter

pub returns-clause-client : goal.returns-clause-client
returns-clause-client c = others_are_no_matter
