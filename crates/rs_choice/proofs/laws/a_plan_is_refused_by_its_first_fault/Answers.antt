use Rattle.rs_choice.proofs.plan.PlanLaws.{fault_is_first}
use Rattle.rs_choice.proofs.laws.a_plan_is_refused_by_its_first_fault.Goals as goal

pub returns : goal.returns
returns c = fault_is_first
