-- Why a configuration is refused (our choice: RFC 4271 leaves configuration to the implementation).
use Rattle.rs_choice.specs.declared.fault.PlanFault.{PlanFault}
use Rattle.rs_choice.specs.declared.fault.PlanFault.TheVariants as plan
use Rattle.rs_setup.specs.declared.setup.SetupFault.{SetupFault}
use Rattle.rs_setup.specs.declared.setup.SetupFault.TheVariants as setup

-- a fault of the plan as one of the configuration; that memory was refused is not a fault of the plan
abbrev pub of_plan : PlanFault → SetupFault
of_plan plan.Memory = setup.Memory
of_plan fault = setup.Plan fault
