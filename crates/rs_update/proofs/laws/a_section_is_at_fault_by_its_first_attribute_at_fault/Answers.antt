use Rattle.rs_update.proofs.section.FirstFaultLemmas.{section_is_faultless, section_is_at_fault}
use Rattle.rs_update.proofs.laws.a_section_is_at_fault_by_its_first_attribute_at_fault.Goals as goal

pub returns-clause-none : goal.returns-clause-none
returns-clause-none c = section_is_faultless

pub returns-clause-fault : goal.returns-clause-fault
returns-clause-fault c = section_is_at_fault
