use Rattle.rs_choice.specs.Decision.{standing_of}
use Rattle.rs_choice.specs.Laws.{reaching_med, ChoiceStays}
use Rattle.rs_choice.proofs.Members.{contains-mem, mem-contains}
use Rattle.rs_choice.proofs.decision.ShareLemmas.{choice_stays}
use Rattle.rs_choice.proofs.laws.the_choice_stays_without_those_of_no_weight.Goals as goal

stays_by_members : ChoiceStays
stays_by_members plan set stays chosen is keeps removed =
    choice_stays (standing_of plan) set stays chosen is keeps (λ one other in_one stays_one in_other beats.
    let set_med = reaching_med plan set in
    let found = removed one other (mem-contains set_med one in_one) stays_one (mem-contains set_med other in_other) beats in
    (found.0, contains-mem set_med found.0 found.1, found.2, found.3))

pub returns : goal.returns
returns c = stays_by_members
