-- What took some items took one more.
use Rattle.std.proofs.Common.{subst, Option, rules}
use Rattle.std.specs.Prelude.{IfSome}
use Rattle.rs_table.specs.Content.{TablesContent}
use Rattle.rs_serve.specs.Held.{HoldReceived}
use Rattle.rs_serve.proofs.taking.after_item.Goals as goal

pub returns-in-Ok : goal.returns-in-Ok
returns-in-Ok c before items held =
    let P : Option TablesContent → Type 0 = λ gathered. IfSome gathered (HoldReceived before items) in
    c.in-Ok.ensures before items (subst P c.in_ok-gathered.was held)

pub returns-in-Err : goal.returns-in-Err
returns-in-Err c = search rules

pub returns-in_err-gathered : goal.returns-in_err-gathered
returns-in_err-gathered c = search rules
