-- The first row of those to come is the client's next.
use Rattle.std.proofs.Common.{◌≡◌, Some, rules, subst}
use Rattle.rs_survey.specs.RowsToCome.{Ahead, IsFirst}
use Rattle.rs_survey.proofs.RowLemmas.{first-is}
use Rattle.rs_survey.proofs.rows_to_come.RowsToCome.first_prefix.Goals as goal

pub returns-in-Some : goal.returns-in-Some
returns-in-Some c =
    let found : c.self.inside.first ≡ Some c.in-Some.row = search rules in
    subst (λ (ahead : Ahead). IsFirst ahead c.in-Some.row.prefix) c.self.view_is
    (first-is c.self.inside c.self.invariant c.in-Some.row found)
