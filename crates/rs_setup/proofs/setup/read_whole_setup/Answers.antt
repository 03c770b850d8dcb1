-- What the plan takes in is searched, so that a wrong body is refused soon.
use Rattle.std.proofs.Common.{rules}
use Rattle.rs_setup.proofs.SetupLemmas.{asks_nothing}
use Rattle.rs_setup.proofs.setup.read_whole_setup.Goals as goal

pub returns-clause-setup : goal.returns-clause-setup
returns-clause-setup g c =
    let (table, is, set_up, import, begins) = c.in_ok-parts.ensures in (
      table,
      is,
      (
        rw (c.in_ok-plan.ensures.ok, c.with_import.ensures) (asks_nothing c.in_ok-parts.parts.exchange set_up),
        (c.in_ok-parts.parts.import, import, rw (c.in_ok-plan.ensures.ok, c.with_import.ensures) (search rules)),
      ),
    )

pub returns-clause-lists : goal.returns-clause-lists
returns-clause-lists g c =
    let (table, is, set_up, import, begins) = c.in_ok-parts.ensures in
    (table, is, (c.in_ok-parts.parts.import, import, c.in_ok-lists.ensures))

pub returns-clause-begins : goal.returns-clause-begins
returns-clause-begins g c = let (table, is, set_up, import, begins) = c.in_ok-parts.ensures in (table, is, begins)
