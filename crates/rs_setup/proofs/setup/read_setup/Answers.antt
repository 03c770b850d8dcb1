use Rattle.rs_setup.proofs.setup.read_setup.Goals as goal

pub returns-clause-setup : goal.returns-clause-setup
returns-clause-setup c =
    let (table, is, set_up, import, begins) = c.in_ok-parts.ensures in (table, is, rw c.in_ok-plan.ensures.ok set_up)

pub returns-clause-lists : goal.returns-clause-lists
returns-clause-lists c =
    let (table, is, set_up, import, begins) = c.in_ok-parts.ensures in
    (table, is, (c.in_ok-parts.parts.import, import, c.in_ok-lists.ensures))

pub returns-clause-begins : goal.returns-clause-begins
returns-clause-begins c = let (table, is, set_up, import, begins) = c.in_ok-parts.ensures in (table, is, begins)
