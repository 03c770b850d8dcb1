-- A change that belongs to the part.
use Rattle.std.proofs.Common.{◌≡◌, true, rules}
use Rattle.rs_session.specs.Change.{change_of}
use Rattle.table_tests.proofs.PartsLemmas.{part-kept}
use Rattle.table_tests.proofs.tests.parts.take_part.Goals as goal

pub returns : goal.returns
returns c = λ plan held.
    let belongs : c.belongs.result ≡ true = search rules in
    part-kept c.apply.result plan c.args.len c.args.tables.now c.apply.new.self c.args.peer (change_of c.args.word) held
    c.apply.ensures.routes c.apply.ensures.closed c.apply.ensures.err c.apply.ensures.others c.apply.ensures.plan
    (c.belongs.ensures.on belongs) (c.belongs.ensures.open belongs)
