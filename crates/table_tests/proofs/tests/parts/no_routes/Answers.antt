-- New tables hold nothing.
use Rattle.table_tests.proofs.PartsLemmas.{part-new}
use Rattle.table_tests.proofs.tests.parts.no_routes.Goals as goal

pub returns : goal.returns
returns c = λ len. part-new c.new.result c.ok.result c.args.plan.value len c.ok.ensures.value c.new.ensures.plan c.new.ensures.empty
