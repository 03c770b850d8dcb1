use Rattle.rs_table.proofs.ExampleLemmas.{left_examples, table_examples}
use Rattle.rs_table.proofs.laws.examples_hold.Goals as goal

pub returns-clause-left : goal.returns-clause-left
returns-clause-left c = left_examples

pub returns-clause-tables : goal.returns-clause-tables
returns-clause-tables c = table_examples
