use Rattle.rs_mrt.proofs.ExampleLemmas.{record_examples, entry_examples, source_examples, writer_examples, reader_examples}
use Rattle.rs_mrt.proofs.laws.examples_hold.Goals as goal

pub returns-clause-records : goal.returns-clause-records
returns-clause-records c = record_examples

pub returns-clause-entries : goal.returns-clause-entries
returns-clause-entries c = entry_examples

pub returns-clause-sources : goal.returns-clause-sources
returns-clause-sources c = source_examples

pub returns-clause-writers : goal.returns-clause-writers
returns-clause-writers c = writer_examples

pub returns-clause-readers : goal.returns-clause-readers
returns-clause-readers c = reader_examples
