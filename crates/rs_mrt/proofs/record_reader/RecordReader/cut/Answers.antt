-- The answer is one search, so that a wrong body is refused soon.
use Rattle.std.proofs.Common.{rules}
use Rattle.rs_mrt.proofs.record_reader.RecordReader.cut.Goals as goal

pub returns : goal.returns
returns g c = search rules
