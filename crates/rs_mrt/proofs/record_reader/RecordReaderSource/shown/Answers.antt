-- Each answer is one search, so that a wrong body is refused soon.
use Rattle.std.proofs.Common.{rules}
use Rattle.rs_mrt.proofs.record_reader.RecordReaderSource.shown.Goals as goal

pub returns : goal.returns
returns g c = search rules

pub returns-in_err-len : goal.returns-in_err-len
returns-in_err-len g c = search rules
