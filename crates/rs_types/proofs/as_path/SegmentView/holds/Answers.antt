-- Each answer is one search, so that a wrong body is refused soon.
use Rattle.std.proofs.Common.{rules}
use Rattle.rs_types.proofs.as_path.SegmentView.holds.Goals as goal

pub returns-in-Set : goal.returns-in-Set
returns-in-Set c = search rules

pub returns-in-Sequence : goal.returns-in-Sequence
returns-in-Sequence c = search rules
