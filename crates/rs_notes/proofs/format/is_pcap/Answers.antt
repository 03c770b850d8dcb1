-- The answer is one search, so that a wrong body is refused soon.
use Rattle.std.proofs.Common.{rules}
use Rattle.rs_notes.proofs.format.is_pcap.Goals as goal

pub returns-else-starts_with-4 : goal.returns-else-starts_with-4
returns-else-starts_with-4 c = search rules
