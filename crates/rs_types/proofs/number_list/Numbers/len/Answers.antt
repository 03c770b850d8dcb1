use Rattle.std.proofs.Common.{sym}
use Rattle.rs_types.proofs.fields.SegmentLemmas.{length-numbers_at}
use Rattle.rs_types.proofs.number_list.Numbers.len.Goals as goal

pub returns : goal.returns
returns c = sym (length-numbers_at c.args.self.now.count c.args.self.now.octets.now)
