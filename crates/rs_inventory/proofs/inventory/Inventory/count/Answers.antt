-- What is counted changes, and nothing else.
use Rattle.std.proofs.Common.{rules}
use Rattle.rs_inventory.proofs.inventory.Inventory.count.Goals as goal

pub returns : goal.returns
returns c = record {
  compression = search rules;
  end = search rules;
  records = search rules;
  kinds = search rules;
  first = search rules;
  last = search rules;
  octets = search rules;
  back = search rules;
  watch = search rules;
  unnamed = search rules;
  recorder = search rules;
  peers = search rules;
}
