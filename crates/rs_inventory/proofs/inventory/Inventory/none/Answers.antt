use Rattle.std.proofs.Common.{refl, rules}
use Rattle.rs_inventory.proofs.BackLemmas.{never_back}
use Rattle.rs_inventory.proofs.SilenceLemmas.{never_silent}
use Rattle.rs_inventory.proofs.inventory.Inventory.none.Goals as goal

pub returns-clause-holds : goal.returns-clause-holds
returns-clause-holds c = (
  record {
    records = refl;
    kinds = search rules;
    first = refl;
    last = refl;
    octets = refl;
    back = never_back;
    watch = rw c.none.ensures (record { wait = refl; keeper = refl; first = never_silent });
    unnamed = search rules;
    recorder = refl;
    peers = search rules;
  },
  refl,
)
