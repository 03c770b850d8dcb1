use Rattle.std.specs.Net.Addr.{ipv4_bits}
use Rattle.rs_import_files.proofs.NoneLemmas.{no_address}
use Rattle.rs_import_files.proofs.prefixes.dotted_address.Goals as goal

pub returns-in-Ok-clause-found : goal.returns-in-Ok-clause-found
unfolding ipv4_bits
returns-in-Ok-clause-found c = (c.in-Ok.address.octets, c.in-Ok.ensures.value, c.to_bits.ensures)

pub returns-in-Err-clause-none : goal.returns-in-Err-clause-none
returns-in-Err-clause-none c = no_address c.args.text.now c.in-Err.ensures.value
