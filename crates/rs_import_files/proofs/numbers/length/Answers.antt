use Rattle.std.proofs.Common.{arith}
use Rattle.rs_import_files.proofs.NoneLemmas.{long_number}
use Rattle.rs_import_files.proofs.numbers.length.Goals as goal

pub returns-then-len-gt32-clause-none : goal.returns-then-len-gt32-clause-none
returns-then-len-gt32-clause-none c =
    long_number c.args.text.now c.in_ok-len.len c.in_ok-len.ensures.found (λ small. omega (arith, small, c.if-len-gt32.true))
