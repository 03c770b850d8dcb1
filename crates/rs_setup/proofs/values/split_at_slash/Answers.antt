use Rattle.std.proofs.Common.{arith}
use Rattle.rs_setup.proofs.SetupLemmas.{parts_at_slash}
use Rattle.rs_setup.proofs.SlashLemmas.{first_slash, no_slash}
use Rattle.rs_setup.proofs.values.split_at_slash.Goals as goal

pub returns-clause-parts : goal.returns-clause-parts
returns-clause-parts c =
    parts_at_slash c.args.text.now c.split_once.result (c.split_once.ensures.byte (omega arith) (λ text place found. found))

pub returns-clause-first : goal.returns-clause-first
returns-clause-first c =
    first_slash c.args.text.now c.split_once.result (c.split_once.ensures.byte (omega arith) (λ text place found. found))

pub returns-clause-none : goal.returns-clause-none
returns-clause-none c = no_slash c.args.text.now c.split_once.result (c.split_once.ensures.byte (omega arith) (λ text place found. found))
