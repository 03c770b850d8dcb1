use Rattle.std.proofs.Common.{arith}
use Rattle.rs_import_files.proofs.NoneLemmas.{first_part, no_part, parts_at}
use Rattle.rs_import_files.proofs.cuts.cut_at.Goals as goal

pub returns-clause-parts : goal.returns-clause-parts
returns-clause-parts c =
    parts_at c.args.mark c.args.text.now c.split_once.result (c.split_once.ensures.byte (omega arith) (λ text place found. found))

pub returns-clause-first : goal.returns-clause-first
returns-clause-first c =
    first_part c.args.mark c.args.text.now c.split_once.result (c.split_once.ensures.byte (omega arith) (λ text place found. found))

pub returns-clause-none : goal.returns-clause-none
returns-clause-none c =
    no_part c.args.mark c.args.text.now c.split_once.result (c.split_once.ensures.byte (omega arith) (λ text place found. found))
