-- The plan behind its `Arc` is that of the setup.
use Rattle.std.proofs.Common.{IfOk, subst}
use Rattle.rs_opening.specs.Opening.{AreReadSo}
use Rattle.rs_opening.proofs.files.open_files.Goals as goal

pub returns-clause-read_so : goal.returns-clause-read_so
returns-clause-read_so g c =
    subst (λ plan. IfOk c.open_each.result (λ files. AreReadSo c.args.reading plan files.items)) c.deref-in-None.ensures
    c.open_each.ensures.read_so
