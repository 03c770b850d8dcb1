use Rattle.std.proofs.Common.{◌∙◌, subst, sym}
use Rattle.rs_import_files.specs.Texts.{IsAsEntry, StandsForNone}
use Rattle.rs_import_files.proofs.ErrLemmas.{where_err}
use Rattle.rs_import_files.proofs.LineLemmas.{says_entry}
use Rattle.rs_import_files.proofs.lines.range_said.Goals as goal

pub returns-in_err-need_range-clause-none : goal.returns-in_err-need_range-clause-none
returns-in_err-need_range-clause-none c =
    where_err c.from_residual.result (
      says_entry c.args.line.now c.said_by-said.result.now c.said_by-said.ensures (sym c.is_empty.ensures ∙ c.if-is_empty.false),
      subst (StandsForNone IsAsEntry) c.said_by-said.ensures c.in_err-need_range.ensures.none,
    )
