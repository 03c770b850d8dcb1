use Rattle.std.proofs.Common.{◌∙◌, subst, sym}
use Rattle.rs_import_files.specs.Texts.{IsPattern, StandsForNone}
use Rattle.rs_import_files.proofs.ErrLemmas.{where_err}
use Rattle.rs_import_files.proofs.LineLemmas.{says_ipv4}
use Rattle.rs_import_files.proofs.lines.pattern_said.Goals as goal

pub returns-in_err-need_pattern-clause-none : goal.returns-in_err-need_pattern-clause-none
returns-in_err-need_pattern-clause-none c =
    where_err c.from_residual.result (
      says_ipv4 c.args.line.now c.said_by-said.result.now c.said_by-said.ensures (sym c.is_empty.ensures ∙ c.if-is_empty.false) (sym c.is_ipv6.ensures ∙ c.if-is_ipv6.false),
      subst (StandsForNone IsPattern) c.said_by-said.ensures c.in_err-need_pattern.ensures.none,
    )
