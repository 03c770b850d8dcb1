-- One more change, for the last changes on the prefix and for the close.
use Rattle.std.proofs.Common.{◌∙◌, ap, sym}
use Rattle.rs_session.specs.Change.{change_of}
use Rattle.rs_change.specs.declared.word.Reason.{Reason}
use Rattle.std.specs.Prelude.{Option}
use Rattle.rs_glass.specs.Recorded.{close_after}
use Rattle.rs_glass.proofs.SaidLemmas.{close_in-more}
use Rattle.rs_glass.proofs.said.Said.after.Goals as goal

pub returns : goal.returns
returns c = λ changes is. record {
  last = c.after-last.ensures changes is.last;
  close = c.close_after.ensures ∙ ap (λ (before : Option Reason). close_after before (change_of c.args.word.now).body) is.close
      ∙ sym (close_in-more changes (change_of c.args.word.now));
}
