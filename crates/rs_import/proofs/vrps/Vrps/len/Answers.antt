use Rattle.std.proofs.Common.{◌∙◌, ap, sym, length}
use Rattle.rs_import.proofs.VrpLemmas.{length-vrps}
use Rattle.rs_import.proofs.vrps.Vrps.len.Goals as goal

pub returns : goal.returns
returns c =
    c.len.ensures ∙ (sym (length-vrps c.self.inside.nesting c.self.inside.asns.items c.self.invariant) ∙ ap length c.self.view_is)
