use Rattle.std.proofs.Common.{arith}
use Rattle.rs_types.specs.AttributesView.{looked_up_in}
use Rattle.rs_types.specs.Parts.{AreOctets}
use Rattle.rs_types.proofs.section.LookLemmas.{path-fits}
use Rattle.rs_types.proofs.attributes.path_is_short.Goals as goal

pub returns : goal.returns
returns c =
    let section = c.args.section.now in
    let fit : AreOctets section = λ place. omega (arith, c.type_inv.section place) in
    path-fits section (looked_up_in section) fit c.requires.faultless c.requires.gives
