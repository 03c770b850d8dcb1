use Rattle.std.proofs.Common.{◌^◌, ◌-◌, ◌==◌, ◌∙◌, ℕ, ap, arith}
use Rattle.rs_types.specs.Parts.{AreOctets}
use Rattle.rs_update.proofs.message.MarkerLemmas.{all_ones}
use Rattle.rs_update.proofs.header.is_marked.Goals as goal

pub returns : goal.returns
returns c =
    let fit : AreOctets c.args.octets.now = λ place. omega (arith, c.type_inv.octets place) in
    ap (λ (n : ℕ). n == 256 ^ 16 - 1) c.read_u128.ensures ∙ all_ones 16 c.args.octets.now (omega (arith, c.requires)) fit
