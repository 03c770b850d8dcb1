use Rattle.std.proofs.Common.{arith, subst, List, length, sym, ℕ}
use Rattle.rs_types.specs.declared.vrp.Vrp.{Vrp}
use Rattle.rs_import.specs.VrpsView.{IsLastCovering, vrps_of}
use Rattle.rs_import.proofs.VrpLemmas.{covering-of, length-vrps}
use Rattle.rs_import.proofs.vrps.Vrps.first.Goals as goal

pub returns : goal.returns
returns c =
    let patterns = c.self.inside.nesting in
    let asns = c.self.inside.asns.items in
    let q = c.args.prefix in
    let count = c.first.result in
    let all = covering-of patterns asns q (length patterns) count c.self.invariant (omega arith) c.first.ensures in
    subst (λ (l : List Vrp). IsLastCovering l q (length l) count) c.self.view_is
    (subst (λ (n : ℕ). IsLastCovering (vrps_of patterns asns) q n count) (sym (length-vrps patterns asns c.self.invariant)) all)
