use Rattle.std.proofs.Common.{◌≡◌, ap, arith, subst, List, length, sym, ◌<◌, ◌≤◌, true}
use Rattle.std.specs.List.{HoldsAt}
use Rattle.rs_types.specs.declared.vrp.Vrp.{Vrp}
use Rattle.rs_import.specs.Rpki.{is_covering}
use Rattle.rs_import.specs.VrpsView.{IsLastCovering}
use Rattle.rs_import.proofs.VrpLemmas.{covering-of, length-vrps, pattern-holds}
use Rattle.rs_import.proofs.vrps.Vrps.next.Goals as goal

pub next-requires-clause-inside : goal.next-requires-clause-inside
next-requires-clause-inside c =
    omega (arith, c.requires.inside, ap length c.self.view_is, length-vrps c.self.inside.nesting c.self.inside.asns.items c.self.invariant)

pub next-requires-clause-covering : goal.next-requires-clause-covering
next-requires-clause-covering c =
    let patterns = c.self.inside.nesting in
    let asns = c.self.inside.asns.items in
    let inside : c.args.place < length patterns =
    omega (arith, c.requires.inside, ap length c.self.view_is, length-vrps patterns asns c.self.invariant) in
    pattern-holds patterns asns c.args.prefix c.args.place c.self.invariant inside
    (subst (λ (l : List Vrp). HoldsAt (λ vrp. is_covering c.args.prefix vrp ≡ true) l c.args.place) (sym c.self.view_is) c.requires.covering)

pub returns : goal.returns
returns c =
    let patterns = c.self.inside.nesting in
    let asns = c.self.inside.asns.items in
    let inside : c.args.place ≤ length patterns =
    omega (arith, c.requires.inside, ap length c.self.view_is, length-vrps patterns asns c.self.invariant) in
    subst (λ (l : List Vrp). IsLastCovering l c.args.prefix c.args.place c.next.result) c.self.view_is
    (covering-of patterns asns c.args.prefix c.args.place c.next.result c.self.invariant inside c.next.ensures)
