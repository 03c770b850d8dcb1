use Rattle.std.proofs.Common.{arith, take, ◌≡◌, ◌∙◌, sym, ap, ◌-◌}
use Rattle.std.specs.Prelude.{find, reverse}
use Rattle.std.specs.Option.{is_some}
use Rattle.rs_import.specs.Rpki.{is_covering, is_matching}
use Rattle.rs_import.proofs.SearchLemmas.{any-find, find-start, find-step, found-first}
use Rattle.rs_import.proofs.VrpLemmas.{matching-covers, no_vrp}
use Rattle.rs_import.proofs.vrps.Vrps.some_matches.Goals as goal

pub loop-count-init : goal.loop-count-init
loop-count-init c =
    let q = c.args.prefix in (
      c.requires.0,
      find-start (is_matching q c.args.origin) (is_covering q) (matching-covers q c.args.origin) c.args.self.now no_vrp c.args.first
          c.requires.0 c.requires.1,
      c.requires.2,
    )

pub next-count-requires-clause-inside : goal.next-count-requires-clause-inside
next-count-requires-clause-inside c = omega (arith, c.loop-count.invariant.0, c.loop-count-test.true)

pub next-count-requires-clause-covering : goal.next-count-requires-clause-covering
next-count-requires-clause-covering c =
    λ d. c.loop-count.invariant.2 c.loop-count-test.true (c.loop-count.count - 1) d (omega arith) (omega (arith, c.loop-count-test.true))

pub loop-count-preserved : goal.loop-count-preserved
loop-count-preserved c =
    let q = c.args.prefix in
    let count = c.loop-count.count in
    let last = c.next-count.ensures in
    let fails = sym c.is_matching.ensures ∙ c.if-is_matching.false in (
      omega (arith, last.0, c.loop-count.invariant.0),
      find-step (is_matching q c.args.origin) (is_covering q) (matching-covers q c.args.origin) c.args.self.now no_vrp count
          c.next-count.result c.vrp.result c.loop-count-test.true c.loop-count.invariant.0 c.vrp.ensures fails last.0 last.1
          ∙ c.loop-count.invariant.1,
      last.2,
    )

pub returns-then-is_matching : goal.returns-then-is_matching
returns-then-is_matching c =
    let P = is_matching c.args.prefix c.args.origin in
    let passes = sym c.is_matching.ensures ∙ c.if-is_matching.true in
    let found = found-first P c.args.self.now c.loop-count.count c.vrp.result c.loop-count-test.true c.loop-count.invariant.0 c.vrp.ensures passes in
    sym (any-find P c.args.self.now ∙ (ap is_some (sym c.loop-count.invariant.1) ∙ ap is_some found))

pub returns : goal.returns
returns c =
    let P = is_matching c.args.prefix c.args.origin in
    let none : c.loop-count.count ≡ 0 = omega (arith, c.loop-count-test.false) in
    sym (any-find P c.args.self.now
    ∙ ap is_some (sym c.loop-count.invariant.1 ∙ ap (λ k. find P (reverse (take k c.args.self.now))) none))
