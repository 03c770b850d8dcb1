use Rattle.std.proofs.Common.{arith, sym, ap, ◌∙◌, ◌-◌, ◌<◌}
use Rattle.rs_types.specs.Covering.{covers}
use Rattle.rs_types.specs.IpPrefix.{IpPrefix}
use Rattle.rs_import.proofs.CoverLemmas.{no_node, passed-more, pattern-covers, patterns-passed}
use Rattle.rs_import.proofs.nesting.last_cover.Goals as goal

pub returns-then-covers : goal.returns-then-covers
returns-then-covers c =
    let nodes = c.args.nodes.now in
    let q = c.args.prefix in
    let count = c.loop-count.count in (
      patterns-passed nodes q count c.args.end c.requires.within c.loop-count.invariant.0 c.loop-count.invariant.1,
      λ some k d from before.
          pattern-covers nodes q (count - 1) no_node (omega (arith, some, c.loop-count.invariant.0, c.requires.within))
          (ap (λ (p : IpPrefix). covers p q) (sym c.prefix_of.ensures) ∙ (sym c.covers.ensures ∙ c.if-covers.true)) k d from (omega (arith, before, some)),
    )

pub loop-count-preserved : goal.loop-count-preserved
loop-count-preserved c =
    let nodes = c.args.nodes.now in
    let q = c.args.prefix in
    let count = c.loop-count.count in
    let place = count - 1 in
    let inside : place < _ = omega (arith, c.loop-count-test.true, c.loop-count.invariant.0, c.requires.within) in (
      omega (arith, c.requires.nested.before place no_node inside, c.loop-count.invariant.0, c.loop-count-test.true),
      passed-more nodes q place c.args.end no_node c.requires.nested inside
          (c.requires.up_to place no_node (omega arith) (omega (arith, c.loop-count-test.true, c.loop-count.invariant.0)))
          (ap (λ (p : IpPrefix). covers p q) (sym c.prefix_of.ensures) ∙ (sym c.covers.ensures ∙ c.if-covers.false))
          (λ j e from before. c.loop-count.invariant.1 j e (omega (arith, from, c.loop-count-test.true)) before),
    )

pub returns : goal.returns
returns c =
    let nodes = c.args.nodes.now in
    let q = c.args.prefix in (
      patterns-passed nodes q 0 c.args.end c.requires.within (omega arith)
          (λ j e from before. c.loop-count.invariant.1 j e (omega (arith, c.loop-count-test.false)) before),
      λ some k d from before. absurd (omega (arith, before)),
    )
