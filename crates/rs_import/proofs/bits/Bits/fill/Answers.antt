use Rattle.std.proofs.Common.{◌∙◌, ap, arith, Bool, ◌||◌}
use Rattle.rs_import.specs.Bits.{has_bit}
use Rattle.rs_import.proofs.BitLemmas.{passed-all, passed-more}
use Rattle.rs_import.proofs.bits.Bits.fill.Goals as goal

pub loop-next-preserved : goal.loop-next-preserved
loop-next-preserved c = (
  omega (arith, c.loop-next.invariant.0),
  omega (arith, c.loop-next-test.true, c.from.ensures),
  c.set.ensures.count ∙ c.loop-next.invariant.2,
  λ number.
      passed-more (has_bit c.args.self.now.words.items number) (has_bit c.loop-next.self.words.items number) (has_bit c.set.new.self.words.items number)
      c.args.first c.loop-next.next number c.loop-next.invariant.0 (c.loop-next.invariant.3 number) (c.set.ensures.bits number),
)

pub returns-clause-bits : goal.returns-clause-bits
returns-clause-bits c =
    λ number. c.loop-next.invariant.3 number
    ∙ ap (λ (b : Bool). has_bit c.args.self.now.words.items number || b)
    (passed-all c.args.first c.args.last c.loop-next.next number c.loop-next.invariant.1 (omega (arith, c.loop-next-test.false, c.from.ensures)))
