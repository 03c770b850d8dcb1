use Rattle.std.proofs.Common.{rules, ◌∙◌, sym, arith}
use Rattle.rs_choice.proofs.neighbour_groups.ChainLemmas.{passed_all}
use Rattle.rs_choice.proofs.neighbour_groups.GroupParts.{found_at, found_nowhere}
use Rattle.rs_choice.proofs.neighbour_groups.NeighbourGroups.find.Goals as goal

pub returns-then-found-neighbour : goal.returns-then-found-neighbour
returns-then-found-neighbour c =
    found_at c.self.inside c.args.self.now c.self.invariant c.self.view_is c.loop-number.number c.args.neighbour
    (omega (arith, c.loop-number-test.true, c.loop-number.invariant.within)) c.if-found-neighbour.true

-- the chain ends where another one goes on
pub returns-then-chain_of-chain : goal.returns-then-chain_of-chain
returns-then-chain_of-chain c =
    found_nowhere c.self.inside c.args.self.now c.self.invariant c.self.view_is c.args.neighbour
    (passed_all c.self.inside.neighbours c.self.inside.len c.args.neighbour c.loop-number.end c.loop-number.number
    c.loop-number.invariant.last c.loop-number.invariant.passed
    (λ within same. c.if-chain_of-chain.true (c.chain_of.ensures ∙ same ∙ sym c.chain_of-chain.ensures)))

pub returns : goal.returns
returns c =
    found_nowhere c.self.inside c.args.self.now c.self.invariant c.self.view_is c.args.neighbour
    (passed_all c.self.inside.neighbours c.self.inside.len c.args.neighbour c.loop-number.end c.loop-number.number
    c.loop-number.invariant.last c.loop-number.invariant.passed
    (λ within same. omega (arith, within, c.loop-number-test.false)))

pub loop-number-init : goal.loop-number-init
loop-number-init c = search rules

pub loop-number-preserved : goal.loop-number-preserved
loop-number-preserved c = search rules

pub loop-number-smaller : goal.loop-number-smaller
loop-number-smaller c = search rules
