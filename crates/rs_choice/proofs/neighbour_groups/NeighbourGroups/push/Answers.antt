use Rattle.std.proofs.Common.{◌∙◌, arith, ◌≡◌, ◌<◌}
use Rattle.rs_choice.specs.declared.plan.TheConstants.{MAX_PEERS}
use Rattle.rs_choice.proofs.neighbour_groups.ChainLemmas.{pushed_full}
use Rattle.rs_choice.proofs.neighbour_groups.GroupParts.{counted, pushed}
use Rattle.rs_choice.proofs.neighbour_groups.NeighbourGroups.push.Goals as goal

pub invariant_of-self : goal.invariant_of-self
invariant_of-self c =
    let same : c.len-number.result ≡ c.self.inside.len =
    c.len-number.ensures.value ∙ counted c.self.inside c.args.self.now c.self.invariant c.self.view_is in
    let room : c.self.inside.len < MAX_PEERS = omega (arith, c.requires, same, c.len-number.ensures.value) in
    rw (same, c.chain_of-chain.ensures) (pushed_full c.self.inside c.of.result c.args.group.neighbour c.self.invariant room)

pub returns : goal.returns
returns c =
    let same : c.len-number.result ≡ c.self.inside.len =
    c.len-number.ensures.value ∙ counted c.self.inside c.args.self.now c.self.invariant c.self.view_is in
    rw (same, c.of.ensures) (pushed c.self.inside c.args.self.now c.self.invariant c.self.view_is c.args.group c.requires)
