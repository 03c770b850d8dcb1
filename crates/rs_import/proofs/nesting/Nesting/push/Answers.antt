use Rattle.std.proofs.Common.{arith, ◌≡◌, sym, ap, subst, ℕ, List, length, map}
use Rattle.rs_import.specs.declared.nesting.Node.{Node}
use Rattle.rs_types.specs.declared.pattern.Pattern.{Pattern}
use Rattle.rs_import.specs.Nesting.{IsLastCover, IsNotBefore, IsUpTo, pattern_of}
use Rattle.rs_import.proofs.BlockLemmas.{starts-none}
use Rattle.rs_import.proofs.CoverLemmas.{nested-push_at, node-prefix, nodes-behind, up_to-behind}
use Rattle.rs_import.proofs.nesting.Nesting.push.Goals as goal

pub last_cover-parent-requires-clause-up_to : goal.last_cover-parent-requires-clause-up_to
last_cover-parent-requires-clause-up_to c =
    let nodes = c.self.inside.nodes.items in
    let pattern = c.args.pattern in
    let behind = nodes-behind nodes pattern (subst (λ (l : List Pattern). IsNotBefore l pattern) (sym c.self.view_is) c.requires.order) in
    let up = up_to-behind nodes pattern.prefix (omega (arith, c.len-len.ensures.value, c.len-len.ensures.bound)) behind in
    let end : length nodes ≡ c.len.result = omega (arith, c.len.ensures, ap length c.deref.ensures.value, c.deref.ensures.len) in
    subst (λ (l : List Node). IsUpTo l pattern.prefix c.len.result) (sym c.deref.ensures.value)
    (subst (λ (n : ℕ). IsUpTo nodes pattern.prefix n) end up)

pub invariant_of-self-2 : goal.invariant_of-self-2
invariant_of-self-2 c =
    let nodes = c.self.inside.nodes.items in
    let pattern = c.args.pattern in
    let behind = nodes-behind nodes pattern (subst (λ (l : List Pattern). IsNotBefore l pattern) (sym c.self.view_is) c.requires.order) in
    let end : length nodes ≡ c.len.result = omega (arith, c.len.ensures, ap length c.deref.ensures.value, c.deref.ensures.len) in
    let parent = c.last_cover-parent.result in
    let one : Node = record {
      address = c.address-address.result;
      parent = parent;
      len = c.len-len.result;
      least = pattern.least;
      most = pattern.most;
    } in
    let last = subst (λ (n : ℕ). IsLastCover (map pattern_of nodes) pattern.prefix n parent) (sym end)
    (subst (λ (l : List Node). IsLastCover (map pattern_of l) pattern.prefix c.len.result parent) c.deref.ensures.value
    c.last_cover-parent.ensures) in
    let address : c.address-address.result ≡ pattern.prefix.address = c.address-address.ensures in
    let len : c.len-len.result ≡ pattern.prefix.len = c.len-len.ensures.value in
    let nested = nested-push_at nodes one pattern.prefix (node-prefix one pattern.prefix address len) c.self.invariant.0
    (omega (arith, c.len-len.ensures.value, c.len-len.ensures.bound), c.a_prefix_covers_itself.ensures) behind last in (
      rw c.in_ok-push.ensures.items nested,
      starts-none (λ (node : Node). node.address) _ _ _ (omega (arith, c.none.ensures.shift)) c.none.ensures.starts,
    )
