use Rattle.std.proofs.Common.{arith, ◌≡◌, ◌∙◌, sym, ap, subst, List, length, map, ◌<◌, true}
use Rattle.std.specs.List.{HoldsAt}
use Rattle.std.specs.Prelude.{slice_index_or}
use Rattle.std.proofs.lemmas.List.{get_or_default, length-map}
use Rattle.rs_types.specs.Covering.{covers}
use Rattle.rs_import.specs.declared.nesting.Node.{Node}
use Rattle.rs_types.specs.declared.pattern.Pattern.{Pattern}
use Rattle.rs_import.specs.Nesting.{IsLastCover, IsUpTo, pattern_of}
use Rattle.rs_import.proofs.CoverLemmas.{covering-at, last_cover-before, no_node, up_to-place}
use Rattle.rs_import.proofs.nesting.Nesting.next.Goals as goal

pub last_cover-requires-clause-up_to : goal.last_cover-requires-clause-up_to
last_cover-requires-clause-up_to c =
    let nodes = c.self.inside.nodes.items in
    let q = c.args.prefix in
    let place = c.args.place in
    let inside : place < length nodes = omega (arith, c.requires.inside, ap length c.self.view_is, length-map nodes pattern_of) in
    let at : c.index.result.now ≡ slice_index_or nodes place no_node =
    c.index.ensures ∙ get_or_default nodes place c.index.result.now no_node inside in
    let holds = subst (λ (l : List Pattern). HoldsAt (λ pattern. covers pattern.prefix q ≡ true) l place) (sym c.self.view_is)
    c.requires.covering in
    let up = up_to-place nodes q place (slice_index_or nodes place no_node).parent no_node c.self.invariant.0 inside
    (covering-at nodes q place no_node inside holds) (c.self.invariant.0.before place no_node inside) in
    subst (λ (l : List Node). IsUpTo l q c.index.result.now.parent) (sym c.deref.ensures.value)
    (subst (λ (node : Node). IsUpTo nodes q node.parent) (sym at) up)

pub returns : goal.returns
returns c =
    let nodes = c.self.inside.nodes.items in
    let q = c.args.prefix in
    let place = c.args.place in
    let count = c.last_cover.result in
    let inside : place < length nodes = omega (arith, c.requires.inside, ap length c.self.view_is, length-map nodes pattern_of) in
    let at : c.index.result.now ≡ slice_index_or nodes place no_node =
    c.index.ensures ∙ get_or_default nodes place c.index.result.now no_node inside in
    let holds = subst (λ (l : List Pattern). HoldsAt (λ pattern. covers pattern.prefix q ≡ true) l place) (sym c.self.view_is)
    c.requires.covering in
    let last = subst (λ (node : Node). IsLastCover (map pattern_of nodes) q node.parent count) at
    (subst (λ (l : List Node). IsLastCover (map pattern_of l) q c.index.result.now.parent count) c.deref.ensures.value c.last_cover.ensures) in
    subst (λ (l : List Pattern). IsLastCover l q place count) c.self.view_is
    (last_cover-before nodes q place count no_node c.self.invariant.0 inside (covering-at nodes q place no_node inside holds) last)
