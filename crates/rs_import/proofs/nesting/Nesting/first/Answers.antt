use Rattle.std.proofs.Common.{subst, List, length, map, ◌≤◌, ◌<◌}
use Rattle.std.specs.List.{AllWithin}
use Rattle.rs_import.specs.declared.nesting.Node.{Node}
use Rattle.rs_types.specs.declared.pattern.Pattern.{Pattern}
use Rattle.rs_import.specs.Nesting.{IsLastCover, pattern_of}
use Rattle.rs_import.proofs.CoverLemmas.{last_cover-of_all}
use Rattle.rs_import.proofs.nesting.Nesting.first.Goals as goal

pub returns : goal.returns
returns c =
    let nodes = c.self.inside.nodes.items in
    let q = c.args.prefix in
    let end = c.count_up_to-count.result in
    let count = c.last_cover.result in
    let same = c.as_slice-nodes.ensures.value in
    let within = subst (λ (l : List Node). end ≤ length l) same c.count_up_to-count.ensures.within in
    let behind = subst (λ (l : List Node). AllWithin (λ node. c.address.result < node.address) l end (length l)) same c.count_up_to-count.ensures.behind in
    let above = subst (λ (n : _). AllWithin (λ node. n < node.address) nodes end (length nodes)) c.address.ensures behind in
    let last = subst (λ (l : List Node). IsLastCover (map pattern_of l) q end count) same c.last_cover.ensures in
    subst (λ (l : List Pattern). IsLastCover l q (length l) count) c.self.view_is (last_cover-of_all nodes q end count within above last)
