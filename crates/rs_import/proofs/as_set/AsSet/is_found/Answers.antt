use Rattle.std.proofs.Common.{◌∙◌, ◌+◌, ◌-◌, ℕ, List, arith, ap, length, subst, sym}
use Rattle.rs_types.specs.declared.as_range.AsRange.{AsRange}
use Rattle.rs_import.specs.AsRanges.{is_in_ranges}
use Rattle.rs_import.specs.Reaches.{IsReach}
use Rattle.rs_import.proofs.ReachLemmas.{has-by_reach, has-none}
use Rattle.rs_import.proofs.as_set.AsSet.is_found.Goals as goal

pub returns-then-count-gt0 : goal.returns-then-count-gt0
returns-then-count-gt0 c =
    let asn = c.args.asn in
    let ranges = c.deref.result.now in
    let count = c.count_up_to-count.result in
    let reach = c.index.result.now in
    let found = c.count_up_to-count.ensures in
    let at = c.self.invariant.1.1 (count - 1) (omega (arith, found.within, ap length c.deref.ensures.value, c.if-count-gt0.true)) reach in
    let here = subst (λ (n : ℕ). IsReach c.self.inside.ranges.items (count - 1 + 1) n) (sym c.index.ensures) at in
    let all = subst (λ (n : ℕ). IsReach c.self.inside.ranges.items n reach) (omega (arith, c.if-count-gt0.true)) here in
    has-by_reach ranges count asn found.up_to found.behind reach found.within
    (subst (λ (l : List AsRange). IsReach l count reach) (sym c.deref.ensures.value) all)
    ∙ ap (λ (l : List AsRange). is_in_ranges l asn) (c.deref.ensures.value ∙ c.self.view_is)

pub returns-else-count-gt0 : goal.returns-else-count-gt0
returns-else-count-gt0 c =
    let found = c.count_up_to-count.ensures in
    has-none c.deref.result.now c.count_up_to-count.result c.args.asn found.up_to found.behind (omega (arith, c.if-count-gt0.false))
    ∙ ap (λ (l : List AsRange). is_in_ranges l c.args.asn) (c.deref.ensures.value ∙ c.self.view_is)
