use Rattle.std.proofs.Common.{◌≡◌, ◌∙◌, ◌+◌, ◌<◌, ℕ, List, ap, arith, length, subst, sym}
use Rattle.std.specs.List.{HoldsAt}
use Rattle.std.proofs.lemmas.List.{length_push}
use Rattle.rs_import.specs.Reaches.{IsReach}
use Rattle.rs_import.proofs.ReachLemmas.{reach-more, reaches-push}
use Rattle.rs_import.proofs.as_set.reaches_of.Goals as goal

pub loop-range-preserved : goal.loop-range-preserved
loop-range-preserved c =
    let ranges = c.args.ranges.now in
    let i = c.loop-range.range-index in
    let reaches = c.loop-range.reaches.items in
    let next = c.max-reach.result in
    let kept = c.loop-range.invariant in
    let more = subst (λ (n : ℕ). IsReach ranges (i + 1) n) (sym c.max-reach.ensures)
    (reach-more ranges i c.loop-range.reach _ c.loop-range-test.true kept.0 kept.1) in (
      λ none. absurd (omega (arith, none)),
      λ some. more,
      ap length c.in_ok-push.ensures.items ∙ (length_push reaches next ∙ ap (λ (n : ℕ). n + 1) kept.2),
      subst (λ (l : List ℕ). (k : ℕ) → k < i + 1 → HoldsAt (λ reach. IsReach ranges (k + 1) reach) l k) (sym c.in_ok-push.ensures.items)
          (reaches-push ranges reaches i next kept.2 kept.3 more),
    )

pub returns : goal.returns
returns c =
    let ranges = c.args.ranges.now in
    let done : c.loop-range.range-index ≡ length ranges = omega (arith, c.loop-range-test.false, c.loop-range.auto.range-index-end) in
    subst (λ (n : ℕ). (length c.loop-range.reaches.items ≡ n) × ((k : ℕ) → k < n → HoldsAt (λ reach. IsReach ranges (k + 1) reach) c.loop-range.reaches.items k))
    done (c.loop-range.invariant.2, c.loop-range.invariant.3)
