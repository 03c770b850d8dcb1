use Rattle.std.proofs.Common.{arith, ◌≡◌, ◌∙◌, sym, subst, List, length, ◌-◌}
use Rattle.std.specs.Prelude.{slice_index_or}
use Rattle.std.specs.List.Sorted.{IsNonDecreasingBy}
use Rattle.rs_types.specs.Covering.{covers}
use Rattle.rs_types.specs.declared.pattern.Pattern.{Pattern}
use Rattle.rs_import.specs.Nesting.{IsLastCover, rank_of}
use Rattle.rs_import.specs.Patterns.{is_match}
use Rattle.rs_import.proofs.SearchLemmas.{find-start, find-step, found-first}
use Rattle.rs_import.proofs.SetLemmas.{match-covers, no_pattern}
use Rattle.rs_import.proofs.SpecificLemmas.{most_specific}
use Rattle.rs_import.proofs.prefix_set.PrefixSet.matching.Goals as goal

pub loop-count-init : goal.loop-count-init
loop-count-init c =
    let patterns = c.args.self.now in
    let q = c.args.prefix in
    let count = c.first-count.result in
    let last = subst (λ (l : List Pattern). IsLastCover l q (length l) count) c.self.view_is c.first-count.ensures in (
      last.0.0,
      find-start (is_match q) (λ (pattern : Pattern). covers pattern.prefix q) (match-covers q) patterns no_pattern count last.0.0 last.0.1,
      last.1,
    )

pub loop-count-preserved : goal.loop-count-preserved
loop-count-preserved c =
    let patterns = c.args.self.now in
    let q = c.args.prefix in
    let count = c.loop-count.count in
    let next = c.next-count.result in
    let x = c.pattern-pattern.result in
    let last = subst (λ (l : List Pattern). IsLastCover l q (count - 1) next) c.self.view_is c.next-count.ensures in
    let at = subst (λ (l : List Pattern). x ≡ slice_index_or l (count - 1) x) c.self.view_is c.pattern-pattern.ensures in
    let fails = sym c.is_match.ensures ∙ c.if-is_match.false in (
      omega (arith, last.0.0, c.loop-count.invariant.0),
      find-step (is_match q) (λ (pattern : Pattern). covers pattern.prefix q) (match-covers q) patterns no_pattern count next x
          c.loop-count-test.true c.loop-count.invariant.0 at fails last.0.0 last.0.1
          ∙ c.loop-count.invariant.1,
      last.1,
    )

pub returns-then-is_match-clause-specific : goal.returns-then-is_match-clause-specific
returns-then-is_match-clause-specific c =
    let patterns = c.args.self.now in
    let q = c.args.prefix in
    let count = c.loop-count.count in
    let x = c.pattern-pattern.result in
    let at = subst (λ (l : List Pattern). x ≡ slice_index_or l (count - 1) x) c.self.view_is c.pattern-pattern.ensures in
    let rising = subst (λ (l : List Pattern). IsNonDecreasingBy (λ (pattern : Pattern). rank_of pattern.prefix) l) c.self.view_is c.self.invariant in
    let passes = sym c.is_match.ensures ∙ c.if-is_match.true in
    most_specific patterns q x rising passes
    (sym c.loop-count.invariant.1
    ∙ found-first (is_match q) patterns count x c.loop-count-test.true c.loop-count.invariant.0 at passes)
