use Rattle.std.proofs.Common.{◌∙◌, ◌+◌, ◌/◌, ◌*◌, ◌≤◌, ◌&&◌, ◌||◌, max, ℕ, Bool, List, ap, arith, slice_index_or, subst, sym, take}
use Rattle.std.specs.Prelude.{nat_le}
use Rattle.std.proofs.Math.Bool.{and-true}
use Rattle.std.proofs.lemmas.Bool.{le-leb}
use Rattle.std.proofs.lemmas.List.{take_all}
use Rattle.rs_types.specs.declared.as_range.AsRange.{AsRange}
use Rattle.rs_import.specs.AsRanges.{is_in_ranges}
use Rattle.rs_import.specs.Bits.{has_bit}
use Rattle.rs_import.specs.Reaches.{IsReach}
use Rattle.rs_import.proofs.BitLemmas.{range-more}
use Rattle.rs_import.proofs.ReachLemmas.{greater-is, reach-more}
use Rattle.rs_import.proofs.as_set.bits_of.Goals as goal

pub loop-range-preserved : goal.loop-range-preserved
loop-range-preserved c =
    let ranges = c.args.ranges.now in
    let i = c.loop-range.range-index in
    let kept = c.loop-range.invariant in
    let none : AsRange = record { first = 0; last = 0 } in
    let more = subst (λ (n : ℕ). IsReach ranges (i + 1) n) (greater-is c.loop-range.reach (slice_index_or ranges i none).last ∙ sym c.max-reach.ensures)
    (reach-more ranges i c.loop-range.reach none c.loop-range-test.true kept.0 kept.1) in (
      λ zero. absurd (omega (arith, zero)),
      λ some. more,
      c.fill.ensures.count ∙ kept.2,
      λ asn.
          let old = has_bit c.loop-range.bits.words.items asn in
          let range = slice_index_or ranges i none in
          range-more ranges c.requires.order i c.loop-range.reach none c.loop-range-test.true kept.0 kept.1 asn (c.min.result / 64 * 64 + 63)
          old (has_bit c.fill.new.self.words.items asn) (kept.3 asn)
          (c.fill.ensures.bits asn
          ∙ (ap (λ (n : ℕ). old || (nat_le n asn && nat_le asn c.min-in-loop-range.result)) c.max.ensures
          ∙ ap (λ (n : ℕ). old || (nat_le (max range.first c.loop-range.reach) asn && nat_le asn n)) c.min-in-loop-range.ensures)),
    )

pub returns : goal.returns
returns c = λ asn word.
    let ranges = c.args.ranges.now in
    let i = c.loop-range.range-index in
    let last = c.min.result / 64 * 64 + 63 in
    let low : asn ≤ last = omega (arith, word, c.loop-range.invariant.2) in
    c.loop-range.invariant.3 asn
    ∙ (ap (λ (b : Bool). is_in_ranges (take i ranges) asn && b) (le-leb asn last low)
    ∙ (and-true (is_in_ranges (take i ranges) asn) ∙ ap (λ (l : List AsRange). is_in_ranges l asn) (take_all i ranges c.loop-range-test.false)))
