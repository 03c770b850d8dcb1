use Rattle.std.proofs.Common.{◌≡◌, [], ◌∷◌, ◌++◌, List, length, AllPairs, arith, refl, sym, ap, subst, ◌∙◌, rules}
use Rattle.std.specs.Option.{option_to_list}
use Rattle.std.specs.Vec.Iter.{into_iter_items, into_iter_len}
use Rattle.rs_table.specs.Content.{TablesContent}
use Rattle.rs_table.specs.Merge.{AreParts, IsMerged}
use Rattle.rs_table.proofs.MergeLemmas.{IsUnderWay, way-begins, way-goes_on, way-ends}
use Rattle.rs_table.proofs.tables.Tables.merge.Goals as goal

nothing_left : {X : Type 0} (xs : List X) → length xs ≡ 0 → xs ≡ []
nothing_left [] e = refl
nothing_left (x ∷ xs) e = absurd (omega arith)

pub loop-part-init : goal.loop-part-init
loop-part-init c =
    let first = c.unwrap-merged.result in
    let later : List TablesContent = into_iter_items c.into_iter-part-iterator.result in
    let all : first ∷ later ≡ c.args.parts.items =
    ap (λ i. first ∷ into_iter_items i) c.into_iter-part-iterator.ensures.into_iter_gives
    ∙ ap (λ o. option_to_list o ++ into_iter_items c.next.new.self) (sym c.unwrap-merged.ensures)
    ∙ sym c.next.ensures.items ∙ c.into_iter-parts.ensures.rest in
    let count : into_iter_len c.into_iter-part-iterator.result ≡ length later =
    let given = ap into_iter_len c.into_iter-part-iterator.ensures.into_iter_gives in
    let taken = ap (λ o. length (option_to_list o)) c.unwrap-merged.ensures in
    let lengths = ap length all in
    omega (arith, given, taken, c.next.ensures.len, c.into_iter-parts.ensures.len, c.args.parts.ok.0, lengths) in
    (way-begins first later (subst (AllPairs AreParts) (sym all) c.requires.parts), count)

pub joined_with-requires : goal.joined_with-requires
joined_with-requires c =
    let way = subst (IsUnderWay (c.unwrap-merged.result ∷ into_iter_items c.into_iter-part-iterator.result) c.loop-part.merged)
    c.in-Some.ensures.steps.0 c.loop-part.invariant.0 in
    way.pairs.0.0

pub loop-part-preserved : goal.loop-part-preserved
loop-part-preserved c =
    let all : List TablesContent = c.unwrap-merged.result ∷ into_iter_items c.into_iter-part-iterator.result in
    let steps = c.in-Some.ensures.steps in
    let short = ap length steps.0 in
    let was = c.loop-part.invariant.1 in
    let gone = steps.1 in (
      way-goes_on all c.loop-part.merged c.in-Some.part c.in_ok-merged.merged (into_iter_items c.next-in-loop-part.new.self)
          (subst (IsUnderWay all c.loop-part.merged) steps.0 c.loop-part.invariant.0) c.in_ok-merged.ensures,
      omega arith,
    )

pub returns : goal.returns
returns c =
    let first = c.unwrap-merged.result in
    let later : List TablesContent = into_iter_items c.into_iter-part-iterator.result in
    let all : first ∷ later ≡ c.args.parts.items =
    ap (λ i. first ∷ into_iter_items i) c.into_iter-part-iterator.ensures.into_iter_gives
    ∙ ap (λ o. option_to_list o ++ into_iter_items c.next.new.self) (sym c.unwrap-merged.ensures)
    ∙ sym c.next.ensures.items ∙ c.into_iter-parts.ensures.rest in
    let none : into_iter_items c.loop-part.part-iterator ≡ [] =
    nothing_left (into_iter_items c.loop-part.part-iterator) (sym c.loop-part.invariant.1 ∙ c.in-None.ensures.steps.0) in
    subst (λ parts. IsMerged parts c.loop-part.merged) all
    (way-ends (first ∷ later) c.loop-part.merged (subst (IsUnderWay (first ∷ later) c.loop-part.merged) none c.loop-part.invariant.0))

pub loop-part-init-derived : goal.loop-part-init-derived
loop-part-init-derived c = search rules

pub loop-part-preserved-derived : goal.loop-part-preserved-derived
loop-part-preserved-derived c = search rules

pub loop-part-smaller : goal.loop-part-smaller
loop-part-smaller c = search rules

pub returns-in_err-merged : goal.returns-in_err-merged
returns-in_err-merged c = search rules
