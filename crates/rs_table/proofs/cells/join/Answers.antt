use Rattle.std.proofs.Common.{◌≡◌, Ok, [], ◌∷◌, ◌++◌, refl, sym, ap, subst, ◌∙◌}
use Rattle.std.specs.declared.alloc.AllocError.{AllocError}
use Rattle.std.specs.Cmp.{eq_by_cmp_equiv}
use Rattle.std.specs.Map.{keys_of, update_all}
use Rattle.std.specs.Ordering.{eq_by_cmp}
use Rattle.std.proofs.lemmas.Iterator.Adapters.{YieldsList-from_vec, fact_from_extend}
use Rattle.std.proofs.lemmas.List.{append_assoc, append-nil, map-id}
use Rattle.std.proofs.lemmas.Map.Keys.{IsDistinct-from_sorted}
use Rattle.std.proofs.lemmas.Map.Made.{update_all_distinct}
use Rattle.rs_types.specs.PrefixOrder.{prefix_cmp}
use Rattle.rs_table.specs.Cells.{Entries, cell_at}
use Rattle.rs_table.proofs.PrefixLemmas.{prefix_total}
use Rattle.rs_table.proofs.cells.JoinLemmas.{AreToCome, written}
use Rattle.rs_table.proofs.cells.join.Goals as goal

pub loop-prefix-init : goal.loop-prefix-init
loop-prefix-init c =
    let gives = c.into_iter-rest.ensures.into_iter_gives in
    subst (λ (to_come : Entries). AreToCome to_come c.args.cells.entries c.args.cells.entries c.args.others.entries)
    (sym (ap (λ (seconds : Entries). seconds ++ c.into_iter-rest.result) c.in_ok-seconds.ensures.items ∙ gives.0))
    (record { distinct = IsDistinct-from_sorted prefix_cmp (keys_of c.args.others.entries) gives.5; joined = λ prefix. refl })

pub loop-prefix-preserved-in-Continue-branch-5 : goal.loop-prefix-preserved-in-Continue-branch-5
loop-prefix-preserved-in-Continue-branch-5 c =
    let seconds = c.loop-prefix.seconds.items in
    let m = c.loop-prefix.cells in
    let n = c.insert.new.self in
    let one = c.args.cells.entries in
    let other = c.args.others.entries in
    let after = c.next-in-Some.new.self in
    subst (λ (to_come : Entries). AreToCome to_come n.entries one other)
    (sym (ap (λ (seconds : Entries). seconds ++ after) c.in_ok-push.ensures.items ∙ append_assoc seconds (c.in-Some-next.second ∷ []) after
    ∙ ap (λ (rest : Entries). seconds ++ rest) (sym c.in-Some-next.ensures.steps)))
    (written one other m n seconds c.next.new.self _
    (subst (λ (rest : Entries). AreToCome (seconds ++ rest) m.entries one other) c.in-Some.ensures.steps c.loop-prefix.invariant)
    c.in_ok-insert.ensures.updates)

pub loop-prefix-preserved : goal.loop-prefix-preserved
loop-prefix-preserved c =
    let seconds = c.loop-prefix.seconds.items in
    let m = c.loop-prefix.cells in
    let n = c.insert.new.self in
    let one = c.args.cells.entries in
    let other = c.args.others.entries in
    subst (λ (rest : Entries). AreToCome (seconds ++ rest) n.entries one other)
    (c.in_default-next.ensures.steps.0 ∙ sym c.in_default-next.ensures.steps.1)
    (written one other m n seconds c.next.new.self _
    (subst (λ (rest : Entries). AreToCome (seconds ++ rest) m.entries one other) c.in-Some.ensures.steps c.loop-prefix.invariant)
    c.in_ok-insert.ensures.updates)

pub returns-clause-cells : goal.returns-clause-cells
returns-clause-cells c = λ prefix.
    let cells = c.loop-prefix.cells.entries in
    let seconds = c.loop-prefix.seconds.items in
    let to_come =
    subst (λ (to_come : Entries). AreToCome to_come cells c.args.cells.entries c.args.others.entries)
    (ap (λ (rest : Entries). seconds ++ rest) c.in_default.ensures.steps.0 ∙ append-nil seconds) c.loop-prefix.invariant in
    fact_from_extend {E = AllocError} (λ x. x) (Ok tt) c.in_ok-extend.ensures.ran
    (λ it gives. YieldsList-from_vec {s = it} seconds gives.0 (gives.1 ∙ c.loop-prefix.seconds.ok.0))
    (λ xs all inserts.
    inserts.0 prefix
    ∙ subst (λ xs. update_all (eq_by_cmp prefix_cmp) (cell_at cells) xs prefix
    ≡ update_all (eq_by_cmp prefix_cmp) (cell_at cells) seconds prefix) (sym (sym (map-id xs) ∙ all)) refl
    ∙ update_all_distinct (eq_by_cmp_equiv prefix_total) (eq_by_cmp prefix_cmp) (λ x y. refl) (cell_at cells)
    seconds prefix to_come.distinct
    ∙ to_come.joined prefix)
