-- Each step leaves what counts of the step before.
use Rattle.std.proofs.Common.{rules}
use Rattle.std.proofs.lemmas.Fn.{filter_same, dedup_same}
use Rattle.std.proofs.lemmas.List.Sorted.{answers_always}
use Rattle.rs_table.specs.Gathered.{IsEntryOf, announces, is_current}
use Rattle.rs_table.proofs.log.CompactLemmas.{all-announced, ascending, compacted, kept, lower, lower-orders, same_key}
use Rattle.rs_table.proofs.log.CompactLemmas.{same_key-tells}
use Rattle.rs_table.proofs.log.compact.Goals as goal

pub returns-clause-left : goal.returns-clause-left
returns-clause-left c = λ peer prefix.
    let losses = c.args.losses.now in
    compacted losses _ _ _ _ _ _
    (filter_same _ (is_current losses) _ (λ x b f' k. search rules) _ _ c.retain.ensures.filtered)
    c.reverse.ensures.items
    c.sort_by.ensures.permutation
    same_key same_key-tells
    (dedup_same _ same_key _ (λ x y b f' x' y' k. search rules) _ _ c.dedup_by_key.ensures.filtered)
    (filter_same _ announces _ (λ x b f' k. search rules) _ _ c.retain-2.ensures.filtered)
    (c.sort_by.ensures.stable lower lower-orders (answers_always _ _ _ (λ f a r g h. search rules)))
    (c.in_ok-sort_by.ensures.sorted lower lower-orders (answers_always _ _ _ (λ f a r g h. search rules)))
    peer prefix

pub returns-clause-entries : goal.returns-clause-entries
returns-clause-entries c = λ octet all.
    let losses = c.args.losses.now in
    kept losses _ _ _ _ _ _
    (filter_same _ (is_current losses) _ (λ x b f' k. search rules) _ _ c.retain.ensures.filtered)
    c.reverse.ensures.items
    c.sort_by.ensures.permutation
    same_key same_key-tells
    (dedup_same _ same_key _ (λ x y b f' x' y' k. search rules) _ _ c.dedup_by_key.ensures.filtered)
    (filter_same _ announces _ (λ x b f' k. search rules) _ _ c.retain-2.ensures.filtered)
    (IsEntryOf losses octet) all

pub returns-clause-ascending : goal.returns-clause-ascending
returns-clause-ascending c =
    let losses = c.args.losses.now in
    ascending losses _ _ _ _ _ _
    (filter_same _ (is_current losses) _ (λ x b f' k. search rules) _ _ c.retain.ensures.filtered)
    c.reverse.ensures.items
    c.sort_by.ensures.permutation
    same_key same_key-tells
    (dedup_same _ same_key _ (λ x y b f' x' y' k. search rules) _ _ c.dedup_by_key.ensures.filtered)
    (filter_same _ announces _ (λ x b f' k. search rules) _ _ c.retain-2.ensures.filtered)
    (c.in_ok-sort_by.ensures.sorted lower lower-orders (answers_always _ _ _ (λ f a r g h. search rules)))

pub returns-clause-announced : goal.returns-clause-announced
returns-clause-announced c =
    let losses = c.args.losses.now in
    all-announced losses _ _ _ _ _ _
    (filter_same _ (is_current losses) _ (λ x b f' k. search rules) _ _ c.retain.ensures.filtered)
    c.reverse.ensures.items
    c.sort_by.ensures.permutation
    same_key same_key-tells
    (dedup_same _ same_key _ (λ x y b f' x' y' k. search rules) _ _ c.dedup_by_key.ensures.filtered)
    (filter_same _ announces _ (λ x b f' k. search rules) _ _ c.retain-2.ensures.filtered)
