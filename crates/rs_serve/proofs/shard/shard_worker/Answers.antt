-- Nothing was received at first.
use Rattle.std.proofs.Common.{◌≡◌, ◌∙◌, ◌++◌, ◌∷◌, [], sym, subst, refl, true, false, List, rules}
use Rattle.std.specs.Prelude.{IfSome}
use Rattle.rs_ring.specs.Items.{has_close}
use Rattle.rs_router.specs.RoutedItems.{is_last}
use Rattle.rs_router.specs.Routing.{EndsLast}
use Rattle.rs_router.specs.declared.routed.Routed.{Routed}
use Rattle.rs_router.specs.declared.routed.Routed.TheVariants as routed
use Rattle.rs_table.proofs.RibLemmas.{any-one_more}
use Rattle.rs_serve.specs.Held.{HoldReceived}
use Rattle.rs_serve.proofs.TakingLemmas.{held-nothing}
use Rattle.rs_serve.proofs.shard.shard_worker.Goals as goal

pub loop-init : goal.loop-init
loop-init g c =
    let Held : List Routed → Type 0 = λ items. HoldReceived c.args.tables items c.args.tables in
    let Ended : List Routed → Type 0 = λ items. has_close is_last items ≡ true → EndsLast items in
    record {
      next = tt;
      finite = tt;
      ring = refl;
      gathered = subst Held (sym c.requires.unreceived) (held-nothing c.args.tables c.args.tables refl refl c.requires.new);
      ended = subst Ended (sym c.requires.unreceived) (λ e. absurd cc);
    }

pub loop-init-derived : goal.loop-init-derived
loop-init-derived g c = search rules

-- once an item closes the ring, it is the last one
ends-more : (items : List Routed) (item : Routed) → has_close is_last items ≡ false → has_close is_last (items ++ item ∷ []) ≡ true
    → EndsLast (items ++ item ∷ [])
ends-more items (routed.Word peer word) open_yet closed =
    absurd (cc (sym (any-one_more is_last items (routed.Word peer word) open_yet) ∙ closed))
ends-more items routed.Last open_yet closed = record { earlier = items; is = refl; until_then = open_yet }

pub loop-preserved : goal.loop-preserved
loop-preserved g c =
    let Held : List Routed → Type 0 = λ items. IfSome c.after_item-gathered.result (HoldReceived c.args.tables items) in
    let Ended : List Routed → Type 0 = λ items. has_close is_last items ≡ true → EndsLast items in
    record {
      next = search rules;
      finite = search rules;
      ring = search rules;
      gathered = subst Held (sym c.next_item-number.ensures.received)
          (c.after_item-gathered.ensures c.args.tables c.loop.from.received c.loop.invariant.gathered);
      ended = subst Ended (sym c.next_item-number.ensures.received)
          (ends-more c.loop.from.received c.next_item-number.result.item c.next_item-number.ensures.open);
    }

pub loop-preserved-derived : goal.loop-preserved-derived
loop-preserved-derived g c = search rules

pub loop-smaller : goal.loop-smaller
loop-smaller g c = search rules

pub returns-then-closed-clause-ended : goal.returns-then-closed-clause-ended
returns-then-closed-clause-ended g c = search rules

pub returns-then-closed-clause-ring : goal.returns-then-closed-clause-ring
returns-then-closed-clause-ring g c = search rules

pub returns-then-closed-clause-tables : goal.returns-then-closed-clause-tables
returns-then-closed-clause-tables g c = search rules
