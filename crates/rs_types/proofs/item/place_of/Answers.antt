use Rattle.std.proofs.Common.{◌∙◌, sym, ap, arith, refl, List, ℕ, [], ◌++◌, append_assoc}
use Rattle.rs_types.specs.Items.{split_of}
use Rattle.rs_types.specs.Spelling.{spelled_item}
use Rattle.rs_types.proofs.section.ItemLemmas.{item_at-takes}
use Rattle.rs_types.proofs.section.PlaceLemmas.{item_from-found, item_from-none, look-past}
use Rattle.rs_types.proofs.section.ReceivedLemmas.{item_at-reads}
use Rattle.rs_types.proofs.item.place_of.Goals as goal
use Rattle.rs_types.proofs.item.place_of.Goals.{in-Some+then-front-kind, in_default}

pub loop-front-init : goal.loop-front-init
loop-front-init c = (omega arith, [], refl, λ place. omega (arith, c.type_inv.section place), refl)

pub loop-front-smaller : goal.loop-front-smaller
loop-front-smaller c = item_at-takes c.loop-front.rest.now (split_of c.in-Some.front) (sym c.in-Some.ensures)

pub loop-front-preserved : goal.loop-front-preserved
loop-front-preserved c =
    let held = c.loop-front.invariant in
    let rest = c.loop-front.rest.now in
    let split = split_of c.in-Some.front in
    let there = sym c.in-Some.ensures in
    let reads = item_at-reads rest split held.3 there in
    let front = spelled_item split.0 in (
      omega (arith, held.0, item_at-takes rest split there),
      held.1 ++ front,
      held.2 ∙ ap (λ (octets : List ℕ). held.1 ++ octets) (sym reads.0) ∙ sym (append_assoc held.1 front split.1),
      reads.1,
      sym (look-past c.args.kind rest split there c.if-front-kind.false) ∙ held.4,
    )

pub returns : goal.returns
returns c =
    let held = c.loop-front.invariant in
    elim c.match-split_item.branch [
      | in-Some+then-front-kind w ↦ item_from-found held.1 c.args.section.now c.loop-front.rest.now c.args.kind held.2 held.4
          (split_of w.in-Some.front) (sym w.in-Some.ensures) w.if-front-kind.true
      | in_default w ↦ item_from-none held.1 c.args.section.now c.loop-front.rest.now c.args.kind held.2 held.4 (sym w.in_default.ensures)
    ]
