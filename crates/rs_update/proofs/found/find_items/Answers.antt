use Rattle.std.proofs.Common.{◌∙◌, List, sym, ap, arith}
use Rattle.std.specs.Prelude.{is_some}
use Rattle.rs_types.specs.Gathered.{look}
use Rattle.rs_types.specs.Items.{split_of}
use Rattle.rs_types.specs.Section.{Item}
use Rattle.rs_update.proofs.found.FindLemmas.{finds_nothing, finds_one, found_all}
use Rattle.rs_types.proofs.section.ItemLemmas.{item_at-takes}
use Rattle.rs_update.proofs.found.find_items.Goals as goal

pub loop-front-init : goal.loop-front-init
loop-front-init c = rw c.requires.nowhere (finds_nothing c.args.section.now (λ place. omega (arith, c.type_inv.section place))
    (omega (arith, c.requires.short)))

pub loop-front-smaller : goal.loop-front-smaller
loop-front-smaller c = item_at-takes c.loop-front.rest.now (split_of c.in-Some.front) (sym c.in-Some.ensures)

pub loop-front-preserved : goal.loop-front-preserved
loop-front-preserved c =
    let end = c.end_with-end.ensures in
    let held = c.loop-front.invariant in
    rw c.from-kind.ensures (finds_one c.args.section.now c.loop-front.rest.now c.loop-front.places c.loop-front.end c.end_with-end.result
    (split_of c.in-Some.front) c.requires.faultless (omega (arith, c.requires.short)) (sym c.in-Some.ensures) end.before end.behind
    (end.fits held.end_fits) held)

pub returns : goal.returns
returns c =
    let so_far = c.loop-front.invariant in
    let all = found_all c.args.section.now c.loop-front.rest.now c.loop-front.places c.loop-front.end (sym c.in_default.ensures) so_far in
    record {
      at_each = λ kind below. (so_far.at_each kind below).0 ∙ ap (λ (items : List Item). is_some (look kind items)) all;
      at_place = λ kind below. (so_far.at_each kind below).1 ∙ ap (look kind) all;
      none_behind = λ kind behind. sym (ap (look kind) all) ∙ so_far.none_behind kind behind;
      end_fits = so_far.end_fits;
    }
