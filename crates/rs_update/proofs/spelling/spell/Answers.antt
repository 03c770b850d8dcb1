use Rattle.std.proofs.Common.{◌≡◌, ℕ, ◌+◌, ◌<◌, List, ◌++◌, Option, sym, ap, ◌∙◌, append_assoc, arith}
use Rattle.std.specs.Prelude.{option_and_then}
use Rattle.std.specs.Option.{option_map}
use Rattle.std.proofs.lemmas.List.{append-nil}
use Rattle.rs_update.specs.Found.{kept_of, kept_in, spelled_kept}
use Rattle.rs_types.specs.Gathered.{look}
use Rattle.rs_types.specs.Items.{item_of}
use Rattle.rs_types.specs.Parts.{AreOctets}
use Rattle.rs_types.specs.Section.{Item, items_of}
use Rattle.rs_update.proofs.found.FindLemmas.{spelled_from, spelled_from-step, spelled_from-end}
use Rattle.rs_types.proofs.section.SoundLemmas.{sound_section}
use Rattle.rs_types.proofs.section.LookLemmas.{there, found_short}
use Rattle.rs_update.proofs.spelling.spell.Goals as goal

pub push_kept-requires : goal.push_kept-requires
push_kept-requires c = λ x e.
    let items = items_of c.args.section.now in
    let fit : AreOctets c.args.section.now = λ place. omega (arith, c.type_inv.section place) in
    let below : c.loop-kind.kind < 256 = omega (arith, c.loop-kind-test.true, c.requires.are_found.end_fits) in
    let found = there c.loop-kind.kind items c.item_from.result x
    (c.item_from.ensures ∙ c.requires.are_found.at_place c.loop-kind.kind below) e in
    found_short items c.loop-kind.kind (item_of x) (sound_section c.args.section.now fit c.requires.faultless) found

pub loop-kind-preserved : goal.loop-kind-preserved
loop-kind-preserved c =
    let items = items_of c.args.section.now in
    let kind = c.loop-kind.kind in
    let out = c.loop-kind.out.items in
    let below : kind < 256 = omega (arith, c.loop-kind-test.true, c.requires.are_found.end_fits) in
    let found : option_map item_of c.item_from.result ≡ look kind items = c.item_from.ensures ∙ c.requires.are_found.at_place kind below in
    ap (λ (octets : List ℕ). octets ++ spelled_from items (kind + 1))
    (c.in_ok-push_kept.ensures ∙ ap (λ (one : Option Item). out ++ spelled_kept (option_and_then kept_of one)) found)
    ∙ append_assoc out (spelled_kept (kept_in items kind)) (spelled_from items (kind + 1))
    ∙ ap (λ (behind : List ℕ). out ++ behind) (sym (spelled_from-step items kind below))
    ∙ c.loop-kind.invariant

pub returns : goal.returns
returns c =
    let items = items_of c.args.section.now in
    let kind = c.loop-kind.kind in
    let out = c.loop-kind.out.items in
    let nothing = spelled_from-end items kind (omega (arith, c.loop-kind.auto.kind-end, c.requires.are_found.end_fits))
    (λ k above. c.requires.are_found.none_behind k (omega (arith, above, c.loop-kind-test.false))) in
    sym (append-nil out) ∙ ap (λ (behind : List ℕ). out ++ behind) (sym nothing) ∙ c.loop-kind.invariant
