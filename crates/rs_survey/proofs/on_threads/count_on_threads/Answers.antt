-- What each thread counted is added, one part after another.
use Rattle.std.proofs.Common.{◌≡◌, ◌<◌, ◌∙◌, ◌+◌, ◌/◌, ◌%◌, ◌∷◌, [], sym, ap, subst, arith, All, List, length, length-append, map, get_or}
use Rattle.std.proofs.Common.{drop, min, take}
use Rattle.std.specs.Fork.{slice_chunk}
use Rattle.std.specs.Prelude.{IfOk}
use Rattle.std.proofs.lemmas.Iterator.Adapters.{YieldsList-from_vec}
use Rattle.std.proofs.lemmas.Iterator.Consumers.{YieldsList-turn, YieldsList-end}
use Rattle.std.proofs.lemmas.List.Elements.{All-drop, All-take}
use Rattle.std.proofs.lemmas.Result.{IfOk-at_ok}
use Rattle.rs_update.specs.IpPrefix.{IpPrefix}
use Rattle.rs_table.specs.declared.prefix_routes.PrefixRoutes.{PrefixRoutes}
use Rattle.rs_table.specs.PrefixRoutes.{AreRoutesOf, entry_of}
use Rattle.rs_survey.specs.Counted.{CountsOn}
use Rattle.rs_survey.proofs.JoinLemmas.{counts_all_parts, counts_no_part, counts_part_more}
use Rattle.rs_survey.proofs.on_threads.count_on_threads.Goals as goal

pub map_chunks-requires-clause-accepts : goal.map_chunks-requires-clause-accepts
map_chunks-requires-clause-accepts g c lifetimes outlives start part is =
    let are : PrefixRoutes → Type 0 = λ on. AreRoutesOf c.args.tables.now (entry_of on) in
    let size = c.max-quarter.result in
    let here : All are (take size (drop start c.deref.result.now)) =
    All-take are size (drop start c.deref.result.now) (All-drop are start c.deref.result.now
    (subst (All are) (sym c.deref.ensures.value) c.in_ok-all.ensures.routes)) in
    (c.requires, subst (All are) (sym is.value) here)

pub loop-part-init : goal.loop-part-init
loop-part-init g c =
    counts_no_part c.args.tables.now c.args.what c.max-quarter.result c.in_ok-all.all.items c.in_ok-tally.tally
    (c.in_ok-tally.ensures.peers ∙ c.count.ensures.peers) c.in_ok-tally.ensures.none

pub loop-part-preserved : goal.loop-part-preserved
loop-part-preserved g c =
    let tables = c.args.tables.now in
    let size = c.max-quarter.result in
    let parts = c.in_ok-parts.parts.items in
    let count = length c.loop-part.yielded in
    let gives = c.into_iter-part-iterator.ensures.into_iter_gives in
    let yields = YieldsList-from_vec parts gives.0 (gives.1 ∙ c.in_ok-parts.parts.ok.0) in
    let t = YieldsList-turn yields c.loop-part.yielded c.loop-part.part-iterator c.loop-part.yielded_by c.next.result c.next.new.self
    c.in-Some.part c.in-Some.is c.next.ensures.steps in
    let given = (c.in_ok-parts.ensures.each count c.in-Some.part t.0).1 in
    let here : given.argument.now ≡ slice_chunk c.in_ok-all.all.items size count =
    given.argument_is.value ∙ ap (λ (all : List PrefixRoutes). slice_chunk all size count) c.deref.ensures.value in
    let says : IfOk (get_or parts count c.in-Some.part) (CountsOn tables c.args.what (map (λ on. on.prefix) given.argument.now)) =
    given.call in
    let counted = IfOk-at_ok _ (sym t.1 ∙ c.in_ok-part.was) says in
    rw (length-append c.loop-part.yielded (c.in-Some.part ∷ [])) (counts_part_more tables c.args.what size c.in_ok-all.all.items count
    given.argument.now c.loop-part.tally c.in_ok-part.field-0 c.add_all.new.self here c.loop-part.invariant counted c.add_all.ensures)

pub add_all-requires : goal.add_all-requires
add_all-requires g c =
    let parts = c.in_ok-parts.parts.items in
    let count = length c.loop-part.yielded in
    let gives = c.into_iter-part-iterator.ensures.into_iter_gives in
    let yields = YieldsList-from_vec parts gives.0 (gives.1 ∙ c.in_ok-parts.parts.ok.0) in
    let t = YieldsList-turn yields c.loop-part.yielded c.loop-part.part-iterator c.loop-part.yielded_by c.next.result c.next.new.self
    c.in-Some.part c.in-Some.is c.next.ensures.steps in
    let given = (c.in_ok-parts.ensures.each count c.in-Some.part t.0).1 in
    let says : IfOk (get_or parts count c.in-Some.part) (CountsOn c.args.tables.now c.args.what
    (map (λ on. on.prefix) given.argument.now)) = given.call in
    let counted = IfOk-at_ok _ (sym t.1 ∙ c.in_ok-part.was) says in
    counted.peers ∙ sym c.loop-part.invariant.peers

pub returns : goal.returns
returns g c =
    let tables = c.args.tables.now in
    let size = c.max-quarter.result in
    let parts = c.in_ok-parts.parts.items in
    let all = c.in_ok-all.all.items in
    let gives = c.into_iter-part-iterator.ensures.into_iter_gives in
    let yields = YieldsList-from_vec parts gives.0 (gives.1 ∙ c.in_ok-parts.parts.ok.0) in
    let t = YieldsList-end yields c.loop-part.yielded c.loop-part.part-iterator c.loop-part.yielded_by c.next.result c.next.new.self
    c.in-None.is c.next.ensures.steps in
    let some : 0 < size = omega (arith, c.max-quarter.ensures) in
    let as_many = t.1 ∙ sym c.in_ok-parts.parts.ok.0 ∙ c.in_ok-parts.ensures.len ∙
    ap (λ (all : List PrefixRoutes). length all / size + min 1 (length all % size)) c.deref.ensures.value in
    subst (λ (prefixes : List IpPrefix). CountsOn tables c.args.what prefixes c.loop-part.tally) c.in_ok-all.ensures.prefixes
    (counts_all_parts tables c.args.what size all (length c.loop-part.yielded) c.loop-part.tally some as_many c.loop-part.invariant)
