-- The first change that is left comes to the routes so far.
use Rattle.std.proofs.Common.{◌≡◌, ◌∙◌, ◌∷◌, [], List, All, Some, cond, length, map, ap, sym, subst, arith, rules}
use Rattle.std.specs.Prelude.{slice_get}
use Rattle.std.specs.List.Sorted.{IsStrictlySortedBy}
use Rattle.std.proofs.lemmas.List.Elements.{All-head, All-nil, All-tail, All-weaker}
use Rattle.rs_choice.specs.Held.{sent_of_held, AreTakenBy, IsJudged, IsTakenBy}
use Rattle.rs_choice.specs.declared.held_route.HeldRoute.{HeldRoute}
use Rattle.rs_table.specs.declared.settling.Making.{Making}
use Rattle.rs_table.specs.ByPeer.{IsRow, route_at}
use Rattle.rs_table.specs.Cells.{AreKeptCells, Entries, routes_at}
use Rattle.rs_table.specs.Gathered.{entry_route, left_over, logged_cmp, IsAnnounced}
use Rattle.rs_table.specs.Logged.{Logged}
use Rattle.rs_table.specs.Making.{routes_so_far, IsBefore, IsNext}
use Rattle.rs_table.proofs.log.ListLemmas.{left-cons}
use Rattle.rs_table.proofs.settling.MakingLemmas.{all-next, current-counts, none-yet, sorted-head, sorted-tail}
use Rattle.rs_table.proofs.settling.SettlingLemmas.{known-current}
use Rattle.rs_table.proofs.settling.cells_of.Goals as goal

pub loop-entry-init : goal.loop-entry-init
loop-entry-init c =
    let plan = c.args.plan.now in
    let losses = c.args.losses.now in
    let making : Making = record { cells = c.new-2.result; prefix = c.prefix.result; held = c.in_ok-with_capacity.field-0 } in
    let entries = c.compact.new.entries.items in
    let gives : c.new-ahead.result.rest.items ≡ entries = c.new-ahead.ensures in
    let first_is : slice_get entries 0 ≡ Some c.in-Some.first.now = search rules in
    let empty : map sent_of_held making.held.items ≡ [] =
    ap (λ (held : List HeldRoute). map sent_of_held held) c.in_ok-with_capacity.ensures.items in
    record {
      making = record {
        held = record {
          row = subst (IsRow 0 (length plan.peers)) (sym empty) tt;
          judged = subst (All (IsJudged plan)) (sym c.in_ok-with_capacity.ensures.items) (All-nil (IsJudged plan));
        };
        taken = subst (AreTakenBy plan making.prefix) (sym c.in_ok-with_capacity.ensures.items) (All-nil (IsTakenBy plan making.prefix));
        cells = subst (AreKeptCells c.args.keeps_room plan) (sym c.new-2.ensures.empty) tt;
        none = λ q not_less. ap (λ (entries : Entries). routes_at entries q) c.new-2.ensures.empty;
      };
      next = subst (All (IsNext making)) (sym gives) (all-next making entries c.in-Some.first.now first_is c.in_ok-compact.ensures.ascending
          c.prefix.ensures empty);
      sorted = subst (IsStrictlySortedBy logged_cmp) (sym gives) c.in_ok-compact.ensures.ascending;
      announced = subst (All (IsAnnounced losses)) (sym gives) c.in_ok-compact.ensures.announced;
      routes = λ peer q.
          ap (λ (list : List Logged). left_over losses list peer q (route_at (routes_so_far making q) peer)) gives
          ∙ ap (λ routes. left_over losses entries peer q (route_at routes peer)) (none-yet making q empty c.new-2.ensures.empty)
          ∙ c.in_ok-compact.ensures.left peer q;
    }

pub add-requires-clause-next : goal.add-requires-clause-next
add-requires-clause-next c =
    All-head (IsNext c.loop-entry.making) c.in-Some-next.entry c.next.new.self.rest.items
    (subst (All (IsNext c.loop-entry.making)) c.in-Some-next.ensures c.loop-entry.invariant.next)

pub add-requires-clause-known : goal.add-requires-clause-known
add-requires-clause-known c =
    let losses = c.args.losses.now in
    let announced : IsAnnounced losses c.in-Some-next.entry =
    All-head (IsAnnounced losses) c.in-Some-next.entry c.next.new.self.rest.items
    (subst (All (IsAnnounced losses)) c.in-Some-next.ensures c.loop-entry.invariant.announced) in
    omega (arith, known-current losses c.in-Some-next.entry announced.0, c.requires)

pub add-requires-clause-making : goal.add-requires-clause-making
add-requires-clause-making c = c.loop-entry.invariant.making

pub add-requires-clause-announced : goal.add-requires-clause-announced
add-requires-clause-announced c =
    let losses = c.args.losses.now in
    let announced : IsAnnounced losses c.in-Some-next.entry =
    All-head (IsAnnounced losses) c.in-Some-next.entry c.next.new.self.rest.items
    (subst (All (IsAnnounced losses)) c.in-Some-next.ensures c.loop-entry.invariant.announced) in
    announced.1

pub close-requires : goal.close-requires
close-requires c = c.loop-entry.invariant.making

pub loop-entry-smaller : goal.loop-entry-smaller
loop-entry-smaller c = omega (arith, ap length c.in-Some-next.ensures)

pub loop-entry-preserved : goal.loop-entry-preserved
loop-entry-preserved c =
    let losses = c.args.losses.now in
    let entry = c.in-Some-next.entry in
    let rest = c.next.new.self.rest.items in
    let before = c.loop-entry.making in
    let steps : c.loop-entry.ahead.rest.items ≡ entry ∷ rest = c.in-Some-next.ensures in
    let sorted : IsStrictlySortedBy logged_cmp (entry ∷ rest) = subst (IsStrictlySortedBy logged_cmp) steps c.loop-entry.invariant.sorted in
    let announced : All (IsAnnounced losses) (entry ∷ rest) = subst (All (IsAnnounced losses)) steps c.loop-entry.invariant.announced in
    record {
      making = c.in_ok-add.ensures.making;
      next = All-weaker (IsBefore entry) (IsNext c.add.new.self) c.in_ok-add.ensures.next rest (sorted-head entry rest sorted);
      sorted = sorted-tail entry rest sorted;
      announced = All-tail (IsAnnounced losses) entry rest announced;
      routes = λ peer q.
          let was = route_at (routes_so_far before q) peer in
          ap (left_over losses rest peer q)
          (c.in_ok-add.ensures.routes peer q
          ∙ ap (λ b. cond b (entry_route entry) was) (current-counts losses peer q entry
          (All-head (IsAnnounced losses) entry rest announced).0))
          ∙ sym (left-cons losses peer q entry rest was)
          ∙ ap (λ (list : List Logged). left_over losses list peer q was) (sym steps)
          ∙ c.loop-entry.invariant.routes peer q;
    }

pub returns-clause-cells : goal.returns-clause-cells
returns-clause-cells c = c.in_ok-close.ensures.cells

pub returns-clause-routes : goal.returns-clause-routes
returns-clause-routes c = λ peer q.
    let so_far = route_at (routes_so_far c.loop-entry.making q) peer in
    ap (λ routes. route_at routes peer) (c.in_ok-close.ensures.routes q)
    ∙ ap (λ (list : List Logged). left_over c.args.losses.now list peer q so_far) (sym c.in_default-next.ensures)
    ∙ c.loop-entry.invariant.routes peer q
