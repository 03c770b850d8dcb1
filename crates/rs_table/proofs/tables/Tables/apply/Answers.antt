use Rattle.std.proofs.Common.{◌≡◌, ◌<◌, ℕ, true, false, get_or, inl, inr, length, length-set, get_or-set_same, set, rules, arith, refl, sym}
use Rattle.std.proofs.Common.{ap, subst, ◌∙◌}
use Rattle.std.proofs.lemmas.Grind.{get_or_default_zero}
use Rattle.std.proofs.lemmas.List.{get_or-set_other}
use Rattle.rs_change.specs.Change.{Change, change_of}
use Rattle.rs_table.specs.declared.tables.Tables.TheInside.{Inside}
use Rattle.rs_table.specs.Cells.{Entries, AreKeptCells, ChangeTo}
use Rattle.rs_table.specs.Counts.{AreCounts, route_count}
use Rattle.rs_table.specs.Content.{TablesContent, rib_of}
use Rattle.rs_table.specs.TablesView.{ribs_from, tables_view, AreTables, TakeChanges}
use Rattle.rs_table.specs.Left.{Routes, after, BecomeBy, IsNewAnnouncement}
use Rattle.rs_table.specs.Listing.{IsFirstAnnouncement}
use Rattle.rs_table.proofs.LeftLemmas.{left_more}
use Rattle.rs_table.proofs.counts.CountLemmas.{counts-after}
use Rattle.rs_table.proofs.cells.CellsLemmas.{kept-cells, length-ribs}
use Rattle.rs_table.proofs.tables.TablesLemmas.{rib-of, rib-closed, rib-other, routes-other, first-new, first-held, applied-routes}
use Rattle.rs_table.proofs.tables.Tables.apply.Goals as goal

become : (before others : Routes) (change : Change) → others ≡ after before change → BecomeBy before change others
become before others change step changes unclosed is = left_more changes change unclosed ∙ ap (λ routes. after routes change) is ∙ sym step

pub returns-in_err-count-clause-succeeds : goal.returns-in_err-count-clause-succeeds
returns-in_err-count-clause-succeeds c =
    let inside = c.self.inside in
    let known : c.args.peer < length inside.closed.items =
    omega (arith, c.requires.known, c.self.invariant.peers, ap (λ tables. length tables.plan.peers) c.self.view_is) in
    let own = ap (λ rib. rib.routes) (sym (rib-of inside.plan.value inside.cells.entries inside.closed.items c.args.peer known))
    ∙ ap (λ tables. (rib_of tables c.args.peer).routes) c.self.view_is in
    let new : IsNewAnnouncement (rib_of c.args.self.now c.args.peer).routes (change_of c.args.word) =
    subst (λ routes. IsNewAnnouncement routes (change_of c.args.word)) own
    (first-new inside.cells.entries c.args.peer (change_of c.args.word).body c.in_err-count.ensures.first) in
    search rules

pub returns-in_err-count-clause-first : goal.returns-in_err-count-clause-first
returns-in_err-count-clause-first c =
    let inside = c.self.inside in
    let first : IsFirstAnnouncement c.args.self.now.ribs (change_of c.args.word) =
    subst (λ tables. IsFirstAnnouncement tables.ribs (change_of c.args.word)) c.self.view_is
    (first-held inside.cells.entries inside.closed.items (change_of c.args.word).body c.in_err-count.ensures.first) in
    search rules

pub returns-then-closes-clause-routes : goal.returns-then-closes-clause-routes
returns-then-closes-clause-routes c =
    let inside = c.self.inside in
    let known : c.args.peer < length inside.closed.items =
    omega (arith, c.requires.known, c.self.invariant.peers, ap (λ tables. length tables.plan.peers) c.self.view_is) in
    become _ _ (change_of c.args.word)
    (applied-routes inside.plan.value inside.cells.entries c.change_and_count.new.cells.entries inside.closed.items
    (set inside.closed.items c.args.peer true) c.args.peer (change_of c.args.word) c.in_ok-count.ensures.routes
    (length-set inside.closed.items c.args.peer true) known
    ∙ ap (λ tables. after (rib_of tables c.args.peer).routes (change_of c.args.word)) c.self.view_is)

pub returns-then-closes-clause-closed : goal.returns-then-closes-clause-closed
returns-then-closes-clause-closed c =
    let inside = c.self.inside in
    let known : c.args.peer < length inside.closed.items =
    omega (arith, c.requires.known, c.self.invariant.peers, ap (λ tables. length tables.plan.peers) c.self.view_is) in
    rib-closed inside.plan.value c.change_and_count.new.cells.entries (set inside.closed.items c.args.peer true) c.args.peer
    ∙ get_or-set_same inside.closed.items c.args.peer true false known
    ∙ sym c.if-closes.true ∙ c.closes-closes.ensures

pub returns-then-closes-clause-others : goal.returns-then-closes-clause-others
returns-then-closes-clause-others c = λ other apart.
    let inside = c.self.inside in
    rib-other inside.cells.entries c.change_and_count.new.cells.entries c.args.peer (change_of c.args.word)
    c.in_ok-count.ensures.routes inside.closed.items (set inside.closed.items c.args.peer true)
    (length-set inside.closed.items c.args.peer true) other apart
    (get_or-set_other inside.closed.items c.args.peer other true false apart)
    ∙ ap (λ tables. rib_of tables other) c.self.view_is

pub returns-then-closes-clause-count : goal.returns-then-closes-clause-count
returns-then-closes-clause-count c =
    let inside = c.self.inside in
    length-ribs c.change_and_count.new.cells.entries 0 (set inside.closed.items c.args.peer true)
    ∙ length-set inside.closed.items c.args.peer true
    ∙ sym (length-ribs inside.cells.entries 0 inside.closed.items)
    ∙ ap (λ tables. length tables.ribs) c.self.view_is

pub returns-else-closes-clause-routes : goal.returns-else-closes-clause-routes
returns-else-closes-clause-routes c =
    let inside = c.self.inside in
    let known : c.args.peer < length inside.closed.items =
    omega (arith, c.requires.known, c.self.invariant.peers, ap (λ tables. length tables.plan.peers) c.self.view_is) in
    become _ _ (change_of c.args.word)
    (applied-routes inside.plan.value inside.cells.entries c.change_and_count.new.cells.entries inside.closed.items inside.closed.items
    c.args.peer
    (change_of c.args.word) c.in_ok-count.ensures.routes refl known
    ∙ ap (λ tables. after (rib_of tables c.args.peer).routes (change_of c.args.word)) c.self.view_is)

pub returns-else-closes-clause-closed : goal.returns-else-closes-clause-closed
returns-else-closes-clause-closed c =
    let inside = c.self.inside in
    rib-closed inside.plan.value c.change_and_count.new.cells.entries inside.closed.items c.args.peer
    ∙ sym (rib-closed inside.plan.value inside.cells.entries inside.closed.items c.args.peer)
    ∙ ap (λ tables. (rib_of tables c.args.peer).closed) c.self.view_is
    ∙ c.requires.open ∙ sym c.if-closes.false ∙ c.closes-closes.ensures

pub returns-else-closes-clause-others : goal.returns-else-closes-clause-others
returns-else-closes-clause-others c = λ other apart.
    let inside = c.self.inside in
    rib-other inside.cells.entries c.change_and_count.new.cells.entries c.args.peer (change_of c.args.word)
    c.in_ok-count.ensures.routes inside.closed.items inside.closed.items refl other apart refl
    ∙ ap (λ tables. rib_of tables other) c.self.view_is

-- the session is open, so the tables take its change
takes-change : (inside : Inside) (held : TablesContent) → tables_view inside ≡ held → AreTables inside → (peer : ℕ)
    → peer < length held.plan.peers → (rib_of held peer).closed ≡ false
    → TakeChanges inside.plan.value inside.cells.entries inside.counts.items
takes-change inside held view is peer known is_open =
    let within : peer < length inside.closed.items = omega (arith, known, is.peers, ap (λ tables. length tables.plan.peers) view) in
    let here : get_or inside.closed.items peer false ≡ false =
    sym (rib-closed inside.plan.value inside.cells.entries inside.closed.items peer) ∙ ap (λ tables. (rib_of tables peer).closed) view
    ∙ is_open in
    elim is.open_or_not [
      | inl closed ↦ absurd (cc (sym here ∙ closed peer false within))
      | inr takes ↦ takes
    ]

-- they take changes after it
takes-more : (inside : Inside) (others : Entries) (peer count : ℕ) (change : Change)
    → TakeChanges inside.plan.value inside.cells.entries inside.counts.items → peer < length inside.plan.value.peers
    → ChangeTo peer change inside.cells.entries others → AreKeptCells true inside.plan.value others → count ≡ route_count others peer
    → TakeChanges inside.plan.value others (set inside.counts.items peer count)
takes-more inside others peer count change takes known to room is = record {
  room = room;
  counted = counts-after inside.cells.entries others (length inside.plan.value.peers) inside.counts.items peer count takes.counted known
      (routes-other inside.cells.entries others peer change to) is;
}

pub change_and_count-requires-clause-cells : goal.change_and_count-requires-clause-cells
change_and_count-requires-clause-cells c =
    subst (λ plan. AreKeptCells true plan c.self.inside.cells.entries) (sym c.deref.ensures)
    (takes-change c.self.inside c.args.self.now c.self.view_is c.self.invariant c.args.peer c.requires.known c.requires.open).room

pub change_and_count-requires-clause-count : goal.change_and_count-requires-clause-count
change_and_count-requires-clause-count c =
    let takes = takes-change c.self.inside c.args.self.now c.self.view_is c.self.invariant c.args.peer c.requires.known c.requires.open in
    let plans = ap (λ tables. length tables.plan.peers) c.self.view_is in
    c.index-before.ensures
    ∙ get_or_default_zero c.self.inside.counts.items c.args.peer c.index-before.result.now
    (omega (arith, c.requires.known, takes.counted.long, plans))
    ∙ takes.counted.each c.args.peer (omega (arith, c.requires.known, plans))

-- a number is counted for the peer
pub index-before-requires : goal.index-before-requires
index-before-requires c =
    let takes = takes-change c.self.inside c.args.self.now c.self.view_is c.self.invariant c.args.peer c.requires.known c.requires.open in
    omega (arith, c.requires.known, takes.counted.long, ap (λ tables. length tables.plan.peers) c.self.view_is)

pub index_mut-requires : goal.index_mut-requires
index_mut-requires c =
    let takes = takes-change c.self.inside c.args.self.now c.self.view_is c.self.invariant c.args.peer c.requires.known c.requires.open in
    omega (arith, c.requires.known, takes.counted.long, ap (λ tables. length tables.plan.peers) c.self.view_is)

pub invariant_of-self : goal.invariant_of-self
invariant_of-self c =
    let inside = c.self.inside in
    let others = c.change_and_count.new.cells.entries in
    let kept : AreKeptCells true inside.plan.value others =
    subst (λ plan. AreKeptCells true plan others) c.deref.ensures c.change_and_count.ensures.cells in
    let takes = takes-change inside c.args.self.now c.self.view_is c.self.invariant c.args.peer c.requires.known c.requires.open in
    record {
      peers = c.self.invariant.peers;
      cells = kept-cells true inside.plan.value others kept;
      open_or_not = inr (record {
        room = kept;
        counted = subst (λ (entries : Entries). AreCounts entries (length inside.plan.value.peers) inside.counts.items)
            (sym c.in_err-count.ensures.err) takes.counted;
      });
    }

pub invariant_of-self-else-closes : goal.invariant_of-self-else-closes
invariant_of-self-else-closes c =
    let inside = c.self.inside in
    let others = c.change_and_count.new.cells.entries in
    let kept : AreKeptCells true inside.plan.value others =
    subst (λ plan. AreKeptCells true plan others) c.deref.ensures c.change_and_count.ensures.cells in
    let takes = takes-change inside c.args.self.now c.self.view_is c.self.invariant c.args.peer c.requires.known c.requires.open in
    record {
      peers = c.self.invariant.peers;
      cells = kept-cells true inside.plan.value others kept;
      open_or_not = inr (takes-more inside others c.args.peer c.in_ok-count.count (change_of c.args.word) takes
          (omega (arith, c.requires.known, ap (λ tables. length tables.plan.peers) c.self.view_is))
          c.in_ok-count.ensures.routes kept c.in_ok-count.ensures.count);
    }

pub invariant_of-self-then-closes : goal.invariant_of-self-then-closes
invariant_of-self-then-closes c =
    let inside = c.self.inside in
    let others = c.change_and_count.new.cells.entries in
    let kept : AreKeptCells true inside.plan.value others =
    subst (λ plan. AreKeptCells true plan others) c.deref.ensures c.change_and_count.ensures.cells in
    let takes = takes-change inside c.args.self.now c.self.view_is c.self.invariant c.args.peer c.requires.known c.requires.open in
    record {
      peers = length-set c.self.inside.closed.items c.args.peer true ∙ c.self.invariant.peers;
      cells = kept-cells true inside.plan.value others kept;
      open_or_not = inr (takes-more inside others c.args.peer c.in_ok-count.count (change_of c.args.word) takes
          (omega (arith, c.requires.known, ap (λ tables. length tables.plan.peers) c.self.view_is))
          c.in_ok-count.ensures.routes kept c.in_ok-count.ensures.count);
    }

pub returns-in_err-count-clause-others : goal.returns-in_err-count-clause-others
returns-in_err-count-clause-others g c = search rules

pub change_and_count-requires-clause-known : goal.change_and_count-requires-clause-known
change_and_count-requires-clause-known c =
    omega (arith, c.requires.known, ap (λ plan. length plan.peers) c.deref.ensures, ap (λ tables. length tables.plan.peers) c.self.view_is)

pub index_mut-requires-then-closes : goal.index_mut-requires-then-closes
index_mut-requires-then-closes c =
    omega (arith, c.requires.known, c.self.invariant.peers, ap (λ tables. length tables.plan.peers) c.self.view_is)

pub returns-then-closes-clause-plan : goal.returns-then-closes-clause-plan
returns-then-closes-clause-plan c = ap (λ tables. tables.plan) c.self.view_is

pub returns-else-closes-clause-plan : goal.returns-else-closes-clause-plan
returns-else-closes-clause-plan c = ap (λ tables. tables.plan) c.self.view_is

pub returns-in_err-count-clause-plan : goal.returns-in_err-count-clause-plan
returns-in_err-count-clause-plan c = ap (λ tables. tables.plan) c.self.view_is

pub returns-else-closes-clause-count : goal.returns-else-closes-clause-count
returns-else-closes-clause-count c =
    let inside = c.self.inside in
    length-ribs c.change_and_count.new.cells.entries 0 inside.closed.items
    ∙ sym (length-ribs inside.cells.entries 0 inside.closed.items)
    ∙ ap (λ tables. length tables.ribs) c.self.view_is

pub returns-in_err-count-clause-count : goal.returns-in_err-count-clause-count
returns-in_err-count-clause-count c =
    let inside = c.self.inside in
    length-ribs c.change_and_count.new.cells.entries 0 inside.closed.items
    ∙ sym (length-ribs inside.cells.entries 0 inside.closed.items)
    ∙ ap (λ tables. length tables.ribs) c.self.view_is

pub returns-in_err-count-clause-err : goal.returns-in_err-count-clause-err
returns-in_err-count-clause-err c =
    let inside = c.self.inside in
    let view : Entries → TablesContent =
    λ entries. record { plan = inside.plan.value; ribs = ribs_from entries 0 inside.closed.items } in
    let same : view c.change_and_count.new.cells.entries ≡ c.args.self.now = ap view c.in_err-count.ensures.err ∙ c.self.view_is in
    search rules
