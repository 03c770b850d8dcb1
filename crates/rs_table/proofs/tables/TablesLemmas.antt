-- The tables by cells, what each peer has, and what each client gets: for tables.rt, and MergeLemmas.
use Rattle.std.proofs.Common.{◌≡◌, ◌≢◌, ℕ, ◌+◌, ◌<◌, Bool, false, cond, ◌||◌, ◌==◌, List, [], ◌∷◌, length, get_or, Option, Some, None}
use Rattle.std.proofs.Common.{refl, sym, ap, subst, ◌∙◌, arith, inl, inr}
use Rattle.std.specs.List.{list_any}
use Rattle.std.specs.FinMap as fin
use Rattle.std.specs.Option.{option_map, option_map_or, is_some}
use Rattle.std.proofs.lemmas.Bool.{cases_Bool, cases_lt, eq-eqb}
use Rattle.std.proofs.lemmas.Bool.Decides.{eqb_tells}
use Rattle.std.proofs.lemmas.List.{get_or_past}
use Rattle.rs_types.specs.IpPrefix.{IpPrefix}
use Rattle.rs_types.specs.PrefixOrder.{same_prefix}
use Rattle.rs_change.specs.Change.{Change, ChangeBody, Announced, Withdrawn, Lost, Closed}
use Rattle.rs_choice.specs.Plan.{Plan}
use Rattle.rs_table.specs.Left.{RouteLeft, after, bears_on, drops_routes, reason_drops, body_route, body_drops, body_loses}
use Rattle.rs_table.specs.Left.{body_prefix, IsNewBody}
use Rattle.rs_table.specs.Content.{TablesContent, nothing_held, rib_of}
use Rattle.rs_table.specs.Listing.{is_held}
use Rattle.rs_table.specs.Listing as listing
use Rattle.rs_table.specs.Cells as cells
use Rattle.rs_table.specs.Table.{sent_by, route_from, best_of}
use Rattle.rs_choice.specs.Decision.{SentRoute}
use Rattle.rs_table.specs.ByPeer.{IsRow, route_at}
use Rattle.rs_table.specs.Cell.{CellContent, IsCellOn, stored_best}
use Rattle.rs_choice.specs.Acceptance.{accepted_among}
use Rattle.rs_choice.specs.Clients.{chosen_for}
use Rattle.rs_table.specs.Cells.{Entries, AreCells, cell_at, routes_at, routes_of, routes_from, changed_routes, changed_routes_body}
use Rattle.rs_table.specs.Cells.{ChangeTo}
use Rattle.rs_table.specs.TablesView.{ribs_from}
use Rattle.rs_table.proofs.PrefixLemmas.{prefix_total, prefix_cmp-IsAntisymmetric}
use Rattle.rs_table.proofs.LeftLemmas.{get-after}
use Rattle.rs_table.proofs.ValueLemmas.{either_way}
use Rattle.rs_table.proofs.cell.RowLemmas.{route_at-with, route_at-without}
use Rattle.rs_table.proofs.cell.HeldLemmas.{taken-accepted}
use Rattle.rs_table.proofs.cells.CellsLemmas.{each-at, get-routes_from, rib-at, rib-past, routes_on-cells, cell-IsCell}
use Rattle.rs_table.proofs.tables.StoredLemmas.{stored}
use Rattle.rs_table.proofs.listing.TableLemmas.{choice-nil}

-- ---- the tables of cells

module _ (plan : Plan) (entries : Entries) (closed : List Bool) where
  abbrev pub tables : TablesContent
  tables = record { plan = plan; ribs = ribs_from entries 0 closed }

  pub rib-of : (peer : ℕ) → peer < length closed → rib_of tables peer
      ≡ record { routes = routes_from entries peer; closed = get_or closed peer false }
  rib-of peer known =
      rib-at entries 0 closed peer known ∙ ap (λ n. record { routes = routes_from entries n; closed = get_or closed peer false })
      (omega arith)

  pub rib-closed : (peer : ℕ) → (rib_of tables peer).closed ≡ get_or closed peer false
  rib-closed peer =
      elim (cases_lt peer (length closed)) [
        | inl known ↦ ap (λ rib. rib.closed) (rib-of peer known)
        | inr past ↦ ap (λ rib. rib.closed) (rib-past entries 0 closed peer past) ∙ sym (get_or_past closed peer false past)
      ]

  module _ (peers : length closed ≡ length plan.peers) where
    pub route-from : (prefix : IpPrefix) (peer : ℕ) → peer < length plan.peers
        → route_from tables prefix peer ≡ option_map (sent_by peer) (route_at (routes_at entries prefix) peer)
    route-from prefix peer known =
        ap (λ rib. option_map (sent_by peer) (fin.get rib.routes prefix)) (rib-of peer (omega (arith, known, peers)))
        ∙ ap (option_map (sent_by peer)) (get-routes_from entries peer prefix)

    module _ (cells : AreCells plan entries) where
      row-at : (prefix : IpPrefix) → IsRow 0 (length plan.peers) (routes_at entries prefix)
      row-at prefix = by_cell (cell_at entries prefix) refl
        where
          by_cell : (o : Option CellContent) → cell_at entries prefix ≡ o → IsRow 0 (length plan.peers) (routes_of o)
          by_cell None e = tt
          by_cell (Some cell) e = (cell-IsCell plan entries prefix cell cells e).held.row

      pub best-of : (client : ℕ) (prefix : IpPrefix)
          → best_of tables client prefix ≡ chosen_for plan client (accepted_among plan prefix (routes_at entries prefix))
      best-of client prefix =
          ap (λ routes. chosen_for plan client (accepted_among plan prefix routes)) (routes_on-cells entries prefix closed
          (subst (λ n. IsRow 0 n (routes_at entries prefix)) (sym peers) (row-at prefix)))

      pub best-none : (client : ℕ) (prefix : IpPrefix) → cell_at entries prefix ≡ None → best_of tables client prefix ≡ None
      best-none client prefix none =
          best-of client prefix ∙ ap (λ cell. chosen_for plan client (accepted_among plan prefix (routes_of cell))) none ∙ choice-nil plan

      pub best-some : (client : ℕ) (prefix : IpPrefix) (cell : CellContent) → cell_at entries prefix ≡ Some cell
          → stored_best cell client ≡ best_of tables client prefix
      best-some client prefix cell found =
          let is = each-at (IsCellOn plan) entries prefix cell cells found in
          stored plan cell client is.is_cell
          ∙ ap (chosen_for plan client) (taken-accepted plan prefix cell.held is.taken)
          ∙ ap (λ cell. chosen_for plan client (accepted_among plan prefix (routes_of cell))) (sym found) ∙ sym (best-of client prefix)

-- ---- a change

-- what a peer's change makes of the routes on a prefix, peer by peer
abbrev changed_at : Change → IpPrefix → Option RouteLeft → Option RouteLeft
changed_at change q held = cond (drops_routes change) None (cond (bears_on q change) (body_route change.time change.body) held)

route_at-changed : (peer p : ℕ) (change : Change) (q : IpPrefix) (routes : List SentRoute) →
    route_at (changed_routes peer change q routes) p ≡ cond (peer == p) (changed_at change q (route_at routes p)) (route_at routes p)
route_at-changed peer p change q routes = by_body change.body
  where
    by_body : (body : ChangeBody) → route_at (changed_routes_body peer change.time body q routes) p
        ≡ cond (peer == p) (cond (body_drops body) None (cond (body_loses body || option_map_or (same_prefix q) (body_prefix body) false)
        (body_route change.time body) (route_at routes p))) (route_at routes p)
    by_body (Announced prefix attributes) =
        elim (cases_Bool (same_prefix q prefix)) [
          | inl here ↦ rw here (route_at-with routes (record { peer = peer; time = change.time; attributes = attributes }) p)
          | inr there ↦ rw there (either_way (peer == p) (route_at routes p))
        ]
    by_body (Withdrawn prefix) =
        elim (cases_Bool (same_prefix q prefix)) [
          | inl here ↦ rw here (route_at-without routes peer p)
          | inr there ↦ rw there (either_way (peer == p) (route_at routes p))
        ]
    by_body Lost = route_at-without routes peer p
    by_body (Closed reason) =
        elim (cases_Bool (reason_drops reason)) [
          | inl drops ↦ rw drops (route_at-without routes peer p)
          | inr keeps ↦ rw keeps (either_way (peer == p) (route_at routes p))
        ]

module _ (entries others : Entries) (peer : ℕ) (change : Change) (to : ChangeTo peer change entries others) where
  at_changed : (p : ℕ) (q : IpPrefix) → fin.get (routes_from others p) q
      ≡ cond (peer == p) (changed_at change q (fin.get (routes_from entries p) q)) (fin.get (routes_from entries p) q)
  at_changed p q =
      get-routes_from others p q
      ∙ ap (λ routes. route_at routes p) (to q)
      ∙ route_at-changed peer p change q (routes_at entries q)
      ∙ ap (λ held. cond (peer == p) (changed_at change q held) held) (sym (get-routes_from entries p q))

  pub routes-own : routes_from others peer ≡ after (routes_from entries peer) change
  routes-own =
      fin.same_map prefix_total prefix_cmp-IsAntisymmetric _ _
      (λ q. at_changed peer q
      ∙ ap (λ b. cond b (changed_at change q (fin.get (routes_from entries peer) q)) (fin.get (routes_from entries peer) q))
      (eq-eqb peer peer refl)
      ∙ sym (get-after (routes_from entries peer) change q))

  pub routes-other : (p : ℕ) → p ≢ peer → routes_from others p ≡ routes_from entries p
  routes-other p apart =
      fin.same_map prefix_total prefix_cmp-IsAntisymmetric _ _
      (λ q. at_changed p q ∙ elim (eqb_tells peer p) [ inl same ↦ absurd (apart (sym same.1)) | inr other ↦ rw other.0 refl ])

  -- the content of the other peers stays
  pub rib-other : (closed later : List Bool) → length later ≡ length closed → (other : ℕ) → other ≢ peer
      → get_or later other false ≡ get_or closed other false →
      get_or (ribs_from others 0 later) other nothing_held ≡ get_or (ribs_from entries 0 closed) other nothing_held
  rib-other closed later long other apart same =
      elim (cases_lt other (length closed)) [
        | inl known ↦
            rib-at others 0 later other (omega (arith, known, long))
            ∙ (λ i. record { routes = routes-other (0 + other) (λ e. apart (omega (arith, e))) i; closed = same i })
            ∙ sym (rib-at entries 0 closed other known)
        | inr past ↦ rib-past others 0 later other (omega (arith, past, long)) ∙ sym (rib-past entries 0 closed other past)
      ]

-- ---- a prefix that no peer has a route on

pub none_held : (entries : Entries) (prefix : IpPrefix) → cell_at entries prefix ≡ None → (first : ℕ) (closed : List Bool)
    → is_held (ribs_from entries first closed) prefix ≡ false
none_held entries prefix none first [] = refl
none_held entries prefix none first (c ∷ cs) =
    let here : fin.get (routes_from entries first) prefix ≡ None =
    get-routes_from entries first prefix ∙ ap (λ cell. route_at (routes_of cell) first) none in
    ap (λ o. is_some o || list_any (λ rib. fin.contains_key rib.routes prefix) (ribs_from entries (first + 1) cs)) here
    ∙ none_held entries prefix none (first + 1) cs

-- an announcement of a prefix without a cell is new to its peer, and the first there
pub first-new : (entries : Entries) (peer : ℕ) (body : ChangeBody) → cells.IsFirstOn entries body
    → IsNewBody (routes_from entries peer) body
first-new entries peer (Announced prefix attributes) none =
    get-routes_from entries peer prefix ∙ ap (λ cell. route_at (routes_of cell) peer) none
first-new entries peer (Withdrawn prefix) none = none
first-new entries peer Lost none = none
first-new entries peer (Closed reason) none = none

pub first-held : (entries : Entries) (closed : List Bool) (body : ChangeBody) → cells.IsFirstOn entries body
    → listing.IsFirstBody (ribs_from entries 0 closed) body
first-held entries closed (Announced prefix attributes) none = none_held entries prefix none 0 closed
first-held entries closed (Withdrawn prefix) none = none
first-held entries closed Lost none = none
first-held entries closed (Closed reason) none = none

-- the peer's own routes after its change
pub applied-routes : (plan : Plan) (entries others : Entries) (closed later : List Bool) (peer : ℕ) (change : Change)
    → ChangeTo peer change entries others →
    length later ≡ length closed → peer < length closed → (rib_of (tables plan others later) peer).routes
    ≡ after (rib_of (tables plan entries closed) peer).routes change
applied-routes plan entries others closed later peer change to long known =
    ap (λ rib. rib.routes) (rib-of plan others later peer (omega (arith, known, long)))
    ∙ routes-own entries others peer change to
    ∙ ap (λ rib. after rib.routes change) (sym (rib-of plan entries closed peer known))

-- before any change
pub empty-ribs : (entries : Entries) → entries ≡ [] → (closed : List Bool) → ((k : ℕ) → k < length closed → get_or closed k false ≡ false)
    → (peer : ℕ) → get_or (ribs_from entries 0 closed) peer nothing_held ≡ nothing_held
empty-ribs entries none closed open_all peer =
    elim (cases_lt peer (length closed)) [
      | inl known ↦ rib-at entries 0 closed peer known ∙ (λ i. record
          { routes = routes_from (none i) (0 + peer); closed = open_all peer known i })
      | inr past ↦ rib-past entries 0 closed peer past
    ]
