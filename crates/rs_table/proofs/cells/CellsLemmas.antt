-- The cells of all prefixes, and the peers' routes in them: for `announce` and `withdraw` of cells.rt, tables.rt, `iter_rows` of
-- listing.rt, and MergeLemmas.
use Rattle.std.proofs.Common.{◌≡◌, ℕ, zero, suc, ◌+◌, ◌<◌, ◌≤◌, Bool, true, false, cond, List, [], ◌∷◌, length, map, get_or, Option, Some}
use Rattle.std.proofs.Common.{None, refl, sym, ap, subst, ◌∙◌, arith, inl, inr}
use Rattle.std.specs.List.{AllByRecursion, filter_map, cons_option, enumerate_from, list_any}
use Rattle.std.specs.Map.{remove_entry, set_value}
use Rattle.std.specs.BTreeMap.{BTreeMap, Updates, insert_entry, is_at}
use Rattle.std.specs.Cmp.{eq_by_cmp_equiv}
use Rattle.std.specs.FinMap as fin
use Rattle.std.specs.Option.{option_map}
use Rattle.std.specs.Ordering.{match_ordering}
use Rattle.std.specs.declared.cmp.Ordering.{Ordering}
use Rattle.std.specs.declared.cmp.Ordering.TheVariants.{Less, Equal, Greater}
use Rattle.std.proofs.lemmas.Bool.{cases_Bool}
use Rattle.std.proofs.lemmas.Bool.Decides.{eqb_tells}
use Rattle.std.proofs.lemmas.Map.Made.{is_some-lookup}
use Rattle.std.proofs.lemmas.List.{get_or_past}
use Rattle.rs_types.specs.IpPrefix.{IpPrefix}
use Rattle.rs_types.specs.PrefixOrder.{prefix_cmp, same_prefix}
use Rattle.rs_choice.specs.Plan.{Plan}
use Rattle.rs_table.specs.Left.{Routes}
use Rattle.rs_table.specs.Content.{nothing_held}
use Rattle.rs_table.specs.Table.{sent_by, routes_on}
use Rattle.rs_choice.specs.Decision.{SentRoute}
use Rattle.rs_table.specs.ByPeer.{IsRow, route_at}
use Rattle.rs_table.specs.Cell.{CellContent, IsCell, IsCellOn, IsKeptCellOn}
use Rattle.rs_table.specs.Cells.{Entries, AreCells, AreKeptCells, cell_at, routes_at, routes_of, routes_from}
use Rattle.rs_table.specs.TablesView.{ribs_by, ribs_from}
use Rattle.rs_table.proofs.PrefixLemmas.{prefix_total, same_prefix-true, find-entries}
use Rattle.rs_table.proofs.ValueLemmas.{absent}
use Rattle.rs_table.proofs.cell.RowLemmas.{route_at-before}

-- ---- the cells of a plan stay so

remove-set : (test : IpPrefix → Bool) (entries : Entries) (w : CellContent)
    → remove_entry test (set_value test entries w) ≡ remove_entry test entries
remove-set test [] w = refl
remove-set test (e ∷ es) w =
    elim (cases_Bool (test e.0)) [
      | inl here ↦ rw (here, here) refl
      | inr there ↦ rw (there, there) (ap (λ rest. e ∷ rest) (remove-set test es w))
    ]

-- all cells of some entries have a property
abbrev pub Each : (IpPrefix → CellContent → Type 0) → Entries → Type 0
Each P entries = AllByRecursion (λ (entry : IpPrefix × CellContent). P entry.0 entry.1) entries

pub each-weaker : (P Q : IpPrefix → CellContent → Type 0) → ((prefix : IpPrefix) (cell : CellContent) → P prefix cell → Q prefix cell)
    → (entries : Entries) → Each P entries → Each Q entries
each-weaker P Q weaker [] all = tt
each-weaker P Q weaker (e ∷ es) all = (weaker e.0 e.1 all.0, each-weaker P Q weaker es all.1)

module _ (P : IpPrefix → CellContent → Type 0) where
  pub each-at : (entries : Entries) (prefix : IpPrefix) (cell : CellContent) → Each P entries → cell_at entries prefix ≡ Some cell
      → P prefix cell
  each-at [] prefix cell all is = absurd (cc is)
  each-at (e ∷ es) prefix cell all is =
      elim (cases_Bool (is_at (prefix_cmp prefix) e.0)) [
        | inl here ↦
            let same : e.1 ≡ cell = cc (rw here at is) in
            subst (λ q. P q cell) (sym (same_prefix-true prefix e.0 here)) (subst (P e.0) same all.0)
        | inr there ↦ each-at es prefix cell all.1 (rw there at is)
      ]

  pub each-set : (prefix : IpPrefix) (entries : Entries) (cell : CellContent) → Each P entries → P prefix cell
      → Each P (set_value (is_at (prefix_cmp prefix)) entries cell)
  each-set prefix [] cell all one = tt
  each-set prefix (e ∷ es) cell all one =
      elim (cases_Bool (is_at (prefix_cmp prefix) e.0)) [
        | inl here ↦ rw here (subst (λ q. P q cell) (same_prefix-true prefix e.0 here) one, all.1)
        | inr there ↦ rw there (all.0, each-set prefix es cell all.1 one)
      ]

  pub each-insert : (entries : Entries) (prefix : IpPrefix) (cell : CellContent) → Each P entries → P prefix cell
      → Each P (insert_entry prefix_cmp entries prefix cell)
  each-insert [] prefix cell all one = (one, tt)
  each-insert (e ∷ es) prefix cell all one =
      by_order (each-insert es prefix cell all.1 one) (prefix_cmp prefix e.0) refl
    where
      by_order : Each P (insert_entry prefix_cmp es prefix cell) → (o : Ordering) → prefix_cmp prefix e.0 ≡ o → Each P (match_ordering o ((prefix, cell) ∷ e ∷ es) ((e.0, cell) ∷ es)
          (e ∷ insert_entry prefix_cmp es prefix cell))
      by_order later Less is = (one, (all.0, all.1))
      by_order later Equal is =
          let here : same_prefix prefix e.0 ≡ true = rw is refl in
          (subst (λ q. P q cell) (same_prefix-true prefix e.0 here) one, all.1)
      by_order later Greater is = (all.0, later)

  each-remove : (test : IpPrefix → Bool) (entries : Entries) → Each P entries → Each P (remove_entry test entries)
  each-remove test [] all = tt
  each-remove test (e ∷ es) all =
      elim (test e.0) as (λ b. Each P (cond b es (e ∷ remove_entry test es))) [
        | true ↦ all.1
        | false ↦ (all.0, each-remove test es all.1)
      ]

  -- a cell is written and then removed
  pub each-removed : (test : IpPrefix → Bool) (entries : Entries) (w : CellContent) → Each P entries
      → Each P (remove_entry test (set_value test entries w))
  each-removed test entries w all = subst (Each P) (sym (remove-set test entries w)) (each-remove test entries all)

pub cell-IsCell : (plan : Plan) (entries : Entries) (prefix : IpPrefix) (cell : CellContent) → AreCells plan entries
    → cell_at entries prefix ≡ Some cell → IsCell plan cell
cell-IsCell plan entries prefix cell all found = (each-at (IsCellOn plan) entries prefix cell all found).is_cell

-- cells that keep room are cells
pub kept-cells : (keeps_room : Bool) (plan : Plan) (entries : Entries) → AreKeptCells keeps_room plan entries → AreCells plan entries
kept-cells keeps_room plan = each-weaker (IsKeptCellOn keeps_room plan) (IsCellOn plan)
    (λ prefix cell is. record { is_cell = is.is_kept.is_cell; taken = is.taken })

-- ---- what one change of the map leaves

module _ (m n : BTreeMap IpPrefix CellContent) (prefix : IpPrefix) where
  pub at-update : (w : Option CellContent) → Updates prefix_cmp m n prefix w → (q : IpPrefix)
      → cell_at n.entries q ≡ cond (same_prefix q prefix) w (cell_at m.entries q)
  at-update w updates q = updates.0 q ∙ ap (λ b. cond b w (cell_at m.entries q)) ((eq_by_cmp_equiv prefix_total).symm prefix q)

  -- the routes on the prefix become what f makes of them
  pub updated : (f : List SentRoute → List SentRoute) (w : Option CellContent)
      → ((q : IpPrefix) → cell_at n.entries q ≡ cond (same_prefix q prefix) w (cell_at m.entries q)) →
      routes_of w ≡ f (routes_at m.entries prefix) → (q : IpPrefix)
      → routes_at n.entries q ≡ cond (same_prefix q prefix) (f (routes_at m.entries q)) (routes_at m.entries q)
  updated f w updates made q =
      ap routes_of (updates q) ∙ elim (cases_Bool (same_prefix q prefix)) [
        | inl here ↦ rw here (made ∙ ap (λ p. f (routes_at m.entries p)) (sym (same_prefix-true q prefix here)))
        | inr there ↦ rw there refl
      ]

-- a cell is written and then removed
pub removed_after : (m l n : BTreeMap IpPrefix CellContent) (prefix : IpPrefix) (w : CellContent) → Updates prefix_cmp m l prefix (Some w)
    → Updates prefix_cmp l n prefix None →
    (q : IpPrefix) → cell_at n.entries q ≡ cond (same_prefix q prefix) None (cell_at m.entries q)
removed_after m l n prefix w written removed q =
    at-update l n prefix None removed q
    ∙ ap (cond (same_prefix q prefix) None) (at-update m l prefix (Some w) written q)
    ∙ elim (same_prefix q prefix) as (λ b. cond b None (cond b (Some w) (cell_at m.entries q)) ≡ cond b None (cell_at m.entries q))
    [ true ↦ refl | false ↦ refl ]

-- ---- the content of each peer, by its routes

module _ (routes : ℕ → Routes) where
  pub by-at : (first : ℕ) (closed : List Bool) (k : ℕ) → k < length closed →
      get_or (ribs_by routes first closed) k nothing_held ≡ record { routes = routes (first + k); closed = get_or closed k false }
  by-at first [] k within = absurd (omega (arith, within))
  by-at first (c ∷ cs) zero within = ap (λ n. record { routes = routes n; closed = c }) (omega arith)
  by-at first (c ∷ cs) (suc k) within =
      by-at (first + 1) cs k (omega (arith, within)) ∙ ap (λ n. record { routes = routes n; closed = get_or cs k false }) (omega arith)

  pub by-length : (first : ℕ) (closed : List Bool) → length (ribs_by routes first closed) ≡ length closed
  by-length first [] = refl
  by-length first (c ∷ cs) = ap suc (by-length (first + 1) cs)

  pub by-past : (first : ℕ) (closed : List Bool) (k : ℕ) → length closed ≤ k
      → get_or (ribs_by routes first closed) k nothing_held ≡ nothing_held
  by-past first closed k past = get_or_past (ribs_by routes first closed) k nothing_held (omega (arith, by-length first closed, past))

-- ---- the routes of each peer

module _ (entries : Entries) where
  pub get-routes_from : (peer : ℕ) (prefix : IpPrefix) → fin.get (routes_from entries peer) prefix
      ≡ route_at (routes_at entries prefix) peer
  get-routes_from peer prefix =
      fin.get-from_entries prefix_total _ prefix
      ∙ find-entries (λ q. route_at (routes_at entries q) peer) prefix (map (λ entry. entry.0) entries)
      ∙ elim (cases_Bool (list_any (same_prefix prefix) (map (λ entry. entry.0) entries))) [
        | inl some ↦ rw some refl
        | inr none ↦
            let no_cell : cell_at entries prefix ≡ None =
            absent (cell_at entries prefix) (is_some-lookup (is_at (prefix_cmp prefix)) entries ∙ none) in
            rw none (sym (ap (λ cell. route_at (routes_of cell) peer) no_cell))
      ]

  -- the content of the peers from one number on
  pub rib-at : (first : ℕ) (closed : List Bool) (k : ℕ) → k < length closed →
      get_or (ribs_from entries first closed) k nothing_held
      ≡ record { routes = routes_from entries (first + k); closed = get_or closed k false }
  rib-at = by-at (routes_from entries)

  pub length-ribs : (first : ℕ) (closed : List Bool) → length (ribs_from entries first closed) ≡ length closed
  length-ribs = by-length (routes_from entries)

  pub rib-past : (first : ℕ) (closed : List Bool) (k : ℕ) → length closed ≤ k
      → get_or (ribs_from entries first closed) k nothing_held ≡ nothing_held
  rib-past = by-past (routes_from entries)

  -- the routes that peers have left on a prefix are those of its cell
  module _ (prefix : IpPrefix) where
    abbrev on_from : ℕ → List Bool → List SentRoute
    on_from first closed =
        filter_map (λ (peer, rib). option_map (sent_by peer) (fin.get rib.routes prefix))
        (enumerate_from first (ribs_from entries first closed))

    routes_on_from : (first : ℕ) (closed : List Bool) (routes : List SentRoute) → IsRow first (first + length closed) routes →
        ((peer : ℕ) → first ≤ peer → route_at (routes_at entries prefix) peer ≡ route_at routes peer) → on_from first closed ≡ routes
    routes_on_from first [] [] row same = refl
    routes_on_from first [] (route ∷ later) row same = absurd (omega (arith, row.0, row.1))
    routes_on_from first (c ∷ cs) [] row same =
        ap (λ o. cons_option (option_map (sent_by first) o) (on_from (first + 1) cs))
        (get-routes_from first prefix ∙ same first (omega arith))
        ∙ routes_on_from (first + 1) cs [] tt (λ peer le. same peer (omega (arith, le)))
    routes_on_from first (c ∷ cs) (route ∷ later) row same =
        elim (eqb_tells route.peer first) [
          | inl here ↦
              let found : route_at (route ∷ later) first ≡ Some (record { time = route.time; attributes = route.attributes }) =
              rw here.0 refl in
              let rest : on_from (first + 1) cs ≡ later =
              routes_on_from (first + 1) cs later (subst (λ n. IsRow (n + 1) (first + 1 + length cs) later) here.1
              (IsRow_to (route.peer + 1) (first + length (c ∷ cs)) (first + 1 + length cs) later (omega arith) row.2))
              (λ peer le. same peer (omega (arith, le)) ∙ passed peer later route (omega (arith, le, here.1))) in
              ap (λ o. cons_option (option_map (sent_by first) o) (on_from (first + 1) cs))
              (get-routes_from first prefix ∙ same first (omega arith) ∙ found)
              ∙ (λ i. record { peer = (sym here.1) i; time = route.time; attributes = route.attributes } ∷ rest i)
          | inr apart ↦
              let none : route_at (route ∷ later) first ≡ None =
              route_at-before (first + 1) (first + length (c ∷ cs)) first (route ∷ later) (omega arith)
              (omega (arith, row.0, apart.1), row.1, row.2) in
              ap (λ o. cons_option (option_map (sent_by first) o) (on_from (first + 1) cs))
              (get-routes_from first prefix ∙ same first (omega arith) ∙ none)
              ∙ routes_on_from (first + 1) cs (route ∷ later)
              (IsRow_to (first + 1) (first + length (c ∷ cs)) (first + 1 + length cs) (route ∷ later) (omega arith)
              (omega (arith, row.0, apart.1), row.1, row.2))
              (λ peer le. same peer (omega (arith, le)))
        ]
      where
        IsRow_to : (from to other : ℕ) (routes : List SentRoute) → to ≡ other → IsRow from to routes → IsRow from other routes
        IsRow_to from to other routes e row = subst (λ n. IsRow from n routes) e row

        passed : (peer : ℕ) (later : List SentRoute) (route : SentRoute) → route.peer < peer
            → route_at (route ∷ later) peer ≡ route_at later peer
        passed peer later route less =
            elim (eqb_tells route.peer peer) [ inl here ↦ absurd (omega (arith, here.1, less)) | inr apart ↦ rw apart.0 refl ]

    pub routes_on-cells : (closed : List Bool) → IsRow 0 (length closed) (routes_at entries prefix)
        → routes_on prefix (ribs_from entries 0 closed) ≡ routes_at entries prefix
    routes_on-cells closed row =
        routes_on_from 0 closed (routes_at entries prefix) (subst (λ n. IsRow 0 n (routes_at entries prefix)) (sum closed) row)
        (λ peer le. refl)
      where
        sum : (closed : List Bool) → length closed ≡ 0 + length closed
        sum closed = omega arith
