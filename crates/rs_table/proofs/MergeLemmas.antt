-- Tables that hold different prefixes, made one: for `joined_with` of tables.rt and `merge` of merge.rt.
use Rattle.std.proofs.Common.{◌≡◌, ℕ, zero, suc, ◌+◌, ◌<◌, ◌≤◌, Bool, false, List, [], ◌∷◌, length, map, get_or, Option, Some, None}
use Rattle.std.proofs.Common.{AllPairs, slice_get, refl, sym, ap, subst, ◌∙◌, arith, inl, inr}
use Rattle.std.specs.List.{AllByRecursion}
use Rattle.std.specs.List.Sorted.{IsStrictlySortedBy}
use Rattle.std.specs.FinMap as fin
use Rattle.std.specs.Option.{option_or, is_some}
use Rattle.std.proofs.lemmas.Bool.{cases_Bool, cases_lt, or_from, or_parts}
use Rattle.std.proofs.lemmas.Bool.Decides.{eqb_tells}
use Rattle.std.proofs.lemmas.List.Elements.{All-from_recursion, recursion_from_All}
use Rattle.rs_types.specs.IpPrefix.{IpPrefix}
use Rattle.rs_types.specs.PrefixOrder.{prefix_cmp, same_prefix}
use Rattle.rs_choice.specs.Plan.{Plan}
use Rattle.rs_choice.specs.declared.held_route.HeldRoute.{HeldRoute}
use Rattle.rs_table.specs.ByPeer.{IsRow, route_at}
use Rattle.rs_table.specs.Cell.{CellContent, IsCell, IsCellOn}
use Rattle.rs_choice.specs.Held.{sent_of_held}
use Rattle.rs_table.specs.Cells.{Entries, AreCells, AreJoined, cell_at, routes_at, routes_of, routes_from}
use Rattle.rs_table.specs.Content.{RibContent, TablesContent, nothing_held, rib_of}
use Rattle.rs_table.specs.Left.{RouteLeft}
use Rattle.rs_table.specs.Listing.{is_held}
use Rattle.rs_table.specs.Merge.{AreParts, IsJoined, IsMerged, IsOfPart}
use Rattle.rs_choice.specs.Decision.{SentRoute}
use Rattle.rs_table.specs.TablesView.{ribs_from}
use Rattle.rs_table.proofs.cells.CellsLemmas.{Each, cell-IsCell, each-at, get-routes_from, rib-at, rib-past}
use Rattle.rs_table.proofs.cells.CloseLemmas.{Below, none_below}
use Rattle.rs_table.proofs.PrefixLemmas.{same_prefix-true, same_prefix-itself}
use Rattle.rs_table.proofs.ValueLemmas.{absent}
use Rattle.rs_table.proofs.tables.TablesLemmas.{tables, rib-closed}

-- ---- prefixes on which peers have left routes

-- if no peer has left a route on a prefix, each peer has none there
pub held-none : (ribs : List RibContent) (q : IpPrefix) → is_held ribs q ≡ false → (peer : ℕ)
    → fin.get (get_or ribs peer nothing_held).routes q ≡ None
held-none [] q e peer = fin.get-empty prefix_cmp q
held-none (rib ∷ ribs) q e zero = absent (fin.get rib.routes q) (or_parts (fin.contains_key rib.routes q) (is_held ribs q) e).0
held-none (rib ∷ ribs) q e (suc peer) = held-none ribs q (or_parts (fin.contains_key rib.routes q) (is_held ribs q) e).1 peer

-- if each peer has no route on a prefix, no peer has left one there
pub none-held : (ribs : List RibContent) (q : IpPrefix) → ((peer : ℕ) → fin.get (get_or ribs peer nothing_held).routes q ≡ None)
    → is_held ribs q ≡ false
none-held [] q none = refl
none-held (rib ∷ ribs) q none = or_from _ _ (ap is_some (none zero)) (none-held ribs q (λ peer. none (suc peer)))

-- ---- the routes on a prefix, by its cell

route_at-past : (from to peer : ℕ) (routes : List SentRoute) → to ≤ peer → IsRow from to routes → route_at routes peer ≡ None
route_at-past from to peer [] past row = refl
route_at-past from to peer (route ∷ later) past row =
    elim (eqb_tells route.peer peer) [
      | inl same ↦ absurd (omega (arith, same.1, row.1, past))
      | inr apart ↦ rw apart.0 (route_at-past (route.peer + 1) to peer later past row.2)
    ]

module _ (plan : Plan) (entries : Entries) (closed : List Bool) (peers : length closed ≡ length plan.peers) (cells : AreCells plan entries)
  where
    row-of : (q : IpPrefix) (o : Option CellContent) → cell_at entries q ≡ o → IsRow 0 (length plan.peers) (routes_of o)
    row-of q None e = tt
    row-of q (Some cell) e = (cell-IsCell plan entries q cell cells e).held.row

    pub get-rib : (peer : ℕ) (q : IpPrefix) → fin.get (rib_of (tables plan entries closed) peer).routes q
        ≡ route_at (routes_at entries q) peer
    get-rib peer q =
        elim (cases_lt peer (length closed)) [
          | inl known ↦
              ap (λ rib. fin.get rib.routes q) (rib-at entries 0 closed peer known)
              ∙ ap (λ n. fin.get (routes_from entries n) q) (plus_zero peer)
              ∙ get-routes_from entries peer q
          | inr past ↦
              ap (λ rib. fin.get rib.routes q) (rib-past entries 0 closed peer past)
              ∙ fin.get-empty prefix_cmp q
              ∙ sym (route_at-past 0 (length plan.peers) peer (routes_at entries q) (omega (arith, past, peers))
              (row-of q (cell_at entries q) refl))
        ]
      where
        plus_zero : (n : ℕ) → 0 + n ≡ n
        plus_zero n = omega arith

    -- a prefix on which no peer has left a route has no cell
    pub cell-none : (q : IpPrefix) → is_held (ribs_from entries 0 closed) q ≡ false → cell_at entries q ≡ None
    cell-none q none = by_cell (cell_at entries q) refl
      where
        by_held : (cell : CellContent) → cell_at entries q ≡ Some cell → (held : List HeldRoute) → cell.held ≡ held → 0 < length held
            → cell_at entries q ≡ None
        by_held cell e [] is some = absurd (omega (arith, some))
        by_held cell e (one ∷ later) is some =
            let gone : route_at (routes_at entries q) one.peer ≡ None =
            sym (get-rib one.peer q) ∙ held-none (ribs_from entries 0 closed) q none one.peer in
            let routes : routes_at entries q ≡ map sent_of_held (one ∷ later) = ap routes_of e ∙ ap (map sent_of_held) is in
            elim (eqb_tells one.peer one.peer) [
              | inl here ↦ absurd (cc (rw here.0 at (sym (ap (λ routes. route_at routes one.peer) routes) ∙ gone)))
              | inr apart ↦ absurd (apart.1 refl)
            ]

        by_cell : (o : Option CellContent) → cell_at entries q ≡ o → cell_at entries q ≡ None
        by_cell None e = e
        by_cell (Some cell) e =
            let is : IsCell plan cell = cell-IsCell plan entries q cell cells e in
            by_held cell e cell.held refl is.some

-- what holds of the cells that are found holds of all
module _ (P : IpPrefix → CellContent → Type 0) where
  each-found : (entries : Entries) → IsStrictlySortedBy prefix_cmp (map (λ entry. entry.0) entries)
      → ((q : IpPrefix) (cell : CellContent) → cell_at entries q ≡ Some cell → P q cell) → Each P entries
  unfolding IsStrictlySortedBy
  each-found [] sorted given = tt
  each-found (e ∷ es) sorted given =
      let here : cell_at (e ∷ es) e.0 ≡ Some e.1 = rw (same_prefix-itself e.0) refl in (
        given e.0 e.1 here,
        each-found es sorted.1 (λ q cell found.
            elim (cases_Bool (same_prefix q e.0)) [
              | inl same ↦
                  let gone : cell_at es q ≡ None = none_below q es (subst (λ p. Below p es) (sym (same_prefix-true q e.0 same)) sorted.0) in
                  absurd (cc (sym found ∙ gone))
              | inr apart ↦ given q cell (past q cell apart found)
            ]),
      )
    where
      past : (q : IpPrefix) (cell : CellContent) → same_prefix q e.0 ≡ false → cell_at es q ≡ Some cell → cell_at (e ∷ es) q ≡ Some cell
      past q cell apart found = rw apart found

  pub each-joined : (one other joined : Entries) → Each P one → Each P other → AreJoined one other joined
      → IsStrictlySortedBy prefix_cmp (map (λ entry. entry.0) joined) → Each P joined
  each-joined one other joined all others is sorted =
      each-found joined sorted (λ q cell found. by_other q cell (cell_at other q) refl (sym (is q) ∙ found))
    where
      by_other : (q : IpPrefix) (cell : CellContent) (o : Option CellContent) → cell_at other q ≡ o
          → option_or o (cell_at one q) ≡ Some cell → P q cell
      by_other q cell None e found = each-at P one q cell all found
      by_other q cell (Some c) e found = each-at P other q cell others (e ∙ found)

-- ---- two made one

or_nothing : {X : Type 0} (o : Option X) → option_or o None ≡ o
or_nothing None = refl
or_nothing (Some x) = refl

module _ (plan : Plan) (one other joined : Entries) (closed later : List Bool) (peers : length closed ≡ length plan.peers)
    (others : length later ≡ length plan.peers)
    (cells : AreCells plan one) (other_cells : AreCells plan other) (joined_cells : AreCells plan joined) (is : AreJoined one other joined)
  where
    pub from-one : (q : IpPrefix) → is_held (ribs_from other 0 later) q ≡ false → (peer : ℕ) →
        fin.get (rib_of (tables plan joined closed) peer).routes q ≡ fin.get (rib_of (tables plan one closed) peer).routes q
    from-one q none peer =
        get-rib plan joined closed peers joined_cells peer q
        ∙ ap (λ o. route_at (routes_of o) peer) (is q ∙ ap (λ o. option_or o (cell_at one q))
        (cell-none plan other later others other_cells q none))
        ∙ sym (get-rib plan one closed peers cells peer q)

    pub from-other : (q : IpPrefix) → is_held (ribs_from one 0 closed) q ≡ false → (peer : ℕ) →
        fin.get (rib_of (tables plan joined closed) peer).routes q ≡ fin.get (rib_of (tables plan other later) peer).routes q
    from-other q none peer =
        get-rib plan joined closed peers joined_cells peer q
        ∙ ap (λ o. route_at (routes_of o) peer) (is q ∙ ap (option_or (cell_at other q)) (cell-none plan one closed peers cells q none)
        ∙ or_nothing (cell_at other q))
        ∙ sym (get-rib plan other later others other_cells peer q)

pub joined-IsJoined : (plan : Plan) (one other joined : Entries) (closed later : List Bool) → length closed ≡ length plan.peers
    → length later ≡ length plan.peers →
    AreCells plan one → AreCells plan other → AreJoined one other joined → IsStrictlySortedBy prefix_cmp (map (λ entry. entry.0) joined) →
    IsJoined (tables plan one closed) (tables plan other later) (tables plan joined closed)
joined-IsJoined plan one other joined closed later peers others cells other_cells is sorted =
    let joined_cells : AreCells plan joined = each-joined (IsCellOn plan) one other joined cells other_cells is sorted in
    record {
      plan = refl;
      closed = λ peer. rib-closed plan joined closed peer ∙ sym (rib-closed plan one closed peer);
      from_one = from-one plan one other joined closed later peers others cells other_cells joined_cells is;
      from_other = from-other plan one other joined closed later peers others cells other_cells joined_cells is;
    }

-- ---- parts made one, one after another

-- each two of them are parts
abbrev pub ArePairs : List TablesContent → Type 0
ArePairs [] = Unit {0}
ArePairs (part ∷ later) = AllByRecursion (AreParts part) later × ArePairs later

pub pairs-from_all : (parts : List TablesContent) → AllPairs AreParts parts → ArePairs parts
pairs-from_all [] all = tt
pairs-from_all (part ∷ later) all = (
  recursion_from_All (AreParts part) later (λ k d within. all 0 (suc k) d (omega arith) (omega (arith, within))),
  pairs-from_all later (λ i j d less within. all (suc i) (suc j) d (omega (arith, less)) (omega (arith, within))),
)

-- the route of a peer among parts: that of the first one that has any
abbrev route_among : List TablesContent → ℕ → IpPrefix → Option RouteLeft
route_among [] peer q = None
route_among (part ∷ later) peer q = option_or (fin.get (rib_of part peer).routes q) (route_among later peer q)

-- of all parts, these are made one, and those are still to come
pub record IsUnderWay (all : List TablesContent) (merged : TablesContent) (later : List TablesContent) : Type 0 where
  pub pairs : ArePairs (merged ∷ later)
  pub plan : AllByRecursion (λ part. merged.plan ≡ part.plan) all
  pub closed : AllByRecursion (λ part. (peer : ℕ) → (rib_of merged peer).closed ≡ (rib_of part peer).closed) all
  pub routes : (peer : ℕ) → (q : IpPrefix) → option_or (fin.get (rib_of merged peer).routes q) (route_among later peer q)
      ≡ route_among all peer q

every : {X : Type 0} (P Q : X → Type 0) → ((x : X) → P x → Q x) → (xs : List X) → AllByRecursion P xs → AllByRecursion Q xs
every P Q f [] all = tt
every P Q f (x ∷ xs) all = (f x all.0, every P Q f xs all.1)

every_two : {X : Type 0} (P Q R : X → Type 0) → ((x : X) → P x → Q x → R x) → (xs : List X) → AllByRecursion P xs → AllByRecursion Q xs
    → AllByRecursion R xs
every_two P Q R f [] all others = tt
every_two P Q R f (x ∷ xs) all others = (f x all.0 others.0, every_two P Q R f xs all.1 others.1)

pub way-begins : (first : TablesContent) (later : List TablesContent) → AllPairs AreParts (first ∷ later)
    → IsUnderWay (first ∷ later) first later
way-begins first later all =
    let pairs : ArePairs (first ∷ later) = pairs-from_all (first ∷ later) all in
    record {
      pairs = pairs;
      plan = (refl, every (AreParts first) (λ part. first.plan ≡ part.plan) (λ part are. are.plan) later pairs.0);
      closed = (
        λ peer. refl,
        every (AreParts first) (λ part. (peer : ℕ) → (rib_of first peer).closed ≡ (rib_of part peer).closed)
            (λ part are. are.closed) later pairs.0,
      );
      routes = λ peer q. refl;
    }

or_assoc : {X : Type 0} (a b c : Option X) → option_or (option_or a b) c ≡ option_or a (option_or b c)
or_assoc None b c = refl
or_assoc (Some x) b c = refl

module _ (one other joined : TablesContent) (are : AreParts one other) (is : IsJoined one other joined) where
  -- the joined tables have what either has
  joined-routes : (peer : ℕ) (q : IpPrefix) → fin.get (rib_of joined peer).routes q
      ≡ option_or (fin.get (rib_of one peer).routes q) (fin.get (rib_of other peer).routes q)
  joined-routes peer q =
      elim (cases_Bool (is_held one.ribs q)) [
        | inl held ↦
            let none : is_held other.ribs q ≡ false = are.apart q held in
            is.from_one q none peer
            ∙ sym (or_nothing (fin.get (rib_of one peer).routes q))
            ∙ ap (option_or (fin.get (rib_of one peer).routes q)) (sym (held-none other.ribs q none peer))
        | inr none ↦ is.from_other q none peer ∙ ap (λ o. option_or o (fin.get (rib_of other peer).routes q))
            (sym (held-none one.ribs q none peer))
      ]

  -- and nothing that neither has
  joined-none : (q : IpPrefix) → is_held one.ribs q ≡ false → is_held other.ribs q ≡ false → is_held joined.ribs q ≡ false
  joined-none q none no_other = none-held joined.ribs q (λ peer. is.from_one q no_other peer ∙ held-none one.ribs q none peer)

  joined-part : (part : TablesContent) → AreParts one part → AreParts other part → AreParts joined part
  joined-part part first second = record {
    plan = is.plan ∙ first.plan;
    closed = λ peer. is.closed peer ∙ first.closed peer;
    apart = λ q held. elim (cases_Bool (is_held one.ribs q)) [
      | inl by_one ↦ first.apart q by_one
      | inr not_one ↦ elim (cases_Bool (is_held other.ribs q)) [
        | inl by_other ↦ second.apart q by_other
        | inr not_other ↦ absurd (cc (held, joined-none q not_one not_other))
      ]
    ];
  }

pub way-goes_on : (all : List TablesContent) (merged part joined : TablesContent) (later : List TablesContent)
    → IsUnderWay all merged (part ∷ later) → IsJoined merged part joined → IsUnderWay all joined later
way-goes_on all merged part joined later way is =
    let are : AreParts merged part = way.pairs.0.0 in
    record {
      pairs = (
        every_two (AreParts merged) (AreParts part) (AreParts joined) (joined-part merged part joined are is)
            later way.pairs.0.1 way.pairs.1.0,
        way.pairs.1.1,
      );
      plan = every (λ (p : TablesContent). merged.plan ≡ p.plan) (λ (p : TablesContent). joined.plan ≡ p.plan) (λ p same. is.plan ∙ same)
          all way.plan;
      closed = every (λ p. (peer : ℕ) → (rib_of merged peer).closed ≡ (rib_of p peer).closed)
          (λ p. (peer : ℕ) → (rib_of joined peer).closed ≡ (rib_of p peer).closed) (λ p same peer. is.closed peer ∙ same peer)
          all way.closed;
      routes = λ peer q.
          ap (λ o. option_or o (route_among later peer q)) (joined-routes merged part joined are is peer q)
          ∙ or_assoc (fin.get (rib_of merged peer).routes q) (fin.get (rib_of part peer).routes q) (route_among later peer q)
          ∙ way.routes peer q;
    }

-- ---- at the end

among-none : (parts : List TablesContent) (q : IpPrefix) → ((other : ℕ) (part : TablesContent) → slice_get parts other ≡ Some part
    → is_held part.ribs q ≡ false) → (peer : ℕ) → route_among parts peer q ≡ None
among-none [] q none peer = refl
among-none (part ∷ later) q none peer =
    ap (λ o. option_or o (route_among later peer q)) (held-none part.ribs q (none zero part refl) peer)
    ∙ among-none later q (λ other p found. none (suc other) p found) peer

among-one : (parts : List TablesContent) (q : IpPrefix) (place : ℕ) (part : TablesContent) → slice_get parts place ≡ Some part
    → IsOfPart parts q place →
    (peer : ℕ) → route_among parts peer q ≡ fin.get (rib_of part peer).routes q
among-one [] q place part found alone peer = absurd (cc found)
among-one (first ∷ later) q zero part found alone peer =
    let same : first ≡ part = cc found in
    ap (option_or (fin.get (rib_of first peer).routes q))
    (among-none later q (λ other p is. alone (suc other) p is (λ e. omega (arith, e))) peer)
    ∙ or_nothing (fin.get (rib_of first peer).routes q)
    ∙ ap (λ tables. fin.get (rib_of tables peer).routes q) same
among-one (first ∷ later) q (suc place) part found alone peer =
    ap (λ o. option_or o (route_among later peer q)) (held-none first.ribs q (alone zero first refl (λ e. omega (arith, e))) peer)
    ∙ among-one later q place part found (λ other p is apart. alone (suc other) p is (λ e. apart (omega (arith, e)))) peer

pub way-ends : (all : List TablesContent) (merged : TablesContent) → IsUnderWay all merged [] → IsMerged all merged
way-ends all merged way = record {
  plan = All-from_recursion (λ (part : TablesContent). merged.plan ≡ part.plan) all way.plan;
  closed = All-from_recursion (λ (part : TablesContent). (peer : ℕ) → (rib_of merged peer).closed ≡ (rib_of part peer).closed)
      all way.closed;
  routes = λ prefix place part found alone peer.
      sym (or_nothing (fin.get (rib_of merged peer).routes prefix)) ∙ way.routes peer prefix
      ∙ among-one all prefix place part found alone peer;
}
