-- What happened, one thing after another: the tables after each, and what is noted.
use Rattle.std.proofs.Common.{◌≡◌, ◌≢◌, ◌∙◌, sym, ap, subst, refl, ℕ, ◌<◌, Bool, true, false, cond, List, [], ◌∷◌, ◌++◌, Option, length}
use Rattle.std.proofs.Common.{append_assoc, arith, inl, inr}
use Rattle.std.specs.Prelude.{◌||◌, ◌&&◌, ◌==◌, filter, map, nat_lt, not}
use Rattle.std.specs.List.{list_any}
use Rattle.std.specs.Option.{option_to_list}
use Rattle.std.proofs.lemmas.Bool.{and_parts, cases_Bool, eq-eqb, ltb-true, lt-ltb, ne_eqb, not-true, or_parts}
use Rattle.std.proofs.lemmas.Bool.Decides.{eqb_tells}
use Rattle.std.proofs.lemmas.List.{append-nil, ext_get_or, map-append}
use Rattle.std.proofs.lemmas.List.Elements.{filter-append}
use Rattle.std.proofs.lemmas.List.FromFn.{get_or-map-range_with_len, length-map-range_with_len}
use Rattle.rs_update.specs.IpPrefix.{IpPrefix}
use Rattle.rs_session.specs.Change.{Change, change_of, is_close}
use Rattle.rs_choice.specs.Plan.{Plan}
use Rattle.rs_table.specs.Content.{RibContent, TablesContent, nothing_held, rib_left, rib_of}
use Rattle.rs_table.specs.Left.{left}
use Rattle.rs_glass.specs.Histories.{GetsContent, Notes, Takes, TakesIf, all_gets, best_last, changes_from, counts, gets_after, gets_by}
use Rattle.rs_glass.specs.Histories.{gets_content, is_before, is_open, tables_after, up_to_close}
use Rattle.rs_glass.specs.declared.happened.Happening.{Happening}
use Rattle.rs_glass.specs.declared.history.History.{History}
use Rattle.rs_glass.proofs.ListLemmas.{each_behind-more}
use Rattle.rs_table.proofs.RibLemmas.{any-one_more}

-- ---- changes up to the close

-- all count where none closes
up_to_close-open : (changes : List Change) → list_any is_close changes ≡ false → up_to_close changes ≡ changes
up_to_close-open [] none = refl
up_to_close-open (first ∷ later) none =
    let parts = or_parts (is_close first) (list_any is_close later) none in
    ap (λ (b : Bool). first ∷ cond b [] (up_to_close later)) parts.0
    ∙ ap (λ (rest : List Change). first ∷ rest) (up_to_close-open later parts.1)

cond-same : (b : Bool) → cond {A = List Change} b [] [] ≡ []
cond-same true = refl
cond-same false = refl

-- and then one more, a close or not
up_to_close-more : (changes : List Change) (one : Change) → list_any is_close changes ≡ false
    → up_to_close (changes ++ one ∷ []) ≡ changes ++ one ∷ []
up_to_close-more [] one none = ap (λ (rest : List Change). one ∷ rest) (cond-same (is_close one))
up_to_close-more (first ∷ later) one none =
    let parts = or_parts (is_close first) (list_any is_close later) none in
    ap (λ (b : Bool). first ∷ cond b [] (up_to_close (later ++ one ∷ []))) parts.0
    ∙ ap (λ (rest : List Change). first ∷ rest) (up_to_close-more later one parts.1)

-- behind a close nothing does
up_to_close-closed : (changes : List Change) (one : Change) → list_any is_close changes ≡ true
    → up_to_close (changes ++ one ∷ []) ≡ up_to_close changes
up_to_close-closed [] one some = absurd cc
up_to_close-closed (first ∷ later) one some = by_first (is_close first) some (up_to_close-closed later one)
  where
    by_first : (b : Bool) → (b || list_any is_close later) ≡ true
        → (list_any is_close later ≡ true → up_to_close (later ++ one ∷ []) ≡ up_to_close later)
        → first ∷ cond b [] (up_to_close (later ++ one ∷ [])) ≡ first ∷ cond b [] (up_to_close later)
    by_first true holds behind = refl
    by_first false holds behind = ap (λ (rest : List Change). first ∷ rest) (behind holds)

any-up_to_close : (changes : List Change) → list_any is_close (up_to_close changes) ≡ list_any is_close changes
any-up_to_close [] = refl
any-up_to_close (first ∷ later) = by_first (is_close first) (any-up_to_close later)
  where
    by_first : (b : Bool) → list_any is_close (up_to_close later) ≡ list_any is_close later
        → (b || list_any is_close (cond b [] (up_to_close later))) ≡ (b || list_any is_close later)
    by_first true same = refl
    by_first false same = same

-- ---- the changes of one peer

changes_from-same : (before : List Happening) (one : Happening)
    → changes_from one.peer (before ++ one ∷ []) ≡ changes_from one.peer before ++ change_of one.word ∷ []
changes_from-same before one =
    ap (map (λ (h : Happening). change_of h.word)) (filter-append (λ (h : Happening). h.peer == one.peer) before (one ∷ [])
    ∙ ap (λ (b : Bool). filter (λ (h : Happening). h.peer == one.peer) before ++ cond b (one ∷ []) []) (eq-eqb one.peer one.peer refl))
    ∙ map-append (λ (h : Happening). change_of h.word) (filter (λ (h : Happening). h.peer == one.peer) before) (one ∷ [])

changes_from-other : (peer : ℕ) (before : List Happening) (one : Happening) → peer ≢ one.peer
    → changes_from peer (before ++ one ∷ []) ≡ changes_from peer before
changes_from-other peer before one apart =
    ap (map (λ (h : Happening). change_of h.word)) (filter-append (λ (h : Happening). h.peer == peer) before (one ∷ [])
    ∙ ap (λ (b : Bool). filter (λ (h : Happening). h.peer == peer) before ++ cond b (one ∷ []) [])
    (ne_eqb one.peer peer (λ same. apart (sym same)))
    ∙ append-nil (filter (λ (h : Happening). h.peer == peer) before))

-- ---- the tables

rib-nothing : rib_left [] ≡ nothing_held
unfolding left
rib-nothing = refl

module _ (plan : Plan) where
  abbrev rib_after : List Happening → ℕ → RibContent
  rib_after happenings peer = rib_left (up_to_close (changes_from peer happenings))

  -- the content of each peer
  rib_of-after : (happenings : List Happening) (peer : ℕ) → peer < length plan.peers
      → rib_of (tables_after plan happenings) peer ≡ rib_after happenings peer
  rib_of-after happenings peer known =
      get_or-map-range_with_len (rib_after happenings) 0 (length plan.peers) peer peer nothing_held known (omega arith)

  -- tables in which the content of each peer is this are these tables
  tables-same : (happenings : List Happening) (tables : TablesContent) → tables.plan ≡ plan → length tables.ribs ≡ length plan.peers
      → ((peer : ℕ) → peer < length plan.peers → rib_of tables peer ≡ rib_after happenings peer) → tables ≡ tables_after plan happenings
  tables-same happenings tables same_plan count each =
      let as_many : length tables.ribs ≡ length (tables_after plan happenings).ribs =
      count ∙ sym (length-map-range_with_len (rib_after happenings) 0 (length plan.peers)) in
      let ribs : tables.ribs ≡ (tables_after plan happenings).ribs =
      ext_get_or nothing_held tables.ribs (tables_after plan happenings).ribs as_many
      (λ peer below. each peer (omega (arith, below, count)) ∙ sym (rib_of-after happenings peer (omega (arith, below, count)))) in
      λ i. record { plan = same_plan i; ribs = ribs i }

  -- before anything happened
  pub tables-fresh : (tables : TablesContent) → tables.plan ≡ plan → length tables.ribs ≡ length plan.peers
      → ((peer : ℕ) → rib_of tables peer ≡ nothing_held) → tables ≡ tables_after plan []
  tables-fresh tables same_plan count nothing = tables-same [] tables same_plan count (λ peer below. nothing peer ∙ sym rib-nothing)

  -- a session is open where nothing of its peer closed it
  open-counts : (before : List Happening) (one : Happening) → is_open (tables_after plan before) one.peer ≡ counts plan before one
  open-counts before one = elim (cases_Bool (nat_lt one.peer (length plan.peers))) [
    | inl known ↦
        let closed : (rib_of (tables_after plan before) one.peer).closed ≡ list_any is_close (changes_from one.peer before) =
        ap (λ (rib : RibContent). rib.closed) (rib_of-after before one.peer (ltb-true one.peer (length plan.peers) known))
        ∙ any-up_to_close (changes_from one.peer before) in
        ap (λ (b : Bool). nat_lt one.peer (length plan.peers) && not b) closed
    | inr unknown ↦ rw unknown refl
  ]

  -- nothing changes by what doesn't count
  passed : (before : List Happening) (one : Happening) → counts plan before one ≡ false
      → tables_after plan before ≡ tables_after plan (before ++ one ∷ [])
  passed before one not_counted =
      tables-same (before ++ one ∷ []) (tables_after plan before) refl (length-map-range_with_len (rib_after before) 0 (length plan.peers))
      (λ peer known. rib_of-after before peer known ∙ ap rib_left (same peer known))
    where
      closed : nat_lt one.peer (length plan.peers) ≡ true → (b : Bool) → list_any is_close (changes_from one.peer before) ≡ b → b ≡ true
      closed known true is = refl
      closed known false is = let counted : true ≡ false = sym (rw (known, is) refl) ∙ not_counted in absurd cc

      same : (peer : ℕ) → peer < length plan.peers → up_to_close (changes_from peer before)
          ≡ up_to_close (changes_from peer (before ++ one ∷ []))
      same peer known = elim (eqb_tells peer one.peer) [
        | inl told ↦
            let is = told.1 in
            let there : nat_lt one.peer (length plan.peers) ≡ true = lt-ltb one.peer (length plan.peers) (omega (arith, known, is)) in
            let behind = closed there (list_any is_close (changes_from one.peer before)) refl in
            subst (λ (p : ℕ). up_to_close (changes_from p before) ≡ up_to_close (changes_from p (before ++ one ∷ []))) (sym is)
            (sym (ap up_to_close (changes_from-same before one)
            ∙ up_to_close-closed (changes_from one.peer before) (change_of one.word) behind))
        | inr told ↦ sym (ap up_to_close (changes_from-other peer before one told.1))
      ]

  -- what counts is taken by its peer
  taken : (before : List Happening) (one : Happening) (new : TablesContent) → counts plan before one ≡ true
      → Takes (tables_after plan before) one new → new ≡ tables_after plan (before ++ one ∷ [])
  taken before one new counted t =
      tables-same (before ++ one ∷ []) new t.plan (t.count ∙ length-map-range_with_len (rib_after before) 0 (length plan.peers)) each
    where
      parts : (nat_lt one.peer (length plan.peers) ≡ true) × (not (list_any is_close (changes_from one.peer before)) ≡ true)
      parts = and_parts (nat_lt one.peer (length plan.peers)) (not (list_any is_close (changes_from one.peer before))) counted

      known : one.peer < length plan.peers
      known = ltb-true one.peer (length plan.peers) parts.0

      none : list_any is_close (changes_from one.peer before) ≡ false
      none = not-true (list_any is_close (changes_from one.peer before)) parts.1

      given : List Change
      given = changes_from one.peer before

      held : left given ≡ (rib_of (tables_after plan before) one.peer).routes
      held = sym (ap (λ (rib : RibContent). rib.routes) (rib_of-after before one.peer known) ∙ ap left (up_to_close-open given none))

      routes : (rib_of new one.peer).routes ≡ left (given ++ change_of one.word ∷ [])
      routes = sym (t.routes given none held)

      closed : (rib_of new one.peer).closed ≡ list_any is_close (given ++ change_of one.word ∷ [])
      closed = t.closed ∙ sym (any-one_more is_close given (change_of one.word) none)

      all : up_to_close (changes_from one.peer (before ++ one ∷ [])) ≡ given ++ change_of one.word ∷ []
      all = ap up_to_close (changes_from-same before one) ∙ up_to_close-more given (change_of one.word) none

      each : (peer : ℕ) → peer < length plan.peers → rib_of new peer ≡ rib_after (before ++ one ∷ []) peer
      each peer below = elim (eqb_tells peer one.peer) [
        | inl told ↦
            let rib : rib_of new one.peer ≡ rib_left (given ++ change_of one.word ∷ []) =
            λ i. record { routes = routes i; closed = closed i } in
            subst (λ (p : ℕ). rib_of new p ≡ rib_after (before ++ one ∷ []) p) (sym told.1) (rib ∙ ap rib_left (sym all))
        | inr told ↦ t.others peer told.1 ∙ rib_of-after before peer below
            ∙ ap (λ (changes : List Change). rib_left (up_to_close changes)) (sym (changes_from-other peer before one told.1))
      ]

  -- one step
  step : (b : Bool) (before : List Happening) (one : Happening) (new : TablesContent) → counts plan before one ≡ b
      → TakesIf b (tables_after plan before) one new → new ≡ tables_after plan (before ++ one ∷ [])
  step true before one new is takes = taken before one new is takes
  step false before one new is takes = takes ∙ passed before one is

  pub tables-step : (before : List Happening) (one : Happening) (old new : TablesContent) → old ≡ tables_after plan before
      → TakesIf (is_open old one.peer) old one new → new ≡ tables_after plan (before ++ one ∷ [])
  tables-step before one old new is takes =
      let by_tables : TakesIf (is_open (tables_after plan before) one.peer) (tables_after plan before) one new =
      subst (λ (tables : TablesContent). TakesIf (is_open tables one.peer) tables one new) is takes in
      step (counts plan before one) before one new refl (subst (λ (b : Bool). TakesIf b (tables_after plan before) one new)
      (open-counts before one) by_tables)

  -- ---- what the client gets

  module _ (client : Option ℕ) (prefix : IpPrefix) where
    -- what it gets after one more thing
    pub gets-step : (before : List Happening) (one : Happening) (old new : TablesContent) → old ≡ tables_after plan before
        → new ≡ tables_after plan (before ++ one ∷ []) → gets_by (is_open old one.peer) new client prefix one
        ≡ gets_after plan client prefix before one
    gets-step before one old new is becomes =
        ap (λ (tables : TablesContent). gets_by (is_open tables one.peer) new client prefix one) is
        ∙ ap (λ (b : Bool). gets_by b new client prefix one) (open-counts before one)
        ∙ ap (λ (tables : TablesContent). gets_by (counts plan before one) tables client prefix one) becomes

    pub all_gets-more : (before : List Happening) (one : Happening)
        → all_gets plan client prefix (before ++ one ∷ []) ≡ all_gets plan client prefix before
        ++ option_to_list (gets_after plan client prefix before one)
    all_gets-more before one =
        each_behind-more (λ (earlier : List Happening) (h : Happening). option_to_list (gets_after plan client prefix earlier h)) []
        before one

-- ---- what is noted

best_last-append : (first : Option ℕ) (xs ys : List GetsContent) → best_last first (xs ++ ys) ≡ best_last (best_last first xs) ys
best_last-append first [] ys = refl
best_last-append first (x ∷ xs) ys = best_last-append x.best xs ys

pub notes-nothing : (history : History) → Notes history [] history
notes-nothing history = record {
  prefix = refl;
  client = refl;
  from = refl;
  events = sym (append-nil (map gets_content history.events.items));
  before = refl;
}

pub notes-more : (asked old new : History) (some more : List GetsContent) → Notes asked some old → Notes old more new
    → Notes asked (some ++ more) new
notes-more asked old new some more first next =
    let shown : List GetsContent → List GetsContent = filter (λ (gets : GetsContent). not (is_before gets.time asked.from)) in
    let earlier : List GetsContent → List GetsContent = filter (λ (gets : GetsContent). is_before gets.time asked.from) in
    let events : map gets_content new.events.items ≡ map gets_content old.events.items ++ shown more =
    subst (λ (from : Option ℕ). map gets_content new.events.items ≡ map gets_content old.events.items
    ++ filter (λ (gets : GetsContent). not (is_before gets.time from)) more) first.from next.events in
    let before : new.before ≡ best_last old.before (earlier more) =
    subst (λ (from : Option ℕ). new.before ≡ best_last old.before (filter (λ (gets : GetsContent). is_before gets.time from) more))
    first.from next.before in
    record {
      prefix = next.prefix ∙ first.prefix;
      client = next.client ∙ first.client;
      from = next.from ∙ first.from;
      events = events ∙ ap (λ (all : List GetsContent). all ++ shown more) first.events
          ∙ append_assoc (map gets_content asked.events.items) (shown some) (shown more)
          ∙ ap (λ (all : List GetsContent). map gets_content asked.events.items ++ all)
          (sym (filter-append (λ (gets : GetsContent). not (is_before gets.time asked.from)) some more));
      before = before ∙ ap (λ (best : Option ℕ). best_last best (earlier more)) first.before
          ∙ sym (best_last-append asked.before (earlier some) (earlier more))
          ∙ ap (best_last asked.before) (sym (filter-append (λ (gets : GetsContent). is_before gets.time asked.from) some more));
    }
