-- The rows of a client that are to come: for `first_prefix` and `take` of rows_to_come.rt, and what is above them.
use Rattle.std.proofs.Common.{◌≡◌, ◌∙◌, sym, ap, subst, refl, ℕ, List, [], ◌∷◌, map, true, false, inl, inr}
use Rattle.std.specs.Prelude.{◌⊎◌, Option, None, Some}
use Rattle.std.specs.List.{AllByRecursion, cons_option}
use Rattle.std.specs.List.Sorted.{IsStrictlySortedBy}
use Rattle.std.specs.Ordering.{eq_by_cmp, is_eq, ordering_reverse}
use Rattle.std.specs.Cmp.{tied_itself}
use Rattle.std.specs.Iterator.{YieldsFirstBy}
use Rattle.std.specs.Option.{option_map}
use Rattle.std.specs.declared.cmp.Ordering.{Ordering}
use Rattle.std.specs.declared.cmp.Ordering.TheVariants.{Less, Equal, Greater}
use Rattle.rs_update.specs.IpPrefix.{IpPrefix}
use Rattle.rs_update.specs.PrefixOrder.{prefix_cmp}
use Rattle.rs_table.specs.RouteView.{row_of, sent_route_of}
use Rattle.rs_table.specs.Content.{TablesContent}
use Rattle.rs_table.specs.Table.{IsTable, TableRow, route_in}
use Rattle.rs_table.specs.declared.route.Row.{Row}
use Rattle.rs_table.proofs.PrefixLemmas.{prefix_total, prefix_cmp-IsAntisymmetric}
use Rattle.rs_survey.specs.Differences.{ClientOf, IsBehind, route_of}
use Rattle.rs_survey.specs.RowsToCome.{Ahead, AreAhead, AreAll, GetsNoneBetween, GetsNoneBehind, IsFirst, ahead_view, rows_in}
use Rattle.rs_survey.specs.declared.rows_to_come.RowsToCome.TheInside.{Inside}

-- ---- the order of prefixes

pub order : (p q : IpPrefix) → (prefix_cmp p q ≡ Less) ⊎ ((p ≡ q) ⊎ (prefix_cmp q p ≡ Less))
order p q = by (prefix_cmp p q) refl
  where
    by : (o : Ordering) → prefix_cmp p q ≡ o → (prefix_cmp p q ≡ Less) ⊎ ((p ≡ q) ⊎ (prefix_cmp q p ≡ Less))
    by Less e = inl e
    by Equal e = inr (inl (prefix_cmp-IsAntisymmetric p q e))
    by Greater e = inr (inr (prefix_total.antisymm q p ∙ ap ordering_reverse e))

pub behind-later : (last : Option IpPrefix) (p q : IpPrefix) → IsBehind last p → prefix_cmp p q ≡ Less → IsBehind last q
behind-later None p q behind less = tt
behind-later (Some last) p q behind less = prefix_total.trans last p q behind less

abbrev Below : IpPrefix → List IpPrefix → Type 0
Below prefix prefixes = AllByRecursion (λ other. prefix_cmp prefix other ≡ Less) prefixes

below-later : (p q : IpPrefix) → prefix_cmp p q ≡ Less → (prefixes : List IpPrefix) → Below q prefixes → Below p prefixes
below-later p q less [] below = tt
below-later p q less (x ∷ xs) below = (prefix_total.trans p q x less below.0, below-later p q less xs below.1)

-- ---- what is found among rows

abbrev prefixes_of : List TableRow → List IpPrefix
prefixes_of rows = map (λ row. row.prefix) rows

none-before : (q : IpPrefix) (rows : List TableRow) → Below q (prefixes_of rows) → route_in rows q ≡ None
none-before q [] below = refl
none-before q (row ∷ rows) below =
    let apart : eq_by_cmp prefix_cmp q row.prefix ≡ false = ap is_eq below.0 in
    rw apart (none-before q rows below.1)

passed : (q : IpPrefix) (row : TableRow) (rows : List TableRow) → prefix_cmp row.prefix q ≡ Less → route_in (row ∷ rows) q ≡ route_in rows q
passed q row rows less =
    let apart : eq_by_cmp prefix_cmp q row.prefix ≡ false = ap is_eq (prefix_total.antisymm q row.prefix ∙ ap ordering_reverse less) in
    rw apart refl

here : (row : TableRow) (rows : List TableRow) → route_in (row ∷ rows) row.prefix ≡ Some row.route
here row rows =
    let same : eq_by_cmp prefix_cmp row.prefix row.prefix ≡ true = ap is_eq (tied_itself prefix_total row.prefix) in
    rw same refl

-- ---- rows that ascend behind a prefix

sorted-rows : (last : Option IpPrefix) (prefixes : List IpPrefix) → IsStrictlySortedBy prefix_cmp (cons_option last prefixes)
    → IsStrictlySortedBy prefix_cmp prefixes
unfolding IsStrictlySortedBy
sorted-rows None prefixes h = h
sorted-rows (Some last) prefixes h = h.1

first-behind : (last : Option IpPrefix) (x : IpPrefix) (prefixes : List IpPrefix)
    → IsStrictlySortedBy prefix_cmp (cons_option last (x ∷ prefixes)) → IsBehind last x
unfolding IsStrictlySortedBy
first-behind None x prefixes h = tt
first-behind (Some last) x prefixes h = h.0.0

rest-below : (last : Option IpPrefix) (x : IpPrefix) (prefixes : List IpPrefix)
    → IsStrictlySortedBy prefix_cmp (cons_option last (x ∷ prefixes)) → Below x prefixes
unfolding IsStrictlySortedBy
rest-below None x prefixes h = h.0
rest-below (Some last) x prefixes h = h.1.0

sorted-from : (p : IpPrefix) (prefixes : List IpPrefix) → Below p prefixes → IsStrictlySortedBy prefix_cmp prefixes
    → IsStrictlySortedBy prefix_cmp (p ∷ prefixes)
unfolding IsStrictlySortedBy
sorted-from p prefixes below sorted = (below, sorted)

module _ (whose : ClientOf) (last : Option IpPrefix) where
  -- of the first one
  module _ (row : TableRow) (rows : List TableRow) (are : AreAll (record { whose = whose; last = last; rows = row ∷ rows })) where
    pub is-behind : IsBehind last row.prefix
    is-behind = first-behind last row.prefix (prefixes_of rows) are.ascending

    none-till : (q : IpPrefix) → IsBehind last q → prefix_cmp q row.prefix ≡ Less → route_of whose q ≡ None
    none-till q behind less =
        sym (are.all q behind)
        ∙ none-before q (row ∷ rows)
        (less, below-later q row.prefix less (prefixes_of rows) (rest-below last row.prefix (prefixes_of rows) are.ascending))

    pub gets : Some row.route ≡ route_of whose row.prefix
    gets = sym (here row rows) ∙ are.all row.prefix is-behind

    pub is-first : IsFirst (record { whose = whose; last = last; rows = row ∷ rows }) row.prefix
    is-first = record {
      behind = is-behind;
      between = none-till;
      some = λ none. absurd (cc (gets ∙ none));
    }

    pub taken : AreAll (record { whose = whose; last = Some row.prefix; rows = rows })
    taken = record {
      ascending = sorted-rows last (row.prefix ∷ prefixes_of rows) are.ascending;
      all = λ q behind. sym (passed q row rows behind) ∙ are.all q (behind-later last row.prefix q is-behind behind);
    }

    module _ (p : IpPrefix) (behind : IsBehind last p) (between : GetsNoneBetween whose last p) (apart : row.prefix ≡ p → ⊥) where
      is-later : prefix_cmp p row.prefix ≡ Less
      is-later = elim (order p row.prefix) [
        | inl less ↦ less
        | inr (inl same) ↦ absurd (apart (sym same))
        | inr (inr more) ↦ absurd (cc (gets ∙ between row.prefix is-behind more))
      ]

      pub gets-none : None ≡ route_of whose p
      gets-none = sym (none-till p behind is-later)

      pub left-over : AreAll (record { whose = whose; last = Some p; rows = row ∷ rows })
      left-over = record {
        ascending = sorted-from p (prefixes_of (row ∷ rows))
            (is-later, below-later p row.prefix is-later (prefixes_of rows) (rest-below last row.prefix (prefixes_of rows) are.ascending))
            (sorted-rows last (row.prefix ∷ prefixes_of rows) are.ascending);
        all = λ q later. are.all q (behind-later last p q behind later);
      }

  -- of none
  module _ (are : AreAll (record { whose = whose; last = last; rows = [] })) where
    pub none-behind : GetsNoneBehind whose last
    none-behind q behind = sym (are.all q behind)

    pub still-none : (p : IpPrefix) → IsBehind last p → AreAll (record { whose = whose; last = Some p; rows = [] })
    unfolding IsStrictlySortedBy
    still-none p behind = record {
      ascending = (tt, tt);
      all = λ q later. are.all q (behind-later last p q behind later);
    }

-- ---- all rows of a client

abbrev AllOf : TablesContent → Option ℕ → List TableRow → Type 0
AllOf tables client rows = AreAll (record { whose = record { tables = tables; client = client }; last = None; rows = rows })

pub all-of-client : (tables : TablesContent) (client : Option ℕ) (number : ℕ) (rest : Option (List TableRow)) (rows : List TableRow)
    → client ≡ Some number → rest ≡ Some rows → IsTable tables number rows → AllOf tables client (rows_in rest)
all-of-client tables client number rest rows is at table =
    subst (λ (client : Option ℕ). AllOf tables client (rows_in rest)) (sym is)
    (subst (λ (rest : Option (List TableRow)). AllOf tables (Some number) (rows_in rest)) (sym at)
    (record { ascending = table.ascending; all = λ q behind. table.best q }))

pub none-of-absent : (tables : TablesContent) (client : Option ℕ) (rest : Option (List TableRow)) → client ≡ None → rest ≡ None
    → AllOf tables client (rows_in rest)
unfolding IsStrictlySortedBy
none-of-absent tables client rest is at =
    subst (λ (client : Option ℕ). AllOf tables client (rows_in rest)) (sym is)
    (subst (λ (rest : Option (List TableRow)). AllOf tables None (rows_in rest)) (sym at)
    (record { ascending = tt; all = λ q behind. refl }))

-- the first of them, and those behind it
pub first-of-all : (tables : TablesContent) (client : Option ℕ) (rows : List TableRow) (first : Option Row) (rest : List TableRow)
    → AllOf tables client rows → YieldsFirstBy row_of (λ (rows : List TableRow). rows) rows first rest
    → (first ≡ None → rest ≡ []) × AllOf tables client (cons_option (option_map row_of first) rest)
first-of-all tables client rows None rest are steps =
    (λ none. steps.1, subst (λ (rows : List TableRow). AllOf tables client rows) (steps.0 ∙ sym steps.1) are)
first-of-all tables client rows (Some one) rest are steps =
    (λ none. absurd (cc none), subst (λ (rows : List TableRow). AllOf tables client rows) steps are)

-- ---- the same by the fields

abbrev ahead_of : Inside → Option Row → Option IpPrefix → List TableRow → Ahead
ahead_of fields first last rest = record {
  whose = (ahead_view fields).whose;
  last = last;
  rows = cons_option (option_map row_of first) rest;
}

module _ (fields : Inside) (is : AreAhead fields) where
  all-are : (row : Row) → fields.first ≡ Some row → AreAll (ahead_of fields (Some row) fields.last (rows_in fields.rest))
  all-are row found = subst (λ (first : Option Row). AreAll (ahead_of fields first fields.last (rows_in fields.rest))) found is.are_all

  pub first-is : (row : Row) → fields.first ≡ Some row → IsFirst (ahead_view fields) row.prefix
  first-is row found =
      subst (λ (first : Option Row). IsFirst (ahead_of fields first fields.last (rows_in fields.rest)) row.prefix) (sym found)
      (is-first (ahead_view fields).whose fields.last (row_of row) (rows_in fields.rest) (all-are row found))

  pub first-gets : (row : Row) → fields.first ≡ Some row → Some (sent_route_of row.route) ≡ route_of (ahead_view fields).whose row.prefix
  first-gets row found = gets (ahead_view fields).whose fields.last (row_of row) (rows_in fields.rest) (all-are row found)

  pub none-are : fields.first ≡ None → AreAll (ahead_of fields None fields.last [])
  none-are none =
      subst (λ (rest : List TableRow). AreAll (ahead_of fields None fields.last rest)) (is.ends none)
      (subst (λ (first : Option Row). AreAll (ahead_of fields first fields.last (rows_in fields.rest))) none is.are_all)

  pub all-behind : fields.first ≡ None → GetsNoneBehind (ahead_view fields).whose fields.last
  all-behind none = none-behind (ahead_view fields).whose fields.last (none-are none)

  module _ (p : IpPrefix) (behind : IsBehind fields.last p) where
    pub after-none : fields.first ≡ None → (first : Option Row) → first ≡ None
        → AreAhead (record { tables = fields.tables; client = fields.client; first = first; rest = fields.rest; last = Some p })
    after-none none first gone = record {
      ends = λ _. is.ends none;
      are_all =
          subst (λ (first : Option Row). AreAll (ahead_of fields first (Some p) (rows_in fields.rest))) (sym gone)
          (subst (λ (rest : List TableRow). AreAll (ahead_of fields None (Some p) rest)) (sym (is.ends none))
          (still-none (ahead_view fields).whose fields.last (none-are none) p behind));
    }

    module _ (row : Row) (found : fields.first ≡ Some row) (between : GetsNoneBetween (ahead_view fields).whose fields.last p)
        (apart : row.prefix ≡ p → ⊥) where
      pub none-on : None ≡ route_of (ahead_view fields).whose p
      none-on = gets-none (ahead_view fields).whose fields.last (row_of row) (rows_in fields.rest) (all-are row found) p behind between apart

      pub after-other : AreAhead (record {
        tables = fields.tables;
        client = fields.client;
        first = Some row;
        rest = fields.rest;
        last = Some p;
      })
      after-other = record {
        ends = λ none. absurd (cc none);
        are_all = left-over (ahead_view fields).whose fields.last (row_of row) (rows_in fields.rest) (all-are row found) p behind between apart;
      }

  -- the next row is the first of the rest
  pub after-taken : (row : Row) → fields.first ≡ Some row → (p : IpPrefix) → row.prefix ≡ p → (next : Option Row) (rest : Option (List TableRow))
      → YieldsFirstBy row_of (λ (rows : List TableRow). rows) (rows_in fields.rest) next (rows_in rest)
      → AreAhead (record { tables = fields.tables; client = fields.client; first = next; rest = rest; last = Some p })
  after-taken row found p same next rest steps =
      let are = taken (ahead_view fields).whose fields.last (row_of row) (rows_in fields.rest) (all-are row found) in
      by next steps
      (subst (λ (q : IpPrefix). AreAll (record { whose = (ahead_view fields).whose; last = Some q; rows = rows_in fields.rest })) same are)
    where
      by : (next : Option Row) → YieldsFirstBy row_of (λ (rows : List TableRow). rows) (rows_in fields.rest) next (rows_in rest)
          → AreAll (record { whose = (ahead_view fields).whose; last = Some p; rows = rows_in fields.rest })
          → AreAhead (record { tables = fields.tables; client = fields.client; first = next; rest = rest; last = Some p })
      by None steps are = record {
        ends = λ _. steps.1;
        are_all = subst (λ (rows : List TableRow). AreAll (ahead_of fields None (Some p) rows)) (steps.0 ∙ sym steps.1) are;
      }
      by (Some one) steps are = record {
        ends = λ none. absurd (cc none);
        are_all = subst (λ (rows : List TableRow). AreAll (record { whose = (ahead_view fields).whose; last = Some p; rows = rows }))
            steps are;
      }
