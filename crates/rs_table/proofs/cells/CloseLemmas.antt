-- What is left of all cells where a peer's routes go: for `withdraw_all` of cells.rt, and MergeLemmas.
use Rattle.std.proofs.Common.{◌≡◌, ℕ, Bool, true, false, cond, [], ◌∷◌, ◌++◌, map, None, refl, sym, ap, subst, ◌∙◌, inl, inr}
use Rattle.std.specs.List.{AllByRecursion, FoldsTo}
use Rattle.std.specs.List.Sorted.{IsStrictlySortedBy}
use Rattle.std.specs.Map.Calls.{RetainsPairs, SomeCallAtPair}
use Rattle.std.specs.declared.cmp.Ordering.TheVariants.{Less}
use Rattle.std.proofs.lemmas.Bool.{cases_Bool}
use Rattle.rs_types.specs.IpPrefix.{IpPrefix}
use Rattle.rs_types.specs.PrefixOrder.{prefix_cmp, same_prefix}
use Rattle.rs_table.specs.ByPeer.{without_route}
use Rattle.rs_table.specs.Cell.{CellContent, routes_in}
use Rattle.rs_table.specs.Cells.{Entries, cell_at, routes_at, routes_of}
use Rattle.rs_table.proofs.PrefixLemmas.{same_prefix-true}
use Rattle.rs_table.proofs.cells.CellsLemmas.{Each}

abbrev pub Below : IpPrefix → Entries → Type 0
Below prefix entries = AllByRecursion (λ other. prefix_cmp prefix other ≡ Less) (map (λ entry. entry.0) entries)

pub none_below : (q : IpPrefix) (entries : Entries) → Below q entries → cell_at entries q ≡ None
none_below q [] below = refl
none_below q (e ∷ es) below = rw below.0 (none_below q es below.1)

-- what one call of the closure does
abbrev pub Withdraws : (CellContent → Type 0) → ℕ → CellContent → Bool → CellContent → Type 0
Withdraws P peer old left new =
    (routes_in new ≡ without_route (routes_in old) peer) × (left ≡ true → P new) × (left ≡ false → routes_in new ≡ [])

pub member-each : (P : IpPrefix → CellContent → Type 0) (before after : Entries) (prefix : IpPrefix) (cell : CellContent)
    → Each P (before ++ (prefix, cell) ∷ after) → P prefix cell
member-each P [] after prefix cell all = all.0
member-each P (e ∷ es) after prefix cell all = member-each P es after prefix cell all.1

pub front-each : (P : IpPrefix → CellContent → Type 0) (before after : Entries) → Each P (before ++ after) → Each P before
front-each P [] after all = tt
front-each P (e ∷ es) after all = (all.0, front-each P es after all.1)

module _ {F : Type 0} (T : F → IpPrefix → CellContent → Bool → CellContent → F → Type 0) (P : IpPrefix → CellContent → Type 0) (peer : ℕ)
    (f : F)
    (calls : (k : IpPrefix) (v : CellContent) (b : Bool) (w : CellContent) (f' : F) → P k v → T f k v b w f' → Withdraws (P k) peer v b w
    × (f' ≡ f)) where
  pub left-each : (es kept : Entries) → Each P es → RetainsPairs T f es kept → Each P kept
  left-each [] kept all kept_is = subst (Each P) (sym kept_is) tt
  left-each (e ∷ es) kept all (b, w, f', rest, call, later, kept_is) =
      let one = calls e.0 e.1 b w f' all.0 call in
      let others : Each P rest = left-each es rest all.1 (subst (λ g. RetainsPairs T g es rest) one.1 later) in
      subst (Each P) (sym kept_is) (by_left b one.0.1 others)
    where
      by_left : (b : Bool) → (b ≡ true → P e.0 w) → Each P rest → Each P (cond b ((e.0, w) ∷ rest) rest)
      by_left true is others = (is refl, others)
      by_left false is others = others

  pub left-routes : (es kept : Entries) → Each P es → IsStrictlySortedBy prefix_cmp (map (λ entry. entry.0) es) → RetainsPairs T f es kept →
      (q : IpPrefix) → routes_at kept q ≡ without_route (routes_at es q) peer
  unfolding IsStrictlySortedBy
  left-routes [] kept all sorted kept_is q = ap (λ entries. routes_at entries q) kept_is
  left-routes (e ∷ es) kept all sorted (b, w, f', rest, call, later, kept_is) q =
      let one = calls e.0 e.1 b w f' all.0 call in
      let others : routes_at rest q ≡ without_route (routes_at es q) peer =
      left-routes es rest all.1 sorted.1 (subst (λ g. RetainsPairs T g es rest) one.1 later) q in
      ap (λ entries. routes_at entries q) kept_is
      ∙ elim (cases_Bool (same_prefix q e.0)) [
        | inl here ↦
            let gone : routes_at es q ≡ [] =
            ap routes_of (none_below q es (subst (λ p. Below p es) (sym (same_prefix-true q e.0 here)) sorted.0)) in
            rw here (at_one b one.0 (others ∙ ap (λ routes. without_route routes peer) gone) here)
        | inr there ↦ rw there (past_one b others there)
      ]
    where
      at_one : (b : Bool) → Withdraws (P e.0) peer e.1 b w → routes_at rest q ≡ [] → same_prefix q e.0 ≡ true
          → routes_at (cond b ((e.0, w) ∷ rest) rest) q ≡ without_route (routes_in e.1) peer
      at_one true call none here = rw here call.0
      at_one false call none here = none ∙ sym (call.2 refl) ∙ call.0

      past_one : (b : Bool) → routes_at rest q ≡ without_route (routes_at es q) peer → same_prefix q e.0 ≡ false
          → routes_at (cond b ((e.0, w) ∷ rest) rest) q ≡ without_route (routes_at es q) peer
      past_one true others there = rw there others
      past_one false others there = others

  -- the closure stays as it was
  pub folds_same : (es : Entries) (f' : F) → Each P es → FoldsTo (SomeCallAtPair T) f es f' → f' ≡ f
  folds_same [] f' all folds = sym folds
  folds_same (e ∷ es) f' all (j, (b, w, call), later) =
      folds_same es f' all.1 (subst (λ g. FoldsTo (SomeCallAtPair T) g es f') (calls e.0 e.1 b w j all.0 call).1 later)
