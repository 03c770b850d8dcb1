-- Entries that a second pass brings: for `join` of cells.rt.
use Rattle.std.proofs.Common.{◌≡◌, Bool, false, cond, [], ◌∷◌, ◌++◌, Option, Some, None, refl, ap, ◌∙◌, inl, inr}
use Rattle.std.specs.BTreeMap.{BTreeMap, Updates}
use Rattle.std.specs.Cmp.{eq_by_cmp_equiv}
use Rattle.std.specs.List.{AllByRecursion, IsDistinct}
use Rattle.std.specs.Map.{keys_of}
use Rattle.std.specs.Option.{option_or}
use Rattle.std.specs.Ordering.{eq_by_cmp}
use Rattle.std.proofs.lemmas.Bool.{cases_Bool}
use Rattle.std.proofs.lemmas.Map.{lookup-none}
use Rattle.std.proofs.lemmas.Map.Entries.{none_past_head}
use Rattle.std.proofs.lemmas.Map.Keys.{IsDistinct-cons, IsDistinct-head, IsDistinct-tail}
use Rattle.rs_types.specs.IpPrefix.{IpPrefix}
use Rattle.rs_types.specs.PrefixOrder.{prefix_cmp}
use Rattle.rs_table.specs.Cell.{CellContent}
use Rattle.rs_table.specs.Cells.{Entries, cell_at}
use Rattle.rs_table.proofs.PrefixLemmas.{prefix_total}
use Rattle.rs_table.proofs.cells.CellsLemmas.{at-update}

abbrev same : IpPrefix → IpPrefix → Bool
same = eq_by_cmp prefix_cmp

abbrev pub AreDistinct : Entries → Type 0
AreDistinct entries = IsDistinct same (keys_of entries)

module _ (one : IpPrefix × CellContent) (rest : Entries) where
  all-without : (prefix : IpPrefix) (left : Entries) → AllByRecursion (λ other. same prefix other ≡ false) (keys_of (left ++ one ∷ rest)) →
      AllByRecursion (λ other. same prefix other ≡ false) (keys_of (left ++ rest))
  all-without prefix [] all = all.1
  all-without prefix (e ∷ left) all = (all.0, all-without prefix left all.1)

  -- without one of them, entries stay distinct
  pub distinct-without : (left : Entries) → AreDistinct (left ++ one ∷ rest) → AreDistinct (left ++ rest)
  distinct-without [] distinct = IsDistinct-tail same one.0 (keys_of rest) distinct
  distinct-without (e ∷ left) distinct =
      IsDistinct-cons same e.0 (keys_of (left ++ rest))
      (all-without e.0 left (IsDistinct-head same e.0 (keys_of (left ++ one ∷ rest)) distinct))
      (distinct-without left (IsDistinct-tail same e.0 (keys_of (left ++ one ∷ rest)) distinct))

  -- and nothing is lost where that one is written instead
  pub found-without : (left : Entries) → AreDistinct (left ++ one ∷ rest) → (found : Option CellContent) (prefix : IpPrefix) →
      option_or (cell_at (left ++ rest) prefix) (cond (same prefix one.0) (Some one.1) found)
      ≡ option_or (cell_at (left ++ one ∷ rest) prefix) found
  found-without [] distinct found prefix =
      elim (cases_Bool (same prefix one.0)) [
        | inl here ↦
            let none : cell_at rest prefix ≡ None =
            lookup-none (same prefix) rest (none_past_head (eq_by_cmp_equiv prefix_total) prefix one rest distinct here) in
            rw (here, none) refl
        | inr there ↦ rw there refl
      ]
  found-without (e ∷ left) distinct found prefix =
      elim (cases_Bool (same prefix e.0)) [
        | inl here ↦ rw here refl
        | inr there ↦ rw there (found-without left (IsDistinct-tail same e.0 (keys_of (left ++ one ∷ rest)) distinct) found prefix)
      ]

-- the cells of two maps are those that one of them holds by now, and some that are to come
pub record AreToCome (to_come : Entries) (cells : Entries) (one other : Entries) : Type 0 where
  pub distinct : AreDistinct to_come
  pub joined : (prefix : IpPrefix) → option_or (cell_at to_come prefix) (cell_at cells prefix)
      ≡ option_or (cell_at other prefix) (cell_at one prefix)

module _ (one other : Entries) (m n : BTreeMap IpPrefix CellContent) (left rest : Entries) (next : IpPrefix × CellContent) where
  -- one of those to come is written
  pub written : AreToCome (left ++ next ∷ rest) m.entries one other → Updates prefix_cmp m n next.0 (Some next.1)
      → AreToCome (left ++ rest) n.entries one other
  written to_come updates = record {
    distinct = distinct-without next rest left to_come.distinct;
    joined = λ prefix.
        ap (option_or (cell_at (left ++ rest) prefix)) (at-update m n next.0 (Some next.1) updates prefix)
        ∙ found-without next rest left to_come.distinct (cell_at m.entries prefix) prefix
        ∙ to_come.joined prefix;
  }
