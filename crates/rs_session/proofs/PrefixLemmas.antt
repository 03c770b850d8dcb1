-- A sorted list of prefixes, searched, and the lists that hold the same prefixes.
use Rattle.std.proofs.lemmas.Bool.Decides.{leb_tells}
use Rattle.std.proofs.Common.{inl, inr, ◌≡◌, ℕ, not, List, [], ◌∷◌, refl, length, IsSorted, IsPermutation, sym, ap, arith, is_ok, Result, Ok}
use Rattle.std.proofs.Common.{Err, ◌&&◌, ◌||◌, ◌==◌}
use Rattle.std.specs.List.{list_any}
use Rattle.std.specs.Ordering.{is_eq}
use Rattle.std.specs.Cmp.{IsTotalOrder}
use Rattle.std.specs.List.Sorted.{IsBinarySearchResult, IsSearchInRange}
use Rattle.std.proofs.lemmas.List.Elements.{filter_agree}
use Rattle.std.proofs.lemmas.Cmp.{nat_cmp_total, on_total, then_total}
use Rattle.std.proofs.lemmas.List.Folds.{list_any_at, list_any_none}
use Rattle.std.proofs.lemmas.List.Sorted.{searchable_from_sorted, list_any-IsPermutation}
use Rattle.std.proofs.lemmas.Grind.{common_steps}
use Rattle.rs_update.specs.IpPrefix.{IpPrefix}
use Rattle.rs_update.specs.Prefix.{is_multicast}
use Rattle.rs_update.specs.PrefixOrder.{prefix_cmp, same_prefix}
use Rattle.rs_session.specs.UpdateChanges.{is_listed, withdrawn_only}

pub prefix_total : IsTotalOrder prefix_cmp
prefix_total = then_total (on_total (λ p. p.address) nat_cmp_total) (on_total (λ p. p.len) nat_cmp_total)

-- two prefixes are the same by their fields
same_fields : (one other : IpPrefix) → ((one.address == other.address) && (one.len == other.len)) ≡ same_prefix one other
same_fields one other = grind (arith, common_steps)

pub listed-fields : (prefixes : List IpPrefix) (prefix : IpPrefix)
    → list_any (λ (other : IpPrefix). (other.address == prefix.address) && (other.len == prefix.len)) prefixes ≡ is_listed prefixes prefix
listed-fields [] prefix = refl
listed-fields (other ∷ rest) prefix = λ i. same_fields other prefix i || listed-fields rest prefix i

-- a search of a sorted list finds just what it lists
pub is_ok-search : (sorted : List IpPrefix) (prefix : IpPrefix) (r : Result ℕ ℕ) → IsSorted prefix_cmp sorted
    → IsSearchInRange r (length sorted) → IsBinarySearchResult (λ y. prefix_cmp y prefix) sorted r → is_ok r ≡ is_listed sorted prefix
is_ok-search sorted prefix (Ok i) up within h =
    sym (list_any_at (λ y. same_prefix y prefix) sorted i prefix within (ap is_eq (h prefix)))
is_ok-search sorted prefix (Err i) up within h =
    let apart = h (searchable_from_sorted prefix_total (λ p. p) sorted prefix up) in
    sym (list_any_none (λ y. same_prefix y prefix) sorted (λ k d below.
    elim (leb_tells i k) [
      | inl behind ↦ ap is_eq (apart.1 k d behind.1 below)
      | inr before ↦ ap is_eq (apart.0 k d (omega arith) before.1)
    ]))

-- which prefixes are withdrawn doesn't depend on the order of those announced
pub withdrawn_only-IsPermutation : (withdrawn nlri sorted : List IpPrefix) → IsPermutation nlri sorted
    → withdrawn_only withdrawn nlri ≡ withdrawn_only withdrawn sorted
withdrawn_only-IsPermutation withdrawn nlri sorted h =
    filter_agree _ _ (λ prefix. ap (λ b. not (is_multicast prefix) && not b)
    (list_any-IsPermutation (λ other. same_prefix other prefix) nlri sorted h)) withdrawn
