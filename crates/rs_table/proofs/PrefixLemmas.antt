-- The order of prefixes is total, and tells all prefixes apart: for `join` of cells.rt, LeftLemmas, MergeLemmas, and the lemmas of cells,
-- listing and tables.
use Rattle.std.proofs.Common.{◌≡◌, true, false, cond, ◌||◌, List, [], ◌∷◌, Option, Some, None, refl, sym, ap, ◌∙◌, inl, inr}
use Rattle.std.proofs.lemmas.Bool.{cases_Bool}
use Rattle.std.specs.List.{filter_map, cons_option, list_any}
use Rattle.std.specs.Option.{option_map}
use Rattle.std.specs.Ordering.{nat_cmp, ordering_then, is_eq}
use Rattle.std.specs.Cmp.{IsTotalOrder, Equal-is, nat_cmp_total, on_total, then_total, tied_itself}
use Rattle.std.specs.FinMap.{IsAntisymmetric, nat_cmp-IsAntisymmetric, find}
use Rattle.std.specs.declared.cmp.Ordering.{Ordering}
use Rattle.std.specs.declared.cmp.Ordering.TheVariants.{Less, Equal, Greater}
use Rattle.rs_types.specs.IpPrefix.{IpPrefix}
use Rattle.rs_types.specs.PrefixOrder.{prefix_cmp, same_prefix}

pub prefix_total : IsTotalOrder prefix_cmp
prefix_total = then_total (on_total (λ (p : IpPrefix). p.address) nat_cmp_total) (on_total (λ (p : IpPrefix). p.len) nat_cmp_total)

then_first : (r s : Ordering) → ordering_then r s ≡ Equal → r ≡ Equal
then_first Less s e = cc e
then_first Equal s e = refl
then_first Greater s e = cc e

then_second : (r s : Ordering) → ordering_then r s ≡ Equal → s ≡ Equal
then_second Less s e = cc e
then_second Equal s e = e
then_second Greater s e = cc e

pub prefix_cmp-IsAntisymmetric : IsAntisymmetric prefix_cmp
prefix_cmp-IsAntisymmetric x y e =
    let address : x.address ≡ y.address = nat_cmp-IsAntisymmetric x.address y.address (then_first _ _ e) in
    let len : x.len ≡ y.len = nat_cmp-IsAntisymmetric x.len y.len (then_second (nat_cmp x.address y.address) _ e) in
    λ i. record { address = address i; len = len i }

-- one test of two prefixes says that they are equal
pub same_prefix-true : (x y : IpPrefix) → same_prefix x y ≡ true → x ≡ y
same_prefix-true x y e = prefix_cmp-IsAntisymmetric x y ((Equal-is (prefix_cmp x y)).0 e)

pub same_prefix-itself : (x : IpPrefix) → same_prefix x x ≡ true
same_prefix-itself x = ap is_eq (tied_itself prefix_total x)

-- the entries of some prefixes, each with what f says of it: a look-up finds just that
pub find-entries : {X : Type 0} (f : IpPrefix → Option X) (q : IpPrefix) (prefixes : List IpPrefix) →
    find prefix_cmp q (filter_map (λ p. option_map (λ route. (p, route)) (f p)) prefixes)
    ≡ cond (list_any (same_prefix q) prefixes) (f q) None
find-entries f q [] = refl
find-entries {X} f q (p ∷ ps) =
    let rest = find-entries f q ps in
    let at : Option X → Type 0 =
    λ o. find prefix_cmp q (cons_option (option_map (λ route. (p, route)) o)
    (filter_map (λ p. option_map (λ route. (p, route)) (f p)) ps))
    ≡ cond (same_prefix q p || list_any (same_prefix q) ps) (f q) None in
    elim (cases_Bool (same_prefix q p)) [
      | inl same ↦
          let one : f p ≡ f q = ap f (sym (same_prefix-true q p same)) in
          let step : (o : Option X) → f q ≡ o → at o = elim [
            | None ↦ λ none. rest ∙ elim (list_any (same_prefix q) ps) as (λ b. cond b (f q) None ≡ cond (same_prefix q p || b) (f q) None)
                [ true ↦ rw (same) refl | false ↦ rw (same) (sym none) ]
            | Some route ↦ λ some. rw (same) (sym some)
          ] in
          step (f p) (sym one)
      | inr apart ↦
          let step : (o : Option X) → at o = elim [
            | None ↦ rw (apart) rest
            | Some route ↦ rw (apart) rest
          ] in
          step (f p)
    ]
