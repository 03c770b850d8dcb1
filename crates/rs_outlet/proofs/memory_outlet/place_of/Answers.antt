use Rattle.std.proofs.Common.{rules, ◌≡◌, ◌∙◌, ◌<◌, ◌+◌, List, ℕ, String, Global, arith, ap, length, map, slice_index_or, string_bytes}
use Rattle.std.proofs.Common.{subst, sym}
use Rattle.std.proofs.Math.ListN.{get_or-map}
use Rattle.std.proofs.lemmas.List.{get_or_default, length-map}
use Rattle.std.proofs.Common.{◌⊎◌, inl, inr}
use Rattle.rs_outlet.proofs.memory_outlet.place_of.Goals as goal

abbrev bytes : String Global → List ℕ
bytes one = string_bytes one

-- what stands at a place, as a name
at : (names : List (String Global)) (place : ℕ) (one : String Global) → one ≡ slice_index_or names place one
    → slice_index_or (map bytes names) place (bytes one) ≡ bytes one
at names place one is = get_or-map bytes names place one ∙ ap bytes (sym is)

pub returns-then-eq-clause-here : goal.returns-then-eq-clause-here
returns-then-eq-clause-here c =
    let is : c.index-names-place.result ≡ slice_index_or c.args.names.now c.loop-place.place c.index-names-place.result = search rules in
    let same : bytes c.index-names-place.result ≡ c.args.name.now = search rules in
    let P : List ℕ → Type 0 = λ name. slice_index_or (map bytes c.args.names.now) c.loop-place.place name ≡ name in
    subst P same (at c.args.names.now c.loop-place.place c.index-names-place.result is)

-- what stands there is another name, as at those before it
still : (names : List (String Global)) (place : ℕ) (one : String Global) (name : List ℕ) → one ≡ slice_index_or names place one
    → place < length names → (bytes one ≡ name → ⊥)
    → ((k : ℕ) → k < place → slice_index_or (map bytes names) k name ≡ name → ⊥) → (k : ℕ) → k < place + 1
    → slice_index_or (map bytes names) k name ≡ name → ⊥
still names place one name is within other before k below found = by_case (search rules)
  where
    by_case : (k < place) ⊎ (k ≡ place) → ⊥
    by_case (inl less) = before k less found
    by_case (inr same) =
        let there : slice_index_or (map bytes names) place name ≡ name =
        subst (λ n. slice_index_or (map bytes names) n name ≡ name) same found in
        other (sym (at names place one is) ∙ get_or_default (map bytes names) place (bytes one) name
        (omega (arith, within, length-map names bytes)) ∙ there)

pub loop-place-preserved : goal.loop-place-preserved
loop-place-preserved c =
    let is : c.index-names-place.result ≡ slice_index_or c.args.names.now c.loop-place.place c.index-names-place.result = search rules in
    let within : c.loop-place.place < length c.args.names.now = search rules in
    let other : bytes c.index-names-place.result ≡ c.args.name.now → ⊥ = search rules in
    still c.args.names.now c.loop-place.place c.index-names-place.result c.args.name.now is within other c.loop-place.invariant
