-- What is left are the names but the one at its place.
use Rattle.std.proofs.Common.{rules, ◌≡◌, ◌∙◌, ◌∷◌, ◌++◌, ◌<◌, zero, suc, [], List, ℕ, String, Global, IsPermutation, arith, ap, drop}
use Rattle.std.proofs.Common.{length, map, refl, slice_index_or, string_bytes, subst, sym, take}
use Rattle.std.specs.List.{remove}
use Rattle.std.proofs.lemmas.List.{length-map}
use Rattle.std.proofs.lemmas.List.Sorted.{IsPermutation-remove}
use Rattle.rs_outlet.proofs.memory_outlet.MemoryOutlet.take_back.Goals as goal

abbrev bytes : String Global → List ℕ
bytes one = string_bytes one

-- the names of those that are left
left : (xs : List (String Global)) (place : ℕ) → map bytes (take place xs ++ drop (suc place) xs) ≡ take place (map bytes xs)
    ++ drop (suc place) (map bytes xs)
left [] zero = refl
left [] (suc place) = refl
left (x ∷ xs) zero = refl
left (x ∷ xs) (suc place) = ap (λ names. bytes x ∷ names) (left xs place)

pub returns-clause-back : goal.returns-clause-back
returns-clause-back c =
    let started = c.self.inside.started.items in
    let later = c.remove.new.self.items in
    let place = c.place_of-place.result in
    let name = c.args.name.now in
    let here : slice_index_or (map bytes started) place name ≡ name = search rules in
    let within : place < length (map bytes started) =
    omega (arith, c.place_of-place.ensures.known, ap length c.deref.ensures.value, length-map started bytes) in
    let items : later ≡ remove started place = c.remove.ensures.items in
    let is : remove (map bytes started) place ≡ map bytes later = sym (ap (map bytes) items ∙ left started place) in
    let whole : map bytes started ≡ c.args.self.now.started = search rules in
    let P : List (List ℕ) → Type 0 = λ names. IsPermutation names (name ∷ map bytes later) in
    subst P whole (subst (λ names. IsPermutation (map bytes started) (name ∷ names)) is
    (IsPermutation-remove (map bytes started) place name within (sym here)))
