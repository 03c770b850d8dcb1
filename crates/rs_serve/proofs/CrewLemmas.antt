-- Shards that are joined one after another.
use Rattle.std.proofs.Common.{◌≡◌, ◌∙◌, sym, subst, ℕ, ◌+◌, arith, List, [], ◌∷◌, ◌++◌, length, length-append, Some}
use Rattle.std.specs.Prelude.{slice_get}
use Rattle.std.proofs.lemmas.Option.{slice_get_within}
use borrow.Author.Count.{below_more}
use Rattle.rs_table.specs.Content.{TablesContent}
use Rattle.rs_patience.proofs.PlaceLemmas.{get-front, get-seam}
use Rattle.rs_router.specs.declared.routed.Routed.{Routed}
use Rattle.rs_serve.specs.Crew.{AllHold, Charge}
use Rattle.rs_serve.specs.Held.{HoldReceived}

-- there is a part of each of the first shards, which holds what was sent to the shard
pub record HoldSoFar (joined : ℕ) (charges : List Charge) (sent : List (List Routed)) (parts : List TablesContent) : Type 0 where
  pub count : length parts ≡ joined
  pub each : (shard : ℕ) (charge : Charge) (items : List Routed) (part : TablesContent) → slice_get charges shard ≡ Some charge
      → slice_get sent shard ≡ Some items → slice_get parts shard ≡ Some part
      → HoldReceived charge.tables items part

-- one more was joined
pub hold-more : (joined : ℕ) (charges : List Charge) (sent : List (List Routed)) (parts : List TablesContent) (charge : Charge)
    (items : List Routed) (part : TablesContent) → HoldSoFar joined charges sent parts
    → slice_get charges joined ≡ Some charge → slice_get sent joined ≡ Some items → HoldReceived charge.tables items part
    → HoldSoFar (joined + 1) charges sent (parts ++ part ∷ [])
hold-more joined charges sent parts charge items part so_far at_charge at_sent held = record {
  count = omega (arith, length-append parts (part ∷ []), so_far.count);
  each = λ shard one those this e f g.
      let P : ℕ → Type 0 =
      λ n. (one : Charge) (those : List Routed) (this : TablesContent) → slice_get charges n ≡ Some one → slice_get sent n ≡ Some those
      → slice_get (parts ++ part ∷ []) n ≡ Some this → HoldReceived one.tables those this in
      below_more P joined
      (λ n below one those this e f g. so_far.each n one those this e f
      (sym (get-front parts (part ∷ []) n (omega (arith, below, so_far.count))) ∙ g))
      (λ one those this e f g.
      let seam : slice_get (parts ++ part ∷ []) joined ≡ Some part =
      subst (λ (n : ℕ). slice_get (parts ++ part ∷ []) n ≡ Some part) so_far.count (get-seam parts [] part) in
      let same_charge : charge ≡ one = cc in
      let same_items : items ≡ those = cc in
      let same_part : part ≡ this = cc in
      let of_charge : HoldReceived one.tables items part = subst (λ (c : Charge). HoldReceived c.tables items part) same_charge held in
      let of_items : HoldReceived one.tables those part =
      subst (λ (is : List Routed). HoldReceived one.tables is part) same_items of_charge in
      subst (λ (p : TablesContent). HoldReceived one.tables those p) same_part of_items)
      shard (omega (arith, slice_get_within (parts ++ part ∷ []) shard this g, length-append parts (part ∷ []), so_far.count))
      one those this e f g;
}

-- and all were
pub all-hold : (joined : ℕ) (charges : List Charge) (sent : List (List Routed)) (parts : List TablesContent) → joined ≡ length charges
    → HoldSoFar joined charges sent parts → AllHold charges sent parts
all-hold joined charges sent parts all so_far = record { count = so_far.count ∙ all; each = so_far.each }
