-- The tables of all shards, made one.
use Rattle.std.proofs.Common.{◌≡◌, ◌≢◌, ◌∙◌, sym, ap, ℕ, ◌<◌, ◌≤◌, arith, inl, inr, true, false, List, length, map, get_or, Some, None}
use Rattle.std.proofs.Common.{AllPairs}
use Rattle.std.specs.Prelude.{slice_get}
use Rattle.std.specs.List.{list_any}
use Rattle.std.specs.Option.{option_map}
use Rattle.std.specs.FinMap as fin
use Rattle.std.proofs.lemmas.Bool.{false≢true}
use Rattle.std.proofs.lemmas.Bool.Decides.{eqb_tells}
use Rattle.std.proofs.lemmas.List.{ext_get_or, get_or_past, length-map}
use Rattle.std.proofs.lemmas.Nat.{mod_below}
use Rattle.std.proofs.lemmas.Option.{slice_get-get_or, slice_get-map, slice_get_cases, get_or_from_slice_get}
use Rattle.rs_update.specs.IpPrefix.{IpPrefix}
use Rattle.rs_update.specs.PrefixOrder.{prefix_cmp}
use Rattle.rs_choice.specs.Plan.{Plan}
use Rattle.rs_session.specs.Change.{Change, change_of, is_close}
use Rattle.rs_change.specs.declared.word.Word.{Word}
use Rattle.rs_table.specs.Content.{RibContent, TablesContent, rib_of, rib_left, nothing_held}
use Rattle.rs_table.specs.Left.{left}
use Rattle.rs_table.specs.Listing.{is_held}
use Rattle.rs_table.specs.Merge.{AreParts, IsMerged}
use Rattle.rs_router.specs.ShardParts.{first_octet, shard_of}
use Rattle.rs_serve.specs.PartLaws.{PartsByShards}
use Rattle.rs_serve.specs.Laws.{AreShardsOf}
use Rattle.rs_table.proofs.MergeLemmas.{none-held}
use Rattle.rs_table.proofs.PrefixLemmas.{prefix_total, prefix_cmp-IsAntisymmetric}

-- ---- the parts

module _ (shard_parts : PartsByShards) (plan : Plan) (received : List (List Word)) (parts : List TablesContent)
    (are : AreShardsOf plan received parts) where
  abbrev changes_of : List Word → List Change
  changes_of words = map change_of words

  part-past : (shard : ℕ) (part : TablesContent) → slice_get parts shard ≡ Some part → (peer : ℕ) → length received ≤ peer
      → rib_of part peer ≡ nothing_held
  part-past shard part at peer past =
      get_or_past part.ribs peer nothing_held (omega (arith, past, are.peers, (are.each shard part at).of_plan.count))

  part-closed : (shard : ℕ) (part : TablesContent) → slice_get parts shard ≡ Some part → (peer : ℕ) (words : List Word)
      → slice_get received peer ≡ Some words
      → (rib_of part peer).closed ≡ list_any is_close (changes_of words)
  part-closed shard part at peer words there =
      ap (λ (rib : RibContent). rib.closed) ((are.each shard part at).ribs peer words there)
      ∙ (shard_parts (length parts) are.counted (changes_of words)).closes shard

  same-closed : (i j : ℕ) (one other : TablesContent) → slice_get parts i ≡ Some one → slice_get parts j ≡ Some other → (peer : ℕ)
      → (rib_of one peer).closed ≡ (rib_of other peer).closed
  same-closed i j one other at_i at_j peer = elim (slice_get_cases received peer).1 [
    | inl w ↦ part-closed i one at_i peer w.0 w.2 ∙ sym (part-closed j other at_j peer w.0 w.2)
    | inr past ↦ ap (λ (rib : RibContent). rib.closed) (part-past i one at_i peer past.0 ∙ sym (part-past j other at_j peer past.0))
  ]

  -- a shard has no route on a prefix of another one
  not-there : (shard : ℕ) (part : TablesContent) → slice_get parts shard ≡ Some part → (q : IpPrefix) → shard ≢ shard_of q (length parts)
      → (peer : ℕ)
      → fin.get (rib_of part peer).routes q ≡ None
  not-there shard part at q apart peer = elim (slice_get_cases received peer).1 [
    | inl w ↦ ap (λ (rib : RibContent). fin.get rib.routes q) ((are.each shard part at).ribs peer w.0 w.2)
        ∙ (shard_parts (length parts) are.counted (changes_of w.0)).others q shard apart
    | inr past ↦ ap (λ (rib : RibContent). fin.get rib.routes q) (part-past shard part at peer past.0) ∙ fin.get-empty prefix_cmp q
  ]

  not-held : (shard : ℕ) (part : TablesContent) → slice_get parts shard ≡ Some part → (q : IpPrefix) → shard ≢ shard_of q (length parts)
      → is_held part.ribs q ≡ false
  not-held shard part at q apart = none-held part.ribs q (not-there shard part at q apart)

  held-by_one : (i j : ℕ) (one other : TablesContent) → i < j → slice_get parts i ≡ Some one → slice_get parts j ≡ Some other
      → (q : IpPrefix)
      → is_held one.ribs q ≡ true → is_held other.ribs q ≡ false
  held-by_one i j one other below at_i at_j q held = elim (eqb_tells i (shard_of q (length parts))) [
    | inl here ↦ not-held j other at_j q (λ e. omega (arith, below, here.1, e))
    | inr away ↦ absurd (false≢true (sym (not-held i one at_i q away.1) ∙ held))
  ]

  pub parts-pairs : AllPairs AreParts parts
  parts-pairs i j d below within =
      let at_i : slice_get parts i ≡ Some (get_or parts i d) = slice_get-get_or parts i d (omega (arith, below, within)) in
      let at_j : slice_get parts j ≡ Some (get_or parts j d) = slice_get-get_or parts j d within in
      record {
        plan = (are.each i (get_or parts i d) at_i).of_plan.plan_is ∙ sym (are.each j (get_or parts j d) at_j).of_plan.plan_is;
        apart = held-by_one i j (get_or parts i d) (get_or parts j d) below at_i at_j;
        closed = same-closed i j (get_or parts i d) (get_or parts j d) at_i at_j;
      }

  -- ---- the parts made one

  module _ (merged : TablesContent) (is : IsMerged parts merged) (count : length merged.ribs ≡ length merged.plan.peers) where
    some_part : 0 < length parts
    some_part = omega (arith, are.counted.0)

    first : slice_get parts 0 ≡ Some (get_or parts 0 merged)
    first = slice_get-get_or parts 0 merged some_part

    merged-plan : merged.plan ≡ plan
    merged-plan = is.plan 0 merged some_part ∙ (are.each 0 (get_or parts 0 merged) first).of_plan.plan_is

    merged-closed : (peer : ℕ) (words : List Word) → slice_get received peer ≡ Some words
        → (rib_of merged peer).closed ≡ list_any is_close (changes_of words)
    merged-closed peer words there = is.closed 0 merged some_part peer ∙ part-closed 0 (get_or parts 0 merged) first peer words there

    merged-routes : (peer : ℕ) (words : List Word) → slice_get received peer ≡ Some words → (q : IpPrefix)
        → fin.get (rib_of merged peer).routes q ≡ fin.get (left (changes_of words)) q
    merged-routes peer words there q =
        let at : slice_get parts (shard_of q (length parts)) ≡ Some (get_or parts (shard_of q (length parts)) merged) =
        slice_get-get_or parts (shard_of q (length parts)) merged (mod_below (first_octet q) (length parts) some_part) in
        is.routes q (shard_of q (length parts)) (get_or parts (shard_of q (length parts)) merged) at
        (λ other part there_too apart. not-held other part there_too q apart) peer
        ∙ ap (λ (rib : RibContent). fin.get rib.routes q)
        ((are.each (shard_of q (length parts)) (get_or parts (shard_of q (length parts)) merged) at).ribs peer words there)
        ∙ (shard_parts (length parts) are.counted (changes_of words)).own q

    merged-rib : (peer : ℕ) (words : List Word) → slice_get received peer ≡ Some words → rib_of merged peer ≡ rib_left (changes_of words)
    merged-rib peer words there =
        let routes : (rib_of merged peer).routes ≡ left (changes_of words) =
        fin.same_map prefix_total prefix_cmp-IsAntisymmetric _ _ (merged-routes peer words there) in
        let closed : (rib_of merged peer).closed ≡ list_any is_close (changes_of words) = merged-closed peer words there in
        λ i. record { routes = routes i; closed = closed i }

    merged-length : length (map (λ words. rib_left (changes_of words)) received) ≡ length merged.ribs
    merged-length =
        length-map received (λ words. rib_left (changes_of words)) ∙ are.peers ∙ ap (λ (p : Plan). length p.peers) (sym merged-plan)
        ∙ sym count

    merged-ribs : map (λ words. rib_left (changes_of words)) received ≡ merged.ribs
    merged-ribs = ext_get_or nothing_held (map (λ words. rib_left (changes_of words)) received) merged.ribs merged-length
        (λ at within. elim (slice_get_cases received at).1 [
          | inl w ↦ get_or_from_slice_get (map (λ words. rib_left (changes_of words)) received) at (rib_left (changes_of w.0)) nothing_held
              (slice_get-map (λ words. rib_left (changes_of words)) received at
              ∙ ap (option_map (λ words. rib_left (changes_of words))) w.2)
              ∙ sym (merged-rib at w.0 w.2)
          | inr past ↦ absurd (omega (arith, within, past.0, length-map received (λ words. rib_left (changes_of words))))
        ])

    pub merged-whole : merged ≡ record { plan = plan; ribs = map (λ words. rib_left (map change_of words)) received }
    merged-whole = λ i. record { plan = merged-plan i; ribs = sym merged-ribs i }
