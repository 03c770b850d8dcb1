-- What shards hold that took all that was sent to them.
use Rattle.std.proofs.Common.{◌≡◌, ◌∙◌, sym, ap, subst, refl, ℕ, arith, inl, inr, Bool, true, false, ◌||◌, List, [], ◌∷◌, ◌++◌, length, map}
use Rattle.std.proofs.Common.{Some}
use Rattle.std.specs.Prelude.{slice_get}
use Rattle.std.proofs.lemmas.List.{map-append}
use Rattle.std.proofs.lemmas.List.Elements.{filter-append}
use Rattle.std.proofs.lemmas.Option.{slice_get_cases, slice_get_within}
use Rattle.rs_choice.specs.Plan.{Plan}
use Rattle.rs_session.specs.Change.{Change, change_of, is_close}
use Rattle.rs_change.specs.declared.word.Word.{Word}
use Rattle.rs_table.specs.Content.{TablesContent, rib_left}
use Rattle.rs_table.specs.Left.{HasNoClose}
use Rattle.rs_router.specs.ShardParts.{IsShardCount, shard_part, gets}
use Rattle.rs_router.specs.Routing.{EndsClosed, is_closed}
use Rattle.rs_router.specs.declared.routed.Routed.{Routed}
use Rattle.rs_serve.specs.Crew.{Charge}
use Rattle.rs_serve.specs.Held.{HoldReceived, through_close}
use Rattle.rs_serve.specs.Laws.{AreShardsOf, IsOfPlan, IsRun, IsShardOf}
use Rattle.rs_serve.proofs.CloseLemmas.{through-open, through-one}

-- the part of words without a close has none
open-part : (shards shard : ℕ) (words : List Word) → is_closed words ≡ false → HasNoClose (shard_part shards shard (map change_of words))
open-part shards shard [] none = refl
open-part shards shard (word ∷ words) none =
    cases (gets shards shard (change_of word)) (is_close (change_of word)) refl refl none (open-part shards shard words)
  where
    cases : (kept closes : Bool) → gets shards shard (change_of word) ≡ kept → is_close (change_of word) ≡ closes
        → (closes || is_closed words) ≡ false
        → (is_closed words ≡ false → HasNoClose (shard_part shards shard (map change_of words)))
        → HasNoClose (shard_part shards shard (change_of word ∷ map change_of words))
    cases kept true e is none rest = absurd cc
    cases true false e is none rest = rw (e, is) (rest none)
    cases false false e is none rest = rw e (rest none)

through-one_part : (shards shard : ℕ) (change : Change) →
    through_close (shard_part shards shard (change ∷ [])) ≡ shard_part shards shard (change ∷ [])
through-one_part shards shard change = cases (gets shards shard change) refl
  where
    cases : (kept : Bool) → gets shards shard change ≡ kept
        → through_close (shard_part shards shard (change ∷ [])) ≡ shard_part shards shard (change ∷ [])
    cases true e = rw e (through-one change)
    cases false e = rw e refl

-- in the part of words that close at their end nothing follows a close
through-part : (shards shard : ℕ) (words : List Word) → EndsClosed words
    → through_close (shard_part shards shard (map change_of words)) ≡ shard_part shards shard (map change_of words)
through-part shards shard words ends =
    let splits : shard_part shards shard (map change_of words) ≡ shard_part shards shard (map change_of ends.earlier)
    ++ shard_part shards shard (change_of ends.close ∷ []) =
    ap (λ (ws : List Word). shard_part shards shard (map change_of ws)) ends.is
    ∙ ap (shard_part shards shard) (map-append change_of ends.earlier (ends.close ∷ []))
    ∙ filter-append (gets shards shard) (map change_of ends.earlier) (change_of ends.close ∷ []) in
    ap through_close splits
    ∙ through-open (shard_part shards shard (map change_of ends.earlier)) (shard_part shards shard (change_of ends.close ∷ []))
    (open-part shards shard ends.earlier ends.until_then)
    ∙ ap (λ (cs : List Change). shard_part shards shard (map change_of ends.earlier) ++ cs)
    (through-one_part shards shard (change_of ends.close))
    ∙ sym splits

-- the shards of a run
module _ (plan : Plan) (received : List (List Word)) (sent : List (List Routed)) (charges : List Charge) (parts : List TablesContent)
    (run : IsRun plan received sent charges parts) where
  as_many : length parts ≡ length sent
  as_many = run.hold.count ∙ run.shards

  one-shard : (shard : ℕ) (part : TablesContent) (charge : Charge) (items : List Routed) → slice_get parts shard ≡ Some part
      → slice_get charges shard ≡ Some charge → slice_get sent shard ≡ Some items
      → IsShardOf plan received (length parts) shard part
  one-shard shard part charge items at at_charge at_sent =
      let held : HoldReceived charge.tables items part = run.hold.each shard charge items part at_charge at_sent at in
      let of_plan : IsOfPlan plan charge.tables = run.charged shard charge at_charge in
      record {
        of_plan = record { plan_is = held.plan ∙ of_plan.plan_is; count = held.count ∙ of_plan.count };
        ribs = λ peer words there.
            held.ribs peer (omega (arith, slice_get_within received peer words there, run.peers, of_plan.count))
            ∙ ap (λ (cs : List Change). rib_left (through_close cs)) (run.shard_parts peer shard words items there at_sent)
            ∙ ap rib_left (through-part (length sent) shard words (run.closed peer words there))
            ∙ ap (λ (n : ℕ). rib_left (shard_part n shard (map change_of words))) (sym as_many);
      }

  pub run-whole : AreShardsOf plan received parts
  run-whole = record {
    counted = subst IsShardCount (sym as_many) run.counted;
    peers = run.peers;
    each = λ shard part at. elim (slice_get_cases charges shard).1 [
      | inl charge ↦ elim (slice_get_cases sent shard).1 [
        | inl items ↦ one-shard shard part charge.0 items.0 at charge.2 items.2
        | inr past ↦ absurd (omega (arith, as_many, past.0, slice_get_within parts shard part at))
      ]
      | inr past ↦ absurd (omega (arith, run.hold.count, past.0, slice_get_within parts shard part at))
    ];
  }
