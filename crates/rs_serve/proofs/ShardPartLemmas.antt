-- What the parts of a list leave.
use Rattle.std.proofs.Common.{◌≡◌, ◌≢◌, ◌∙◌, sym, ap, refl, ℕ, inl, inr, Bool, true, false, ◌||◌, List, [], ◌∷◌, ◌++◌, filter, Option, Some}
use Rattle.std.proofs.Common.{None}
use Rattle.std.specs.List.{list_all, list_any}
use Rattle.std.specs.FinMap.{get}
use Rattle.std.proofs.lemmas.Bool.{and_parts, cases_Bool, eq-eqb, eqb-true}
use Rattle.std.proofs.lemmas.List.Elements.{filter_passes}
use Rattle.std.proofs.lemmas.List.Sums.{list_all-from_AllPass}
use Rattle.std.proofs.lemmas.List.Folds.{list_all-append}
use Rattle.rs_update.specs.IpPrefix.{IpPrefix}
use Rattle.rs_update.specs.PathAttributes.{PathAttributes}
use Rattle.rs_session.specs.Change.{Change, ChangeBody, Announced, Withdrawn, is_close, body_closes}
use Rattle.rs_table.proofs.PrefixLemmas.{same_prefix-true}
use Rattle.rs_table.specs.Laws.{LeftByLastChanges, LeftByPart}
use Rattle.rs_table.specs.Left.{Leaves, RouteLeft, announcement, body_loses, body_prefix, is_loss, is_on, left}
use Rattle.rs_router.specs.ShardParts.{shard_part, gets, gets_body, shard_of}
use Rattle.rs_serve.specs.PartLaws.{PartsByShards}

-- ---- what a shard gets

-- the shard of a prefix gets the changes on it
gets_own : (shards : ℕ) (prefix : IpPrefix) (change : Change) → is_on prefix change ≡ true
    → gets shards (shard_of prefix shards) change ≡ true
gets_own shards prefix change on = by_body change.body on
  where
    by_body : (body : ChangeBody) → is_on prefix (record { time = change.time; body = body }) ≡ true
        → gets_body shards (shard_of prefix shards) body ≡ true
    by_body (Announced p attributes) here = eq-eqb _ _ (ap (λ (q : IpPrefix). shard_of q shards) (sym (same_prefix-true prefix p here)))
    by_body (Withdrawn p) here = eq-eqb _ _ (ap (λ (q : IpPrefix). shard_of q shards) (sym (same_prefix-true prefix p here)))
    by_body body here = refl

gets_none : (shards shard : ℕ) (change : Change) → body_prefix change.body ≡ None → gets shards shard change ≡ true
gets_none shards shard change none = by_body change.body none
  where
    by_body : (body : ChangeBody) → body_prefix body ≡ None → gets_body shards shard body ≡ true
    by_body (Announced p attributes) e = absurd cc
    by_body (Withdrawn p) e = absurd cc
    by_body body e = refl

-- a test that no change on a prefix passes finds a change that every shard gets
gets_unplaced : (test : ChangeBody → Bool) → ((p : IpPrefix) (attributes : PathAttributes) → test (Announced p attributes) ≡ false)
    → ((p : IpPrefix) → test (Withdrawn p) ≡ false)
    → (shards shard : ℕ) (change : Change) → test change.body ≡ true → gets shards shard change ≡ true
gets_unplaced test announced withdrawn shards shard change passes = by_body change.body passes
  where
    by_body : (body : ChangeBody) → test body ≡ true → gets_body shards shard body ≡ true
    by_body (Announced p attributes) e = absurd (cc (e, announced p attributes))
    by_body (Withdrawn p) e = absurd (cc (e, withdrawn p))
    by_body body e = refl

-- ---- parts of lists

-- where all that passes is kept, a part has some that passes exactly where the list has
any-filter : {X : Type 0} (p keeps : X → Bool) → ((x : X) → p x ≡ true → keeps x ≡ true) → (xs : List X)
    → list_any p (filter keeps xs) ≡ list_any p xs
any-filter p keeps kept [] = refl
any-filter p keeps kept (x ∷ xs) =
    elim (cases_Bool (keeps x)) [
      | inl stays ↦ rw stays (ap (λ b. p x || b) (any-filter p keeps kept xs))
      | inr goes ↦
          let fails : p x ≡ false = elim (cases_Bool (p x)) [ inl passes ↦ absurd (cc (kept x passes, goes)) | inr fails ↦ fails ] in
          rw (goes, fails) (any-filter p keeps kept xs)
    ]

-- each member of a part passes
member_passes : {X : Type 0} (p : X → Bool) (xs earlier later : List X) (x : X) → filter p xs ≡ earlier ++ x ∷ later → p x ≡ true
member_passes p xs earlier later x is =
    let all = list_all-from_AllPass p (filter p xs) (filter_passes p xs) in
    let both = sym (list_all-append p earlier (x ∷ later)) ∙ sym (ap (list_all p) is) ∙ all in
    (and_parts (p x) (list_all p later) (and_parts (list_all p earlier) _ both).1).0

same_option : {X : Type 0} (o p : Option X) → ((x : X) → o ≡ Some x → p ≡ Some x) → ((x : X) → p ≡ Some x → o ≡ Some x) → o ≡ p
same_option None None there back = refl
same_option None (Some x) there back = back x refl
same_option (Some x) p there back = sym (there x refl)

none_option : {X : Type 0} (o : Option X) → ((x : X) → o ≢ Some x) → o ≡ None
none_option None never = refl
none_option (Some x) never = absurd (never x refl)

-- ---- the law

pub by_shards : LeftByLastChanges → LeftByPart → PartsByShards
by_shards last part shards count changes = record {
  own = λ prefix.
      let shard : ℕ = shard_of prefix shards in
      let same : (route : RouteLeft) → _ = part (gets shards shard) prefix (gets_own shards prefix) (gets_none shards shard) changes in
      same_option (get (left (shard_part shards shard changes)) prefix) (get (left changes) prefix)
      (λ route is. (last changes prefix route).0 ((same route).1 ((last (shard_part shards shard changes) prefix route).1 is)))
      (λ route is. (last (shard_part shards shard changes) prefix route).0 ((same route).0 ((last changes prefix route).1 is)));
  others = λ prefix shard apart. none_option (get (left (shard_part shards shard changes)) prefix) (λ route is.
      let leaves : Leaves (shard_part shards shard changes) prefix route = (last (shard_part shards shard changes) prefix route).1 is in
      let got : gets shards shard (announcement prefix route) ≡ true =
      member_passes (gets shards shard) changes leaves.earlier leaves.later (announcement prefix route) leaves.is_announced in
      apart (sym (eqb-true (shard_of prefix shards) shard got)));
  closes = λ shard. any-filter is_close (gets shards shard) (gets_unplaced body_closes (λ p attributes. refl) (λ p. refl) shards shard)
      changes;
  losses = λ shard. any-filter is_loss (gets shards shard) (gets_unplaced body_loses (λ p attributes. refl) (λ p. refl) shards shard)
      changes;
}
