-- The changes of all peers, one change more.
use Rattle.std.proofs.Common.{◌≡◌, ◌≢◌, ◌∙◌, sym, ap, subst, refl, ℕ, ◌+◌, ◌*◌, ◌<◌, ◌≤◌, ◌^◌, suc, zero, arith, inl, inr, true, false}
use Rattle.std.proofs.Common.{Bool, ◌||◌, cond, nat_lt, List, [], ◌∷◌, ◌++◌, length, map, Some}
use Rattle.std.specs.Prelude.{◌==◌, slice_get, slice_set, All, sum_by}
use Rattle.std.specs.List.{list_all, list_any}
use Rattle.std.proofs.lemmas.Bool.{cases_Bool, cond-false, cond-true, eq-eqb, ne_eqb}
use Rattle.std.proofs.lemmas.Bool.Decides.{Decides-ltb}
use Rattle.std.proofs.lemmas.List.{append-nil, length-append, length-map, length-set, map-append}
use Rattle.std.proofs.lemmas.Option.{slice_get_within}
use Rattle.std.proofs.lemmas.List.Elements.{filter-append, filter_map-append}
use Rattle.std.proofs.lemmas.List.Folds.{list_all-append, list_any-append}
use Rattle.std.proofs.lemmas.List.Sums.{sum_by-cons}
use Rattle.rs_ring.specs.Ends.{Receiving, Sending}
use Rattle.rs_types.specs.IpPrefix.{IpPrefix}
use Rattle.rs_change.specs.Change.{Change, change_of, is_close}
use Rattle.rs_change.specs.declared.word.Word.{Word}
use Rattle.rs_router.specs.ShardParts.{shard_part, gets, shard_of}
use Rattle.rs_router.specs.Delivery.{CanSend, Delivered, SameSenders, sent_lists, with_word}
use Rattle.rs_router.specs.RoutedItems.{change_from, is_known, is_last, of_peer}
use Rattle.rs_router.specs.Routing.{AreClosed, AreShardParts, AreKnown, EndLast, IsRouted, all_closed, is_closed}
use Rattle.rs_router.specs.Routing.{received_lists, SameReceivers}
use Rattle.rs_router.specs.declared.routed.Routed.{Routed}
use Rattle.rs_router.specs.declared.routed.Routed.TheVariants as items
use Rattle.rs_patience.proofs.PlaceLemmas.{all-at, get-map, map-get, one-turned, same-counted}
use Rattle.rs_router.proofs.PlaceLemmas.{list_all-get, option_map-get, set_cases}

-- a test of a list with one member more, where none before passes it
any-one_more : {X : Type 0} (p : X → Bool) (xs : List X) (x : X) → list_any p xs ≡ false
    → list_any p (xs ++ x ∷ []) ≡ p x
any-one_more p xs x none =
    list_any-append p xs (x ∷ [])
    ∙ ap (λ b. b || (p x || false)) none
    ∙ elim (p x) as (λ b. (b || false) ≡ b) [ true ↦ refl | false ↦ refl ]

-- ---- one delivery

-- the shard of a change's prefix alone gets it
pub delivered_to_one : (before : List (List Routed)) (peer : ℕ) (word : Word) (prefix : IpPrefix) (at : ℕ) (sent new : List Routed)
    → ((shards shard : ℕ) → gets shards shard (change_of word) ≡ (shard_of prefix shards == shard))
    → at ≡ shard_of prefix (length before) → slice_get before at ≡ Some sent → new ≡ sent ++ items.Word peer word ∷ []
    → Delivered peer word before (slice_set before at new)
delivered_to_one before peer word prefix at sent new on at_is here is =
    let got : (shard : ℕ) → gets (length before) shard (change_of word) ≡ (shard_of prefix (length before) == shard) =
    λ shard. on (length before) shard in
    one-turned (with_word (length before) peer word) before at sent new here
    (is ∙ sym (cond-true (gets (length before) at (change_of word)) (sent ++ items.Word peer word ∷ []) sent
    (got at ∙ eq-eqb _ at (sym at_is))))
    (λ other items_there apart. cond-false (gets (length before) other (change_of word)) (items_there ++ items.Word peer word ∷ [])
    items_there
    (got other ∙ ne_eqb (shard_of prefix (length before)) other (λ e. apart (sym e ∙ sym at_is))))

-- ---- one change more of a peer

sum-more : (xs : List (List Word)) (at : ℕ) (words : List Word) (word : Word) → slice_get xs at ≡ Some words
    → sum_by length (slice_set xs at (words ++ word ∷ [])) ≡ sum_by length xs + 1
sum-more [] at words word e = absurd cc
sum-more (y ∷ ys) zero words word e =
    let found : y ≡ words = cc in
    let count : length (words ++ word ∷ []) ≡ length words + 1 = length-append words (word ∷ []) in
    let same : length y ≡ length words = ap (λ (ws : List Word). length ws) found in
    omega (arith, sum_by-cons length (words ++ word ∷ []) ys, sum_by-cons length y ys, count, same)
sum-more (y ∷ ys) (suc at) words word e =
    omega (arith, sum_by-cons length y (slice_set ys at (words ++ word ∷ [])), sum_by-cons length y ys, sum-more ys at words word e)

pub sum-below : (xs : List (List Word)) → ((at : ℕ) (words : List Word) → slice_get xs at ≡ Some words → length words ≤ 2 ^ 51)
    → sum_by length xs ≤ length xs * 2251799813685248
sum-below [] short = omega arith
sum-below (y ∷ ys) short = omega (arith, sum_by-cons length y ys, short 0 y refl, sum-below ys (λ at words e. short (suc at) words e))

-- the shard's items of a peer, and the part of its changes, each with the change more
pub of_peer-own : (peer : ℕ) (before : List Routed) (word : Word)
    → of_peer peer (before ++ items.Word peer word ∷ []) ≡ of_peer peer before ++ change_of word ∷ []
of_peer-own peer before word =
    filter_map-append (change_from peer) before (items.Word peer word ∷ [])
    ∙ ap (λ (cs : List Change). of_peer peer before ++ cs) (rw (eq-eqb peer peer refl) refl)

pub of_peer-other : (other peer : ℕ) (before : List Routed) (word : Word) → other ≢ peer
    → of_peer other (before ++ items.Word peer word ∷ []) ≡ of_peer other before
of_peer-other other peer before word apart =
    filter_map-append (change_from other) before (items.Word peer word ∷ [])
    ∙ ap (λ (cs : List Change). of_peer other before ++ cs) (rw (ne_eqb peer other (λ e. apart (sym e))) refl)
    ∙ append-nil (of_peer other before)

part-more : (shards shard : ℕ) (words : List Word) (word : Word)
    → shard_part shards shard (map change_of (words ++ word ∷ [])) ≡ shard_part shards shard (map change_of words)
    ++ shard_part shards shard (change_of word ∷ [])
part-more shards shard words word =
    ap (shard_part shards shard) (map-append change_of words (word ∷ []))
    ∙ filter-append (gets shards shard) (map change_of words) (change_of word ∷ [])

pub of_peer-last : (peer : ℕ) (before : List Routed) → of_peer peer (before ++ items.Last ∷ []) ≡ of_peer peer before
of_peer-last peer before = filter_map-append (change_from peer) before (items.Last ∷ []) ∙ append-nil (of_peer peer before)

own_part : (shards shard peer : ℕ) (words : List Word) (word : Word) (before : List Routed)
    → of_peer peer before ≡ shard_part shards shard (map change_of words)
    → of_peer peer (with_word shards peer word shard before) ≡ shard_part shards shard (map change_of (words ++ word ∷ []))
own_part shards shard peer words word before is =
    elim (cases_Bool (gets shards shard (change_of word))) [
      | inl got ↦
          ap (of_peer peer) (cond-true (gets shards shard (change_of word)) (before ++ items.Word peer word ∷ []) before got)
          ∙ of_peer-own peer before word
          ∙ ap (λ (cs : List Change). cs ++ change_of word ∷ []) is
          ∙ ap (λ (cs : List Change). shard_part shards shard (map change_of words) ++ cs) (sym (rw got refl))
          ∙ sym (part-more shards shard words word)
      | inr passed ↦
          ap (of_peer peer) (cond-false (gets shards shard (change_of word)) (before ++ items.Word peer word ∷ []) before passed) ∙ is
          ∙ sym (append-nil (shard_part shards shard (map change_of words)))
          ∙ ap (λ (cs : List Change). shard_part shards shard (map change_of words) ++ cs) (sym (rw passed refl))
          ∙ sym (part-more shards shard words word)
    ]

other_part : (shards shard other peer : ℕ) (word : Word) (before : List Routed) → other ≢ peer
    → of_peer other (with_word shards peer word shard before) ≡ of_peer other before
other_part shards shard other peer word before apart =
    elim (gets shards shard (change_of word)) as (λ b. of_peer other (cond b (before ++ items.Word peer word ∷ []) before)
    ≡ of_peer other before) [
      | true ↦ of_peer-other other peer before word apart
      | false ↦ refl
    ]

-- what holds of the items before, and of one with the change, holds of those with it
with_word-holds : (P : List Routed → Type 0) (shards shard peer : ℕ) (word : Word) (before : List Routed) → P before
    → P (before ++ items.Word peer word ∷ []) → P (with_word shards peer word shard before)
with_word-holds P shards shard peer word before less more =
    elim (gets shards shard (change_of word)) as (λ b. P (cond b (before ++ items.Word peer word ∷ []) before))
    [ true ↦ more | false ↦ less ]

pub routed_more : (received : List (List Word)) (before after : List (List Routed)) (peer : ℕ) (words : List Word) (word : Word)
    → IsRouted received before → slice_get received peer ≡ Some words
    → length words < 2 ^ 51 → is_closed words ≡ false → Delivered peer word before after → length after ≡ length before
    → IsRouted (slice_set received peer (words ++ word ∷ [])) after
routed_more received before after peer words word routed here short unclosed delivered count = record {
  shard_parts = λ p shard ws sent at_p at_shard.
      let old = earlier shard sent at_shard in
      let told : of_peer p sent ≡ shard_part (length before) shard (map change_of ws) =
      elim (set_cases received peer words (words ++ word ∷ []) p ws here at_p) [
        | inl own ↦
            ap (of_peer p) (sym old.1.1) ∙ ap (λ (n : ℕ). of_peer n (with_word (length before) peer word shard old.0)) own.0
            ∙ own_part (length before) shard peer words word old.0 (routed.shard_parts peer shard words old.0 here old.1.0)
            ∙ ap (λ (xs : List Word). shard_part (length before) shard (map change_of xs)) own.1
        | inr other ↦
            ap (of_peer p) (sym old.1.1) ∙ other_part (length before) shard p peer word old.0 other.0
            ∙ routed.shard_parts p shard ws old.0 other.1 old.1.0
      ] in
      told ∙ ap (λ (n : ℕ). shard_part n shard (map change_of ws)) (sym count);
  known = λ shard sent at_shard.
      let old = earlier shard sent at_shard in
      let named : nat_lt peer (length received) ≡ true =
      (Decides-ltb peer (length received)).1 (slice_get_within received peer words here) in
      let all = routed.known shard old.0 old.1.0 in
      let told : list_all (is_known (length received)) sent ≡ true =
      subst (λ (xs : List Routed). list_all (is_known (length received)) xs ≡ true) old.1.1
      (with_word-holds (λ xs. list_all (is_known (length received)) xs ≡ true) (length before) shard peer word old.0 all
      (list_all-append (is_known (length received)) old.0 (items.Word peer word ∷ []) ∙ rw (all, named) refl)) in
      ap (λ (n : ℕ). list_all (is_known n) sent) (length-set received peer (words ++ word ∷ [])) ∙ told;
  unended = λ shard sent at_shard.
      let old = earlier shard sent at_shard in
      let none = routed.unended shard old.0 old.1.0 in
      subst (λ (xs : List Routed). list_any is_last xs ≡ false) old.1.1
      (with_word-holds (λ xs. list_any is_last xs ≡ false) (length before) shard peer word old.0 none
      (any-one_more is_last old.0 (items.Word peer word) none));
  fits = λ shard sent at_shard.
      let old = earlier shard sent at_shard in
      let few = routed.fits shard old.0 old.1.0 in
      let more = sum-more received peer words word here in
      let whole : ℕ = sum_by length (slice_set received peer (words ++ word ∷ [])) in
      subst (λ (xs : List Routed). length xs ≤ whole) old.1.1
      (with_word-holds (λ xs. length xs ≤ whole) (length before) shard peer word old.0 (omega (arith, few, more))
      (omega (arith, few, more, length-append old.0 (items.Word peer word ∷ []))));
  below = λ p ws at_p. elim (set_cases received peer words (words ++ word ∷ []) p ws here at_p) [
    | inl own ↦ subst (λ (xs : List Word). length xs ≤ 2 ^ 51) own.1 (omega (arith, short, length-append words (word ∷ [])))
    | inr other ↦ routed.below p ws other.1
  ];
  at_end = λ p ws at_p closed. elim (set_cases received peer words (words ++ word ∷ []) p ws here at_p) [
    | inl own ↦ record {
      earlier = words;
      close = word;
      is = sym own.1;
      until_then = unclosed;
      closes = sym (any-one_more (λ (w : Word). is_close (change_of w)) words word unclosed) ∙ ap is_closed own.1 ∙ closed;
    }
    | inr other ↦ routed.at_end p ws other.1 closed
  ];
}
  where
    -- what a shard was sent before
    earlier : (shard : ℕ) (sent : List Routed) → slice_get after shard ≡ Some sent → (old : List Routed)
        × ((slice_get before shard ≡ Some old) × (with_word (length before) peer word shard old ≡ sent))
    earlier shard sent e =
        option_map-get (with_word (length before) peer word shard) (slice_get before shard) sent (sym (delivered shard) ∙ e)

-- senders of the same rings are as many
pub as_many : (before after : List (Sending Routed)) → SameSenders before after → length (sent_lists after) ≡ length (sent_lists before)
as_many before after same =
    length-map after (λ (s : Sending Routed). s.sent) ∙ same-counted (λ s. s.ring) (λ s. s.ring) after before same
    ∙ sym (length-map before (λ (s : Sending Routed). s.sent))

pub as_many_received : (before after : List (Receiving Word)) → SameReceivers before after → length (received_lists after) ≡ length before
as_many_received before after same =
    length-map after (λ (r : Receiving Word). r.received) ∙ same-counted (λ r. r.ring) (λ r. r.ring) after before same

-- ---- the beginning and the end

pub can_send : (received : List (List Word)) (senders : List (Sending Routed)) → IsRouted received (sent_lists senders)
    → length received ≤ 256 → CanSend senders
can_send received senders routed few shard sender at =
    let there = get-map (λ (s : Sending Routed). s.sent) senders shard sender at in
    (routed.unended shard sender.sent there, omega (arith, few, routed.fits shard sender.sent there, sum-below received routed.below))

pub routed_first : (receivers : List (Receiving Word)) (senders : List (Sending Routed))
    → All (λ receiver. receiver.received ≡ []) receivers → All (λ sender. sender.sent ≡ []) senders
    → IsRouted (received_lists receivers) (sent_lists senders)
routed_first receivers senders fresh unsent = record {
  shard_parts = λ p shard ws sent at_p at_shard.
      ap (of_peer p) (nothing_sent shard sent at_shard) ∙ ap
      (λ (xs : List Word). shard_part (length (sent_lists senders)) shard (map change_of xs)) (sym (nothing_received p ws at_p));
  known = λ shard sent at_shard. ap (list_all (is_known (length (received_lists receivers)))) (nothing_sent shard sent at_shard);
  unended = λ shard sent at_shard. ap (list_any is_last) (nothing_sent shard sent at_shard);
  fits = λ shard sent at_shard. let none : length sent ≡ 0 = ap (λ (xs : List Routed). length xs) (nothing_sent shard sent at_shard) in
      omega (arith, none);
  below = λ p ws at_p. let none : length ws ≡ 0 = ap (λ (xs : List Word). length xs) (nothing_received p ws at_p) in omega (arith, none);
  at_end = λ p ws at_p closed. absurd (cc (closed, ap is_closed (nothing_received p ws at_p)));
}
  where
    nothing_received : (p : ℕ) (ws : List Word) → slice_get (received_lists receivers) p ≡ Some ws → ws ≡ []
    nothing_received p ws e =
        let from = map-get (λ (r : Receiving Word). r.received) receivers p ws e in
        sym from.1.1 ∙ all-at (λ (r : Receiving Word). r.received ≡ []) receivers fresh p from.0 from.1.0

    nothing_sent : (shard : ℕ) (sent : List Routed) → slice_get (sent_lists senders) shard ≡ Some sent → sent ≡ []
    nothing_sent shard sent e =
        let to = map-get (λ (s : Sending Routed). s.sent) senders shard sent e in
        sym to.1.1 ∙ all-at (λ (s : Sending Routed). s.sent ≡ []) senders unsent shard to.0 to.1.0

pub are_closed : (receivers : List (Receiving Word)) (sent : List (List Routed)) → IsRouted (received_lists receivers) sent
    → all_closed receivers ≡ true → AreClosed (received_lists receivers)
are_closed receivers sent routed closed peer words at =
    let from = map-get (λ (r : Receiving Word). r.received) receivers peer words at in
    routed.at_end peer words at (ap is_closed (sym from.1.1)
    ∙ list_all-get (λ (r : Receiving Word). is_closed r.received) receivers peer from.0 closed from.1.0)

-- with the last item
module _ (received : List (List Word)) (before after : List (List Routed)) (routed : IsRouted received before)
    (is : after ≡ map (λ sent. sent ++ items.Last ∷ []) before) where
  ended : (shard : ℕ) (sent : List Routed) → slice_get after shard ≡ Some sent → (old : List Routed)
      × ((slice_get before shard ≡ Some old) × (old ++ items.Last ∷ [] ≡ sent))
  ended shard sent e =
      map-get (λ (xs : List Routed). xs ++ items.Last ∷ []) before shard sent
      (sym (ap (λ (lists : List (List Routed)). slice_get lists shard) is) ∙ e)

  pub cuts_last : AreShardParts received after
  cuts_last peer shard words sent at_peer at_shard =
      let old = ended shard sent at_shard in
      let count : length after ≡ length before =
      ap (λ (lists : List (List Routed)). length lists) is ∙ length-map before (λ (xs : List Routed). xs ++ items.Last ∷ []) in
      ap (of_peer peer) (sym old.1.1) ∙ of_peer-last peer old.0 ∙ routed.shard_parts peer shard words old.0 at_peer old.1.0
      ∙ ap (λ (n : ℕ). shard_part n shard (map change_of words)) (sym count)

  pub known_last : AreKnown (length received) after
  known_last shard sent at_shard =
      let old = ended shard sent at_shard in
      let all = routed.known shard old.0 old.1.0 in
      ap (list_all (is_known (length received))) (sym old.1.1) ∙ list_all-append (is_known (length received)) old.0 (items.Last ∷ [])
      ∙ rw all refl

  pub end_last : EndLast after
  end_last shard sent at_shard =
      let old = ended shard sent at_shard in
      record { earlier = old.0; is = sym old.1.1; until_then = routed.unended shard old.0 old.1.0 }
