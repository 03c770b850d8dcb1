-- What a peer heard, and what it may hear next.
use Rattle.std.proofs.Common.{cond, ◌≡◌, ◌≤◌, ℕ, zero, suc, ◌+◌, ◌-◌, true, false, Bool, All, List, [], ◌∷◌, ◌++◌, Option, Some, None}
use Rattle.std.proofs.Common.{refl, ap, subst, sym, ◌∙◌, arith, inl, inr, length, append_assoc, length-append}
use Rattle.std.proofs.lemmas.Bool.{cond-true, cond-false}
use Rattle.std.proofs.lemmas.Grind.{flat_map-append}
use Rattle.std.proofs.lemmas.List.{append-nil, map-append}
use Rattle.std.proofs.lemmas.List.Elements.{All-append, All-cons}
use Rattle.rtrb.specs.Ring.{sent}
use Rattle.rs_mrt.specs.Record.{MrtRecord, octets_of}
use Rattle.rs_mrt.specs.declared.fault.SourceFault.{SourceFault}
use Rattle.rs_mrt.specs.declared.fault.SourceFault.TheVariants.{Read}
use Rattle.rs_types.specs.declared.peer_id.PeerId.{PeerId}
use Rattle.rs_share.specs.Batches.{Heard, silences, spread, spread_one}
use Rattle.rs_share.specs.Lines.{HasSent, IsAt, MayGive, Tells, TellsOn, part_of}
use Rattle.rs_share.specs.Own.{heard, heard_as, is_for, silence}
use Rattle.rs_share.specs.Telling.{Comes, EndsAs, Follows, FollowsBegin, IsTold, MayFollow, octets_in, told, told_by, told_in}
use Rattle.rs_share.specs.declared.line.Line.{Line}
use Rattle.rs_share.specs.declared.part.Begin.{Begin}
use Rattle.rs_share.specs.declared.part.Last.{Last}
use Rattle.rs_share.specs.declared.part.Part.{Part}
use Rattle.rs_share.proofs.TakingLemmas.{octets-append, octets-cons, told-more}

-- ---- octets

-- no record has more octets as a peer hears it
one-heard : (b : Bool) (r : MrtRecord) → octets_of (Some (cond b r silence)) ≤ octets_of (Some r)
one-heard true r = omega arith
one-heard false r = omega arith

heard-octets : (peer : PeerId) (rs : List MrtRecord) → octets_in (heard peer rs) ≤ octets_in rs
heard-octets peer [] = omega arith
heard-octets peer (r ∷ rs) =
    let a = octets-cons (heard_as peer r) (heard peer rs) in
    let b = octets-cons r rs in
    let c = one-heard (is_for peer r) r in
    let d = heard-octets peer rs in
    omega (arith, a, b, c, d)

heard-append : (peer : PeerId) (xs ys : List MrtRecord) → heard peer (xs ++ ys) ≡ heard peer xs ++ heard peer ys
heard-append peer xs ys = map-append (heard_as peer) xs ys

-- one silence more
silence-more : (n : ℕ) → silences n ++ silence ∷ [] ≡ silences (n + 1)
silence-more zero = refl
silence-more (suc n) =
    ap (λ (rs : List MrtRecord). silence ∷ rs) (silence-more n)
    ∙ (let next : suc n + 1 ≡ suc (n + 1) = omega arith in ap silences (sym next))

-- ---- what a peer may hear next

module _ {S : Type 0} (comes : Comes S) (room : S → ℕ) (line : Line S) where
  abbrev now : List MrtRecord
  now = told (sent line.parts)

  -- the records that wait may be sent, if they and what was sent are the first that the peer hears of some records
  promises : (last : Option Last) (given : List MrtRecord) → Tells line given → (records : List MrtRecord) (end : Option SourceFault)
      → comes line.source.value records end → (rest : List MrtRecord)
      → heard line.id records ≡ (now ++ told_in line.batch last) ++ rest → EndsAs rest end last
      → octets_in (now ++ told_in line.batch last) ≤ room line.source.value
      → MayFollow comes room (sent line.parts) (part_of line last)
  promises last given t records end come rest splits ends octets =
      let b = t.begun in
      let part = part_of line last in
      let told_is : IsTold comes line.source.value line.id (now ++ told_by part) last =
      record { records = records; end = end; given = come; rest = rest; splits = splits; ends = ends } in
      let follows : Follows comes room b.begin (now ++ told_by part) part =
      record {
        is_told = subst (λ (s : S). IsTold comes s b.begin.peer (now ++ told_by part) last) (sym b.source_is)
            (subst (λ (p : PeerId). IsTold comes line.source.value p (now ++ told_by part) last) (sym b.peer_is) told_is);
        own = subst (λ (p : PeerId). All (λ (h : Heard). is_for p h.own ≡ true) line.batch) (sym b.peer_is) t.own;
        octets = subst (λ (s : S). octets_in (now ++ told_by part) ≤ room s) (sym b.source_is) octets;
      } in
      let first : Follows comes room b.begin (told (b.first ∷ b.rest) ++ told_by part) part =
      subst (λ (ps : List (Part S)). Follows comes room b.begin (told ps ++ told_by part) part) b.splits follows in
      let some : FollowsBegin comes room b.first.begin (told (b.first ∷ b.rest) ++ told_by part) part =
      subst (λ (o : Option (Begin S)). FollowsBegin comes room o (told (b.first ∷ b.rest) ++ told_by part) part) (sym b.begins) first in
      subst (λ (ps : List (Part S)). MayFollow comes room ps part) (sym b.splits) some

  module _ (given : List MrtRecord) (t : Tells line given) where
    abbrev rest_of : List MrtRecord
    rest_of = silences (length given - line.seen)

    -- what was sent and what waits has no more octets than the records
    told-octets : octets_in (now ++ (spread line.batch ++ rest_of)) ≤ octets_in given
    told-octets =
        let few = heard-octets line.id given in
        let same = ap octets_in t.splits in
        omega (arith, few, same)

    front-octets : octets_in (now ++ (spread line.batch ++ [])) ≤ octets_in given
    front-octets =
        let all = told-octets in
        let a = octets-append now (spread line.batch ++ rest_of) in
        let b = octets-append (spread line.batch) rest_of in
        let c = octets-append now (spread line.batch ++ []) in
        let d = octets-append (spread line.batch) [] in
        omega (arith, all, a, b, c, d)

    front-splits : (later : List MrtRecord) → heard line.id (given ++ later)
        ≡ (now ++ (spread line.batch ++ [])) ++ (rest_of ++ heard line.id later)
    front-splits later =
        heard-append line.id given later ∙ ap (λ (rs : List MrtRecord). rs ++ heard line.id later) t.splits
        ∙ append_assoc now (spread line.batch ++ rest_of) (heard line.id later)
        ∙ ap (λ (rs : List MrtRecord). now ++ rs) (append_assoc (spread line.batch) rest_of (heard line.id later))
        ∙ ap (λ (rs : List MrtRecord). now ++ (rs ++ (rest_of ++ heard line.id later))) (sym (append-nil (spread line.batch)))
        ∙ sym (append_assoc now (spread line.batch ++ []) (rest_of ++ heard line.id later))

    pub more-may-follow : MayGive comes room line.source.value given → MayFollow comes room (sent line.parts) (part_of line None)
    more-may-follow may =
        let few = front-octets in
        let most = may.octets in
        promises None given t (given ++ may.later) may.end may.come (rest_of ++ heard line.id may.later)
        (front-splits may.later) tt (omega (arith, few, most))

    pub failure-may-follow : MayGive comes room line.source.value given
        → MayFollow comes room (sent line.parts) (part_of line (Some (record { others = 0; end = Some Read })))
    failure-may-follow may =
        let few = front-octets in
        let most = may.octets in
        promises (Some (record { others = 0; end = Some Read })) given t (given ++ may.later) may.end may.come
        (rest_of ++ heard line.id may.later) (front-splits may.later) (inr refl) (omega (arith, few, most))

    pub end-may-follow : (end : Option SourceFault) → comes line.source.value given end
        → octets_in given ≤ room line.source.value
        → MayFollow comes room (sent line.parts) (part_of line (Some (record { others = length given - line.seen; end = end })))
    end-may-follow end come octets =
        let few = told-octets in
        promises (Some (record { others = length given - line.seen; end = end })) given t given end come []
        (t.splits ∙ sym (append-nil (now ++ (spread line.batch ++ rest_of)))) (inl (refl, refl)) (omega (arith, few, octets))

-- ---- after a step

module _ {S : Type 0} where
  -- the records that wait were sent
  pub tells-sent : (old new : Line S) (given : List MrtRecord) → HasSent old new (part_of old None) → new.batch ≡ []
      → TellsOn old given → TellsOn new given
  tells-sent old new given has none on is_open =
      let went = has.sent_is is_open in
      let t = on went.0 in
      let b = t.begun in
      record {
        begun = record {
          first = b.first;
          begin = b.begin;
          rest = b.rest ++ part_of old None ∷ [];
          splits = went.1 ∙ ap (λ (ps : List (Part S)). ps ++ part_of old None ∷ []) b.splits;
          begins = b.begins;
          source_is = b.source_is ∙ sym has.same.source;
          peer_is = b.peer_is ∙ sym has.same.id;
        };
        splits = ap (λ (p : PeerId). heard p given) has.same.id ∙ t.splits
            ∙ sym (
            ap (λ (hs : List Heard). told (sent new.parts) ++ (spread hs ++ silences (length given - new.seen))) none
            ∙ ap (λ (n : ℕ). told (sent new.parts) ++ silences (length given - n)) has.same.seen
            ∙ ap (λ (ps : List (Part S)). told ps ++ silences (length given - old.seen)) went.1
            ∙ ap (λ (rs : List MrtRecord). rs ++ silences (length given - old.seen)) (told-more (sent old.parts) (part_of old None))
            ∙ append_assoc (told (sent old.parts)) (spread old.batch ++ []) (silences (length given - old.seen))
            ∙ ap (λ (rs : List MrtRecord). told (sent old.parts) ++ (rs ++ silences (length given - old.seen)))
            (append-nil (spread old.batch)));
        seen = subst (λ (n : ℕ). n ≤ length given) (sym has.same.seen) t.seen;
        own = subst (λ (hs : List Heard). All (λ (h : Heard). is_for new.id h.own ≡ true) hs) (sym none)
            (λ k d less. absurd (omega (arith, less)));
      }

  -- a record of the peer waits behind the others
  pub tells-own : (old : Line S) (given : List MrtRecord) (r : MrtRecord) → Tells old given → is_for old.id r ≡ true
      → Tells (record old {
        batch = old.batch ++ record { others = length given - old.seen; own = r } ∷ [];
        seen = length given + 1;
      }) (given ++ r ∷ [])
  tells-own old given r t is =
      let h : Heard = record { others = length given - old.seen; own = r } in
      let n = length-append given (r ∷ []) in
      let none : length (given ++ r ∷ []) - (length given + 1) ≡ 0 = omega (arith, n) in
      record {
        begun = t.begun;
        splits =
            heard-append old.id given (r ∷ []) ∙ ap (λ (x : MrtRecord). heard old.id given ++ x ∷ []) (cond-true _ _ _ is)
            ∙ ap (λ (rs : List MrtRecord). rs ++ r ∷ []) t.splits
            ∙ append_assoc (told (sent old.parts)) (spread old.batch ++ silences (length given - old.seen)) (r ∷ [])
            ∙ ap (λ (rs : List MrtRecord). told (sent old.parts) ++ rs) (
            append_assoc (spread old.batch) (silences (length given - old.seen)) (r ∷ [])
            ∙ ap (λ (rs : List MrtRecord). spread old.batch ++ rs) (sym (append-nil (spread_one h)))
            ∙ sym (flat_map-append spread_one old.batch (h ∷ []))
            ∙ sym (append-nil (spread (old.batch ++ h ∷ [])))
            ∙ ap (λ (k : ℕ). spread (old.batch ++ h ∷ []) ++ silences k) (sym none));
        seen = omega (arith, n);
        own = All-append (λ (x : Heard). is_for old.id x.own ≡ true) old.batch (h ∷ []) t.own
            (All-cons (λ (x : Heard). is_for old.id x.own ≡ true) h [] is (λ k d less. absurd (omega (arith, less))));
      }

  -- a record of others comes behind those that wait
  pub tells-other : (old : Line S) (given : List MrtRecord) (r : MrtRecord) → Tells old given → is_for old.id r ≡ false
      → Tells old (given ++ r ∷ [])
  tells-other old given r t other =
      let n = length-append given (r ∷ []) in
      let seen = t.seen in
      let more : length (given ++ r ∷ []) - old.seen ≡ (length given - old.seen) + 1 = omega (arith, n, seen) in
      record {
        begun = t.begun;
        splits =
            heard-append old.id given (r ∷ []) ∙ ap (λ (x : MrtRecord). heard old.id given ++ x ∷ []) (cond-false _ _ _ other)
            ∙ ap (λ (rs : List MrtRecord). rs ++ silence ∷ []) t.splits
            ∙ append_assoc (told (sent old.parts)) (spread old.batch ++ silences (length given - old.seen)) (silence ∷ [])
            ∙ ap (λ (rs : List MrtRecord). told (sent old.parts) ++ rs) (
            append_assoc (spread old.batch) (silences (length given - old.seen)) (silence ∷ [])
            ∙ ap (λ (rs : List MrtRecord). spread old.batch ++ rs) (silence-more (length given - old.seen))
            ∙ ap (λ (k : ℕ). spread old.batch ++ silences k) (sym more));
        seen = omega (arith, n, seen);
        own = t.own;
      }

  -- the same, of equal values
  pub tells-own-as : (old : Line S) (given : List MrtRecord) (r : MrtRecord) (n others seen : ℕ) (batch : List Heard)
      → Tells old given → is_for old.id r ≡ true → length given ≡ n → others ≡ n - old.seen
      → batch ≡ old.batch ++ record { others = others; own = r } ∷ [] → seen ≡ n + 1
      → Tells (record old { batch = batch; seen = seen }) (given ++ r ∷ [])
  tells-own-as old given r n others seen batch t is count others_are batch_is seen_is =
      let counted : others ≡ length given - old.seen = others_are ∙ ap (λ (k : ℕ). k - old.seen) (sym count) in
      let last : seen ≡ length given + 1 = seen_is ∙ ap (λ (k : ℕ). k + 1) (sym count) in
      subst (λ (k : ℕ). Tells (record old { batch = batch; seen = k }) (given ++ r ∷ [])) (sym last)
      (subst (λ (hs : List Heard). Tells (record old { batch = hs; seen = length given + 1 }) (given ++ r ∷ []))
      (sym (batch_is ∙ ap (λ (k : ℕ). old.batch ++ record { others = k; own = r } ∷ []) counted)) (tells-own old given r t is))

module _ {S : Type 0} (comes : Comes S) (room : S → ℕ) where
  -- a line that stays of the same source, and tells the same
  pub at-same : (old new : Line S) (n : ℕ) → new.source.value ≡ old.source.value
      → ((given : List MrtRecord) → TellsOn old given → TellsOn new given) → IsAt comes room old n → IsAt comes room new n
  at-same old new n source on at = record {
    given = at.given;
    may = subst (λ (s : S). MayGive comes room s at.given) (sym source) at.may;
    tells = on at.given at.tells;
    counted = at.counted;
  }

  pub at-batch : (line : Line S) (n : ℕ) (batch : List Heard) → batch ≡ line.batch → IsAt comes room line n
      → IsAt comes room (record line { batch = batch }) n
  at-batch line n batch is at = subst (λ (hs : List Heard). IsAt comes room (record line { batch = hs }) n) (sym is) at
