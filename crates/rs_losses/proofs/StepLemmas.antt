-- The steps of a source that puts losses in, and what they show of what may come: for with_losses.rt.
use Rattle.std.proofs.Common.{◌≡◌, ℕ, ◌<◌, true, false, Bool, List, [], ◌∷◌, Option, Some, None, Result, Ok, Err}
use Rattle.std.proofs.Common.{refl, ap, subst, sym, ◌∙◌, arith, inl, inr}
use Rattle.std.specs.Prelude.{not, ◌&&◌}
use Rattle.std.proofs.lemmas.Bool.{cond-true, cond-false}
use Rattle.rs_mrt.specs.declared.fault.SourceFault.{SourceFault}
use Rattle.rs_mrt.specs.declared.fault.SourceFault.TheVariants.{Mrt, Read}
use Rattle.rs_mrt.specs.Record.{MrtRecord, octets_of}
use Rattle.rs_mrt.specs.Source.{Advances, CountsFailure, SomethingComes, Stays, Stops}
use Rattle.rs_losses.specs.Losses.{before_record, behind_record, is_lost_before}
use Rattle.rs_losses.specs.WithLosses.{ComesInferred, GoesOn, Inferring, IsFull, IsThere, answer_within, at_limit, counted, end_within}
use Rattle.rs_losses.specs.WithLosses.{loss_or, losses_along, met, met_first, octets_first, pending, repeated, shown_of, stopped_of}
use Rattle.rs_losses.specs.WithLosses.{within}
use Rattle.rs_losses.specs.declared.following.Followed.{Followed}
use Rattle.rs_losses.specs.declared.losses.Sought.{Sought}
use Rattle.rs_losses.proofs.CountLemmas.{Peels, below-limit, counted-is, end-none, within-none}

-- ---- a record that is met

-- the session before it
abbrev before_by : Bool → Followed → Followed
before_by is_lost f = record f { up = not is_lost && f.up }

along-by : (is_lost : Bool) (f : Followed) (r : MrtRecord) (later : List MrtRecord) → is_lost_before f r ≡ is_lost
    → losses_along f (r ∷ later)
    ≡ met_first is_lost f.who r ∷ pending is_lost (Some r) (losses_along (behind_record (before_by is_lost f) r) later)
along-by true f r later same = cond-true _ _ _ same
along-by false f r later same = cond-false _ _ _ same

shown-by : (is_lost : Bool) (who : Sought) (r : MrtRecord) → loss_or is_lost who (Some r) ≡ Some (met_first is_lost who r)
shown-by true who r = refl
shown-by false who r = refl

-- a record that is there
there-some : (shown : Option MrtRecord) → IsThere shown → (r : MrtRecord) × (shown ≡ Some r)
there-some (Some r) there = (r, refl)
there-some None there = absurd there

-- a source that goes on did not repeat an answer
repeats-none : (stopped : Option (Result Bool SourceFault)) (before after : ℕ) → Stays stopped before after (Ok true)
    → repeated stopped ≡ None
repeats-none None before after stays = refl
repeats-none (Some (Ok true)) before after stays = refl
repeats-none (Some (Ok false)) before after stays = absurd (let same = stays.0 in cc)
repeats-none (Some (Err fault)) before after stays = absurd (let same = stays.0 in cc)

-- one that repeats its answer still does
repeats-same : (stopped : Option (Result Bool SourceFault)) (before after : ℕ) (answer : Result Bool SourceFault)
    → Stays stopped before after answer → Stays (repeated stopped) before after answer
repeats-same None before after answer stays = tt
repeats-same (Some (Ok true)) before after answer stays = tt
repeats-same (Some (Ok false)) before after answer stays = stays
repeats-same (Some (Err fault)) before after answer stays = stays

-- ---- an end

module _ {S : Type 0} (comes : S → List MrtRecord → Option SourceFault → Type 0) (old new : S) where
  ends-with : (shown : Option MrtRecord) → Advances comes old new shown (Ok false) → (shown ≡ None) × comes old [] None
  ends-with (Some r) advances = advances
  ends-with None advances = advances

  fails-with : (shown : Option MrtRecord) (fault : SourceFault) → Advances comes old new shown (Err fault)
      → (shown ≡ None) × comes old [] (Some fault)
  fails-with (Some r) fault advances = advances
  fails-with None fault advances = advances

  ends-from : (shown : Option MrtRecord) → shown ≡ None → comes old [] None → Advances comes old new shown (Ok false)
  ends-from (Some r) none come = (none, come)
  ends-from None none come = (none, come)

  fails-from : (shown : Option MrtRecord) (fault : SourceFault) → shown ≡ None → comes old [] (Some fault)
      → Advances comes old new shown (Err fault)
  fails-from (Some r) fault none come = (none, come)
  fails-from None fault none come = (none, come)

-- ---- a call

module _ {S : Type 0} (shows : S → Option MrtRecord) (comes : S → List MrtRecord → Option SourceFault → Type 0)
    (stopped : S → Option (Result Bool SourceFault)) (failures : S → ℕ) (full : S → Type 0) where
  -- a source that goes on shows a record
  advances-there : (old new : S) (shown : Option MrtRecord) → Advances comes old new shown (Ok true) → IsThere shown
  advances-there old new (Some r) advances = tt
  advances-there old new None advances = advances

  module _ (may : (source : S) → SomethingComes (comes source)) (old : Inferring S) where
    -- the limit was met before
    pub full-goes-on : old.left ≡ 0 → GoesOn shows comes stopped failures full old old (Err Read)
    full-goes-on full_now =
        let some = may old.source in
        let all = pending old.put_in (shows old.source) (losses_along old.followed some.0) in
        let none : shown_of shows old ≡ None =
        ap (λ (n : ℕ). at_limit n None (loss_or old.put_in old.followed.who (shows old.source))) full_now in
        let repeats : stopped_of stopped old ≡ Some (Err Read) =
        ap (λ (n : ℕ). at_limit n (Some (Err Read)) (repeated (stopped old.source))) full_now in
        let takes : octets_of (shown_of shows old) ≡ 0 = ap octets_of none in
        record {
          records = subst (λ (s : Option MrtRecord). Advances (ComesInferred shows comes) old old s (Err Read)) (sym none) (
            refl,
            record {
              all = some.0;
              last = some.1;
              given = some.2;
              cut = sym (ap (λ (n : ℕ). within n all) full_now ∙ within-none all);
              ends = sym (ap (λ (n : ℕ). end_within n all some.1) full_now ∙ end-none all some.1);
            },
          );
          room = omega (arith, takes);
          counts = inr (refl, inr repeats);
          stays = subst (λ (s : Option (Result Bool SourceFault)). Stays s (failures old.source) (failures old.source) (Err Read))
              (sym repeats) (refl, refl);
          stops = repeats;
          losses = refl;
        }

    -- the record behind a loss is shown
    pub behind-goes-on : (new : Inferring S) (result : Result Bool SourceFault) → 0 < old.left → old.put_in ≡ true
        → IsThere (shows old.source) → stopped old.source ≡ None
        → new ≡ counted (record old { put_in = false }) (octets_of (shows old.source))
        → result ≡ answer_within (octets_of (shows old.source)) old.left → GoesOn shows comes stopped failures full old new result
    behind-goes-on new result some put_in there goes is_new is_result =
        let one = there-some (shows old.source) there in
        let r = one.0 in
        let peels : Peels shows comes stopped failures full old (record old { put_in = false }) r = λ all last given.
        (let rest = losses_along old.followed all in (
          all,
          given,
          ap (λ (b : Bool). pending b (shows old.source) rest) put_in ∙ ap (λ (s : Option MrtRecord). pending true s rest) one.1,
        )) in
        counted-is shows comes stopped failures full may old old.source old.followed false r some one.1 peels refl goes
        (ap repeated goes) new result (octets_of (shows old.source)) (ap octets_of one.1) is_new is_result

    -- the record that the source went to is met
    pub met-goes-on : (source : S) (new : Inferring S) (result : Result Bool SourceFault) → 0 < old.left → old.put_in ≡ false
        → Advances comes old.source source (shows source) (Ok true) → failures source ≡ failures old.source
        → Stays (stopped old.source) (failures old.source) (failures source) (Ok true) → stopped source ≡ None
        → ((r : MrtRecord) → shows source ≡ Some r
        → new ≡ counted (met (record old { source = source }) r) (octets_first old.followed r))
        → ((r : MrtRecord) → shows source ≡ Some r → result ≡ answer_within (octets_first old.followed r) old.left)
        → GoesOn shows comes stopped failures full old new result
    met-goes-on source new result some put_in advances same stays goes is_new is_result =
        let one = there-some (shows source) (advances-there old.source source (shows source) advances) in
        let r = one.0 in
        let f = old.followed in
        let is_lost = is_lost_before f r in
        let behind = behind_record (before_record f r) r in
        let before : (later : List MrtRecord) (end : Option SourceFault) → comes source later end → comes old.source (r ∷ later) end =
        subst (λ (s : Option MrtRecord). Advances comes old.source source s (Ok true)) one.1 advances in
        let first = met_first is_lost f.who r in
        let mid : Inferring S = record old { source = source; followed = behind; put_in = is_lost } in
        let peels : Peels shows comes stopped failures full old mid first = λ all last given.
        (let rest = losses_along behind all in (
          r ∷ all,
          before all last given,
          ap (λ (b : Bool). pending b (shows old.source) (losses_along f (r ∷ all))) put_in ∙ along-by is_lost f r all refl
              ∙ ap (λ (s : Option MrtRecord). first ∷ pending is_lost s rest) (sym one.1),
        )) in
        counted-is shows comes stopped failures full may old source behind is_lost first some
        (ap (loss_or is_lost f.who) one.1 ∙ shown-by is_lost f.who r) peels same goes
        (repeats-none (stopped old.source) (failures old.source) (failures source) stays) new result (octets_first f r) refl
        (is_new r one.1) (is_result r one.1)

    -- the source ended
    module _ (source : S) (some : 0 < old.left) (put_in : old.put_in ≡ false) where
      abbrev ended : Inferring S
      ended = record old { source = source }

      shows-none : shows source ≡ None → shown_of shows ended ≡ None
      shows-none none =
          below-limit old.left None (loss_or old.put_in old.followed.who (shows source)) some
          ∙ ap (λ (b : Bool). loss_or b old.followed.who (shows source)) put_in ∙ none

      comes-end : (end : Option SourceFault) → comes old.source [] end → ComesInferred shows comes old [] end
      comes-end end given =
          let nothing : pending old.put_in (shows old.source) (losses_along old.followed []) ≡ [] =
          ap (λ (b : Bool). pending b (shows old.source) []) put_in in
          record {
            all = [];
            last = end;
            given = given;
            cut = ap (within old.left) (sym nothing);
            ends = sym (ap (λ (rs : List MrtRecord). end_within old.left rs end) nothing ∙ below-limit old.left (Some Read) end some);
          }

      stays-ended : (answer : Result Bool SourceFault) → Stays (stopped old.source) (failures old.source) (failures source) answer
          → Stays (stopped_of stopped old) (failures old.source) (failures source) answer
      stays-ended answer stays =
          subst (λ (s : Option (Result Bool SourceFault)). Stays s (failures old.source) (failures source) answer)
          (sym (below-limit old.left (Some (Err Read)) (repeated (stopped old.source)) some))
          (repeats-same (stopped old.source) (failures old.source) (failures source) answer stays)

      stops-ended : (answer : Option (Result Bool SourceFault)) → stopped source ≡ answer → stopped_of stopped ended ≡ repeated answer
      stops-ended answer same =
          below-limit old.left (Some (Err Read)) (repeated (stopped source)) some ∙ ap repeated same

      pub end-goes-on : Advances comes old.source source (shows source) (Ok false)
          → CountsFailure (failures old.source) (failures source) (full source) (stopped old.source) (Ok false)
          → Stays (stopped old.source) (failures old.source) (failures source) (Ok false) → Stops (stopped source) (Ok false)
          → GoesOn shows comes stopped failures full old (record old { source = source }) (Ok false)
      end-goes-on advances fails stays stops =
          let end = ends-with comes old.source source (shows source) advances in
          let none : shown_of shows ended ≡ None = shows-none end.0 in
          let takes : octets_of (shown_of shows ended) ≡ 0 = ap octets_of none in
          record {
            records = ends-from (ComesInferred shows comes) old ended (shown_of shows ended) none (comes-end None end.1);
            room = omega (arith, takes);
            counts = fails;
            stays = stays-ended (Ok false) stays;
            stops = stops-ended (Some (Ok false)) stops;
            losses = refl;
          }

      fails-ended : (fault : SourceFault)
          → CountsFailure (failures old.source) (failures source) (full source) (stopped old.source) (Err fault)
          → CountsFailure (failures old.source) (failures source) (IsFull full ended) (stopped_of stopped old) (Err fault)
      fails-ended (Mrt fault) fails = fails
      fails-ended Read (inl fails) = inl fails
      fails-ended Read (inr (same, inl is_full)) = inr (same, inl (inl is_full))
      fails-ended Read (inr (same, inr repeats)) =
          inr (same, inr (below-limit old.left (Some (Err Read)) (repeated (stopped old.source)) some ∙ ap repeated repeats))

      pub fault-goes-on : (fault : SourceFault) → Advances comes old.source source (shows source) (Err fault)
          → CountsFailure (failures old.source) (failures source) (full source) (stopped old.source) (Err fault)
          → Stays (stopped old.source) (failures old.source) (failures source) (Err fault) → Stops (stopped source) (Err fault)
          → GoesOn shows comes stopped failures full old (record old { source = source }) (Err fault)
      fault-goes-on fault advances fails stays stops =
          let end = fails-with comes old.source source (shows source) fault advances in
          let none : shown_of shows ended ≡ None = shows-none end.0 in
          let takes : octets_of (shown_of shows ended) ≡ 0 = ap octets_of none in
          record {
            records = fails-from (ComesInferred shows comes) old ended (shown_of shows ended) fault none
                (comes-end (Some fault) end.1);
            room = omega (arith, takes);
            counts = fails-ended fault fails;
            stays = stays-ended (Err fault) stays;
            stops = stops-ended (Some (Err fault)) stops;
            losses = refl;
          }
