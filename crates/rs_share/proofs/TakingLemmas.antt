-- What comes of a shared reading, step by step: for taken.rt.
use Rattle.std.proofs.Common.{◌≡◌, ◌≤◌, ℕ, zero, suc, ◌+◌, true, false, Bool, List, [], ◌∷◌, ◌++◌, Option, Some, None, Result, Ok, Err}
use Rattle.std.proofs.Common.{refl, ap, subst, sym, ◌∙◌, arith, inl, inr, cond, append_assoc}
use Rattle.std.proofs.Common.{All, length, drop}
use Rattle.std.specs.Prelude.{◌⊎◌, slice_get}
use Rattle.std.specs.Option.{option_map}
use Rattle.std.proofs.lemmas.Option.{get_or_from_slice_get, slice_get_within}
use Rattle.std.proofs.lemmas.List.{append-nil, drop_all}
use Rattle.std.proofs.lemmas.List.Concat.{flat_map-cons}
use Rattle.std.proofs.lemmas.Bool.{cond-true}
use Rattle.std.proofs.lemmas.List.Sums.{sum_by-append, sum_by-cons}
use Rattle.rs_mrt.specs.Entry.{entry_of}
use Rattle.rs_mrt.specs.Leniency.{answer_at_end}
use Rattle.rs_mrt.specs.Record.{MrtRecord, octets_of}
use Rattle.rs_mrt.specs.RecordReading.{ComesUnless, fault_of}
use Rattle.rs_mrt.specs.Source.{Advances, CountsFailure, Stays, Stops}
use Rattle.rs_mrt.specs.declared.fault.SourceFault.{SourceFault}
use Rattle.rs_mrt.specs.declared.fault.SourceFault.TheVariants.{Mrt, Read}
use Rattle.rs_types.specs.declared.peer_id.PeerId.{PeerId}
use Rattle.rs_share.specs.Batches.{Heard, silences, spread, spread_one}
use Rattle.rs_share.specs.Own.{is_for, own, silence}
use Rattle.rs_share.specs.Taking.{Begins, Carries, ComesOpen, GoesOn, HasTaken, IsHeard, MayCome, Steps, Taking}
use Rattle.rs_share.specs.Taking.{left_in}
use Rattle.std.proofs.lemmas.Grind.{flat_map-append}
use Rattle.rs_share.specs.Taking.{IsBegun}
use Rattle.rs_share.specs.declared.part.Begin.{Begin}
use Rattle.rs_share.specs.Telling.{Comes, EndsAs, Follows, FollowsBegin, IsTold, MayFollow, told_by, octets_in, told, told_in, trailing}
use Rattle.rs_share.specs.declared.part.Part.{Part}
use Rattle.rs_share.specs.declared.part.Last.{Last}

-- ---- records of others

silence-is-nobodys : (peer : PeerId) → is_for peer silence ≡ false
unfolding entry_of
silence-is-nobodys peer = refl

-- what a peer hears of others is not its own
pub own-silent : (peer : PeerId) (n : ℕ) (later : List MrtRecord) → own peer (silences n ++ later) ≡ own peer later
own-silent peer zero later = refl
own-silent peer (suc n) later =
    ap (λ (b : Bool). cond b (silence ∷ own peer (silences n ++ later)) (own peer (silences n ++ later))) (silence-is-nobodys peer)
    ∙ own-silent peer n later

own-first : (peer : PeerId) (n : ℕ) (r : MrtRecord) (later : List MrtRecord) → is_for peer r ≡ true
    → own peer (silences n ++ r ∷ later) ≡ r ∷ own peer later
own-first peer n r later is = own-silent peer n (r ∷ later) ∙ cond-true _ _ _ is

pub octets-append : (xs ys : List MrtRecord) → octets_in (xs ++ ys) ≡ octets_in xs + octets_in ys
octets-append xs ys = sum_by-append (λ (r : MrtRecord). octets_of (Some r)) xs ys

pub octets-cons : (r : MrtRecord) (xs : List MrtRecord) → octets_in (r ∷ xs) ≡ octets_of (Some r) + octets_in xs
octets-cons r xs = sum_by-cons (λ (r : MrtRecord). octets_of (Some r)) r xs

-- ---- lists

drop-next : (batch : List Heard) (at : ℕ) (h : Heard) → slice_get batch at ≡ Some h → drop at batch ≡ h ∷ drop (at + 1) batch
drop-next [] at h stands = absurd cc
drop-next (x ∷ xs) zero h stands = let is : x ≡ h = cc in ap (λ (y : Heard). y ∷ xs) is
drop-next (x ∷ xs) (suc at) h stands =
    drop-next xs at h stands ∙ (let next : suc at + 1 ≡ suc (at + 1) = omega arith in ap (λ (n : ℕ). h ∷ drop n (x ∷ xs)) (sym next))

all-at : (P : Heard → Type 0) (batch : List Heard) (at : ℕ) (h : Heard) → All P batch → slice_get batch at ≡ Some h → P h
all-at P batch at h all stands =
    subst P (get_or_from_slice_get batch at h h stands) (all at h (slice_get_within batch at h stands))

-- what stands at a place, if a part of it is known
pub stands-at : (found : Option Heard) (n : ℕ) → option_map (λ (h : Heard). h.others) found ≡ Some n
    → (h : Heard) × (found ≡ Some h) × (h.others ≡ n)
stands-at (Some h) n is = (h, refl, cc)
stands-at None n is = absurd cc

-- ---- a source before and after a step

module _ {S : Type 0} (comes : Comes S) (room : S → ℕ) (source : S) (peer : PeerId) (told : List MrtRecord) where
  -- open, with this left
  abbrev pub open_at : List MrtRecord → Option MrtRecord → ℕ → Taking S
  open_at left shown others = record {
    source = source;
    peer = peer;
    told = told;
    left = left;
    shown = shown;
    others = others;
    stopped = None;
  }

  -- stopped
  abbrev pub stopped_at : List MrtRecord → ℕ → Option SourceFault → Taking S
  stopped_at left others end = record {
    source = source;
    peer = peer;
    told = told;
    left = left;
    shown = None;
    others = others;
    stopped = Some (answer_at_end end);
  }

  -- what may be heard of an open source, as long as a beginning was told
  hears-told : (last : Option Last) (left : List MrtRecord) (shown : Option MrtRecord) (others : ℕ)
      → (t : IsTold comes source peer told last) → IsHeard comes (open_at left shown others) (left ++ t.rest) t.end
  hears-told last left shown others t =
      record { records = t.records; given = t.given; more = t.rest; splits = t.splits; is_later = refl }

  module _ (last : Option Last) (is_told : IsTold comes source peer told last) (n : ℕ) (r : MrtRecord)
      (left : List MrtRecord) (is : is_for peer r ≡ true) (shown : Option MrtRecord) (others : ℕ) where
    abbrev before : Taking S
    before = open_at (silences n ++ r ∷ left) shown others

    abbrev after : Taking S
    after = open_at left (Some r) n

    hears-before : (later : List MrtRecord) (end : Option SourceFault) → IsHeard comes after later end
        → IsHeard comes before (silences n ++ r ∷ later) end
    hears-before later end h = record {
      records = h.records;
      given = h.given;
      more = h.more;
      splits = h.splits;
      is_later = ap (λ (l : List MrtRecord). silences n ++ r ∷ l) h.is_later ∙ sym (append_assoc (silences n) (r ∷ left) h.more);
    }

    begins-before : (records : List MrtRecord) → (records ≡ []) ⊎ Begins comes after records → Begins comes before (r ∷ records)
    begins-before records (inl none) =
        let later = left ++ is_told.rest in
        record {
          later = silences n ++ r ∷ later;
          end = is_told.end;
          hears = hears-before later is_told.end (hears-told last left (Some r) n is_told);
          rest = own peer later;
          splits = own-first peer n r later is ∙ ap (λ (rs : List MrtRecord). r ∷ rs ++ own peer later) (sym none);
        }
    begins-before records (inr b) = record {
      later = silences n ++ r ∷ b.later;
      end = b.end;
      hears = hears-before b.later b.end b.hears;
      rest = b.rest;
      splits = own-first peer n r b.later is ∙ ap (λ (rs : List MrtRecord). r ∷ rs) b.splits;
    }

    comes-before : (records : List MrtRecord) (end : Option SourceFault) → ComesOpen comes after records end
        → ComesOpen comes before (r ∷ records) end
    comes-before records end (inl whole) = inl (record {
      later = silences n ++ r ∷ whole.later;
      hears = hears-before whole.later end whole.hears;
      are = ap (λ (rs : List MrtRecord). r ∷ rs) whole.are ∙ sym (own-first peer n r whole.later is);
    })
    comes-before records end (inr part) =
        inr (record { begins = inr (begins-before records part.begins); fails = part.fails })

    -- the next record is shown
    pub shows-next : GoesOn comes room before after (Ok true)
    shows-next = record {
      records = λ later end come. comes-before later end come;
      fits =
          let all = octets-append (silences n) (r ∷ left) in
          let one = octets-cons r left in
          omega (arith, all, one);
      stops = refl;
    }

  -- ---- the end

  own-none : (n : ℕ) → own peer (silences n) ≡ []
  own-none n = ap (own peer) (sym (append-nil (silences n))) ∙ own-silent peer n []

  comes-last : (l : Last) (shown : Option MrtRecord) (others : ℕ) (t : IsTold comes source peer told (Some l))
      → EndsAs t.rest t.end (Some l) → ComesOpen comes (open_at (silences l.others) shown others) [] l.end
  comes-last l shown others t (inl whole) = inl (record {
    later = silences l.others ++ t.rest;
    hears = subst (IsHeard comes (open_at (silences l.others) shown others) (silences l.others ++ t.rest)) (sym whole.1)
        (hears-told (Some l) (silences l.others) shown others t);
    are = sym (own-silent peer l.others t.rest ∙ ap (own peer) whole.0);
  })
  comes-last l shown others t (inr fails) = inr (record { begins = inl refl; fails = fails })

  ends-by : (old new : Taking S) (end : Option SourceFault) → MayCome comes old [] end
      → Advances (MayCome comes) old new None (answer_at_end end)
  ends-by old new None come = (refl, come)
  ends-by old new (Some fault) come = (refl, come)

  stops-by : (end : Option SourceFault) → Stops (Some (answer_at_end end)) (answer_at_end end)
  stops-by None = refl
  stops-by (Some fault) = refl

  -- the peer hears the end
  pub tells-end : (l : Last) (shown : Option MrtRecord) (others : ℕ) → IsTold comes source peer told (Some l)
      → GoesOn comes room (open_at (silences l.others) shown others) (stopped_at [] l.others l.end) (answer_at_end l.end)
  tells-end l shown others t = record {
    records = ends-by (open_at (silences l.others) shown others) (stopped_at [] l.others l.end) l.end
        (comes-last l shown others t t.ends);
    fits = omega arith;
    stops = stops-by l.end;
  }

  -- the reader is gone
  pub ends-early : (left : List MrtRecord) (shown : Option MrtRecord) (others : ℕ)
      → GoesOn comes room (open_at left shown others) (stopped_at left others (Some Read)) (Err Read)
  ends-early left shown others = record {
    records = (refl, inr (record { begins = inl refl; fails = refl }));
    fits = omega arith;
    stops = refl;
  }

-- the fault of an answer at an end
end-of : (end : Option SourceFault) → end ≡ fault_of (answer_at_end end)
end-of None = refl
end-of (Some fault) = refl

-- ---- one part more

module _ {S : Type 0} (comes : Comes S) (room : S → ℕ) (source : S) (peer : PeerId) (told part : List MrtRecord)
    (shown shown_after : Option MrtRecord) (others : ℕ) (octets : octets_in (told ++ part) ≤ room source) where
  abbrev used : Taking S
  used = open_at comes room source peer told [] shown others

  abbrev fresh : Taking S
  fresh = open_at comes room source peer (told ++ part) part shown_after others

  hears-part : (later : List MrtRecord) (end : Option SourceFault) → IsHeard comes fresh later end → IsHeard comes used later end
  hears-part later end h = record {
    records = h.records;
    given = h.given;
    more = part ++ h.more;
    splits = h.splits ∙ append_assoc told part h.more;
    is_later = h.is_later;
  }

  begins-part : (records : List MrtRecord) → (records ≡ []) ⊎ Begins comes fresh records
      → (records ≡ []) ⊎ Begins comes used records
  begins-part records (inl none) = inl none
  begins-part records (inr b) =
      inr (record { later = b.later; end = b.end; hears = hears-part b.later b.end b.hears; rest = b.rest; splits = b.splits })

  comes-part : (records : List MrtRecord) (end : Option SourceFault) → ComesOpen comes fresh records end
      → ComesOpen comes used records end
  comes-part records end (inl whole) =
      inl (record { later = whole.later; hears = hears-part whole.later end whole.hears; are = whole.are })
  comes-part records end (inr part_of) =
      inr (record { begins = begins-part records part_of.begins; fails = part_of.fails })

  pub takes-part : Carries comes room used fresh
  takes-part = record {
    goes = refl;
    keeps = comes-part;
    fits = let all = octets-append told part in omega (arith, all, octets);
  }

-- ---- the same by the fields of the peer's side

-- the next record of a part
left-next : (batch : List Heard) (at : ℕ) (last : Option Last) (h : Heard) → slice_get batch at ≡ Some h
    → left_in batch at last ≡ silences h.others ++ h.own ∷ left_in batch (at + 1) last
left-next batch at last h stands =
    ap (λ (hs : List Heard). told_in hs last) (drop-next batch at h stands)
    ∙ ap (λ (rs : List MrtRecord). rs ++ trailing last) (flat_map-cons spread_one h (drop (at + 1) batch))
    ∙ append_assoc (spread_one h) (spread (drop (at + 1) batch)) (trailing last)
    ∙ append_assoc (silences h.others) (h.own ∷ []) (left_in batch (at + 1) last)

-- none is left but those of others
left-past : (batch : List Heard) (at : ℕ) (last : Option Last) → length batch ≤ at → left_in batch at last ≡ trailing last
left-past batch at last past = ap (λ (hs : List Heard). told_in hs last) (drop_all at batch past)

module _ {S : Type 0} (comes : Comes S) (room : S → ℕ) (source : S) (peer : PeerId) (parts : List (Part S))
    (batch : List Heard) (at : ℕ) (last : Option Last) (has : HasTaken comes room source peer parts batch at last) where
  abbrev taking : List MrtRecord → Option MrtRecord → ℕ → Option (Result Bool SourceFault) → Taking S
  taking left shown others stopped = record {
    source = source;
    peer = peer;
    told = told parts;
    left = left;
    shown = shown;
    others = others;
    stopped = stopped;
  }

  pub has-next : (h : Heard) → slice_get batch at ≡ Some h → HasTaken comes room source peer parts batch (at + 1) last
  has-next h stands = record {
    begun = has.begun;
    is_told = has.is_told;
    own = has.own;
    octets = has.octets;
    left =
        let all = ap octets_in (left-next batch at last h stands) in
        let one = octets-append (silences h.others) (h.own ∷ left_in batch (at + 1) last) in
        let two = octets-cons h.own (left_in batch (at + 1) last) in
        let few = has.left in
        omega (arith, all, one, two, few);
    few = has.few;
  }

  pub steps-next : (h : Heard) (n : ℕ) (shown shown_after : Option MrtRecord) (others : ℕ)
      (stopped : Option (Result Bool SourceFault)) → slice_get batch at ≡ Some h → h.others ≡ n → shown_after ≡ Some h.own
      → stopped ≡ None
      → GoesOn comes room (taking (left_in batch at last) shown others stopped)
      (taking (left_in batch (at + 1) last) shown_after n stopped) (Ok true)
  steps-next h n shown shown_after others stopped stands count is_shown goes =
      subst (λ (s : Option (Result Bool SourceFault)). GoesOn comes room (taking (left_in batch at last) shown others s)
      (taking (left_in batch (at + 1) last) shown_after n s) (Ok true)) (sym goes)
      (subst (λ (s : Option MrtRecord). GoesOn comes room (taking (left_in batch at last) shown others None)
      (taking (left_in batch (at + 1) last) s n None) (Ok true)) (sym is_shown)
      (subst (λ (k : ℕ). GoesOn comes room (taking (left_in batch at last) shown others None)
      (taking (left_in batch (at + 1) last) (Some h.own) k None) (Ok true)) count
      (subst (λ (l : List MrtRecord). GoesOn comes room (taking l shown others None)
      (taking (left_in batch (at + 1) last) (Some h.own) h.others None) (Ok true)) (sym (left-next batch at last h stands))
      (shows-next comes room source peer (told parts) last has.is_told h.others h.own (left_in batch (at + 1) last)
      (all-at (λ x. is_for peer x.own ≡ true) batch at h has.own stands) shown others))))

  pub steps-end : (l : Last) (shown : Option MrtRecord) (others : ℕ) (stopped : Option (Result Bool SourceFault))
      → last ≡ Some l → length batch ≤ at → stopped ≡ None
      → GoesOn comes room (taking (left_in batch at last) shown others stopped)
      (taking (left_in batch at None) None l.others (Some (answer_at_end l.end))) (answer_at_end l.end)
  steps-end l shown others stopped is past goes =
      subst (λ (s : Option (Result Bool SourceFault)). GoesOn comes room (taking (left_in batch at last) shown others s)
      (taking (left_in batch at None) None l.others (Some (answer_at_end l.end))) (answer_at_end l.end)) (sym goes)
      (subst (λ (left : List MrtRecord). GoesOn comes room (taking left shown others None)
      (taking (left_in batch at None) None l.others (Some (answer_at_end l.end))) (answer_at_end l.end))
      (sym (left-past batch at last past ∙ ap trailing is))
      (subst (λ (left : List MrtRecord). GoesOn comes room (taking (silences l.others) shown others None)
      (taking left None l.others (Some (answer_at_end l.end))) (answer_at_end l.end)) (sym (left-past batch at None past))
      (tells-end comes room source peer (told parts) l shown others
      (subst (IsTold comes source peer (told parts)) is has.is_told))))

  pub none-left : last ≡ None → length batch ≤ at → left_in batch at last ≡ []
  none-left is past = left-past batch at last past ∙ ap trailing is

-- ---- the same of equal values

module _ {S : Type 0} (comes : Comes S) (room : S → ℕ) where
  pub goes-of : {old now next new : Taking S} {said result : Result Bool SourceFault} → old ≡ now → new ≡ next → result ≡ said
      → GoesOn comes room old next said → GoesOn comes room now new result
  goes-of {old} {now} {next} {new} {said} {result} is_old is_new is_said goes =
      subst (λ (o : Taking S). GoesOn comes room o new result) is_old
      (subst (λ (n : Taking S). GoesOn comes room old n result) (sym is_new)
      (subst (λ (a : Result Bool SourceFault). GoesOn comes room old next a) (sym is_said) goes))

  pub steps-none : {old now : Taking S} {result : Option (Result Bool SourceFault)} → old ≡ now → result ≡ None → old.left ≡ []
      → Steps comes room now (record old { shown = None }) result
  steps-none {old} {now} {result} is_old is_none left =
      subst (λ (a : Option (Result Bool SourceFault)). Steps comes room now (record old { shown = None }) a) (sym is_none)
      (ap (λ (t : Taking S). record t { shown = None }) is_old, ap (λ (t : Taking S). t.left) (sym is_old) ∙ left)

-- ---- one part more, by the fields of the peer's side

pub told-more : {S : Type 0} (parts : List (Part S)) (part : Part S) → told (parts ++ part ∷ []) ≡ told parts ++ told_by part
told-more parts part =
    flat_map-append told_by parts (part ∷ []) ∙ ap (λ (rs : List MrtRecord). told parts ++ rs) (append-nil (told_by part))

module _ {S : Type 0} (comes : Comes S) (room : S → ℕ) (source : S) (peer : PeerId) (parts : List (Part S))
    (batch : List Heard) (at : ℕ) (last : Option Last) (has : HasTaken comes room source peer parts batch at last)
    (part : Part S) (follows : MayFollow comes room parts part) where
  -- what the reader promised of this part
  is-promised : Follows comes room has.begun.begin (told parts ++ told_by part) part
  is-promised =
      let b = has.begun in
      let one : MayFollow comes room (b.first ∷ b.rest) part = subst (λ (ps : List (Part S)). MayFollow comes room ps part) b.splits follows in
      let two : Follows comes room b.begin (told (b.first ∷ b.rest) ++ told_by part) part =
      subst (λ (o : Option (Begin S)). FollowsBegin comes room o (told (b.first ∷ b.rest) ++ told_by part) part) b.begins one in
      subst (λ (ps : List (Part S)). Follows comes room b.begin (told ps ++ told_by part) part) (sym b.splits) two

  begun-more : IsBegun source peer (parts ++ part ∷ [])
  begun-more =
      let b = has.begun in
      record {
        first = b.first;
        begin = b.begin;
        rest = b.rest ++ part ∷ [];
        splits = ap (λ (ps : List (Part S)). ps ++ part ∷ []) b.splits;
        begins = b.begins;
        source_is = b.source_is;
        peer_is = b.peer_is;
      }

  pub has-part : HasTaken comes room source peer (parts ++ part ∷ []) part.batch 0 part.last
  has-part =
      let b = has.begun in
      let f = is-promised in
      let more = told-more parts part in
      record {
        begun = begun-more;
        is_told = subst (λ (all : List MrtRecord). IsTold comes source peer all part.last) (sym more)
            (subst (λ (s : S). IsTold comes s peer (told parts ++ told_by part) part.last) b.source_is
            (subst (λ (p : PeerId). IsTold comes b.begin.source.value p (told parts ++ told_by part) part.last) b.peer_is f.is_told));
        own = subst (λ (p : PeerId). All (λ (h : Heard). is_for p h.own ≡ true) part.batch) b.peer_is f.own;
        octets = subst (λ (all : List MrtRecord). octets_in all ≤ room source) (sym more)
            (subst (λ (s : S). octets_in (told parts ++ told_by part) ≤ room s) b.source_is f.octets);
        left =
            let all = ap octets_in more in
            let two = octets-append (told parts) (told_by part) in
            omega (arith, all, two);
        few = has.few;
      }

  pub has-part-as : (parts_after : List (Part S)) (batch_after : List Heard) → parts_after ≡ parts ++ part ∷ []
      → batch_after ≡ part.batch → HasTaken comes room source peer parts_after batch_after 0 part.last
  has-part-as parts_after batch_after parts_are batch_is =
      subst (λ (ps : List (Part S)). HasTaken comes room source peer ps batch_after 0 part.last) (sym parts_are)
      (subst (λ (hs : List Heard). HasTaken comes room source peer (parts ++ part ∷ []) hs 0 part.last) (sym batch_is) has-part)

  pub carries-part : (left : List MrtRecord) (shown shown_after : Option MrtRecord) (others : ℕ)
      (stopped : Option (Result Bool SourceFault)) (parts_after : List (Part S)) (batch_after : List Heard) → left ≡ [] → stopped ≡ None
      → parts_after ≡ parts ++ part ∷ [] → batch_after ≡ part.batch
      → Carries comes room
      (record { source = source; peer = peer; told = told parts; left = left; shown = shown; others = others; stopped = stopped })
      (record {
        source = source;
        peer = peer;
        told = told parts_after;
        left = left_in batch_after 0 part.last;
        shown = shown_after;
        others = others;
        stopped = stopped;
      })
  carries-part left shown shown_after others stopped parts_after batch_after none goes parts_are batch_is =
      subst (λ (s : Option (Result Bool SourceFault)). Carries comes room
      (record { source = source; peer = peer; told = told parts; left = left; shown = shown; others = others; stopped = s })
      (record {
        source = source;
        peer = peer;
        told = told parts_after;
        left = left_in batch_after 0 part.last;
        shown = shown_after;
        others = others;
        stopped = s;
      })) (sym goes)
      (subst (λ (l : List MrtRecord). Carries comes room
      (record { source = source; peer = peer; told = told parts; left = l; shown = shown; others = others; stopped = None })
      (record {
        source = source;
        peer = peer;
        told = told parts_after;
        left = left_in batch_after 0 part.last;
        shown = shown_after;
        others = others;
        stopped = None;
      })) (sym none)
      (subst (λ (all : List MrtRecord). Carries comes room
      (record { source = source; peer = peer; told = told parts; left = []; shown = shown; others = others; stopped = None })
      (record {
        source = source;
        peer = peer;
        told = all;
        left = left_in batch_after 0 part.last;
        shown = shown_after;
        others = others;
        stopped = None;
      })) (sym (ap told parts_are ∙ told-more parts part))
      (subst (λ (b : List Heard). Carries comes room
      (record { source = source; peer = peer; told = told parts; left = []; shown = shown; others = others; stopped = None })
      (record {
        source = source;
        peer = peer;
        told = told parts ++ told_by part;
        left = left_in b 0 part.last;
        shown = shown_after;
        others = others;
        stopped = None;
      })) (sym batch_is)
      (takes-part comes room source peer (told parts) (told_by part) shown shown_after others
      (subst (λ (s : S). octets_in (told parts ++ told_by part) ≤ room s) has.begun.source_is is-promised.octets)))))

module _ {S : Type 0} (comes : Comes S) (room : S → ℕ) where
  pub carries-of : {old now new : Taking S} → old ≡ now → Carries comes room old new → Carries comes room now new
  carries-of {old} {now} {new} is carries = subst (λ (o : Taking S). Carries comes room o new) is carries

  pub carries-same : (old : Taking S) → old.stopped ≡ None → Carries comes room old old
  carries-same old goes = record { goes = goes; keeps = λ records end come. come; fits = omega arith }

  -- one after another
  pub carries-on : (old mid new : Taking S) → Carries comes room old mid → Carries comes room mid new → Carries comes room old new
  carries-on old mid new one two = record {
    goes = two.goes;
    keeps = λ records end come. one.keeps records end (two.keeps records end come);
    fits = let a = one.fits in let b = two.fits in omega (arith, a, b);
  }

  advances-behind : (old mid new : Taking S) (shown : Option MrtRecord) (result : Result Bool SourceFault) → Carries comes room old mid
      → Advances (MayCome comes) mid new shown result → Advances (MayCome comes) old new shown result
  advances-behind old mid new (Some r) (Ok true) carries advances =
      λ later end come. carries.keeps (r ∷ later) end (advances later end come)
  advances-behind old mid new None (Ok true) carries advances = advances
  advances-behind old mid new (Some r) (Ok false) carries advances = (advances.0, carries.keeps [] None advances.1)
  advances-behind old mid new None (Ok false) carries advances = (advances.0, carries.keeps [] None advances.1)
  advances-behind old mid new (Some r) (Err fault) carries advances = (advances.0, carries.keeps [] (Some fault) advances.1)
  advances-behind old mid new None (Err fault) carries advances = (advances.0, carries.keeps [] (Some fault) advances.1)

  -- a step behind others
  pub goes-behind : (old mid new : Taking S) (result : Result Bool SourceFault) → Carries comes room old mid
      → GoesOn comes room mid new result → GoesOn comes room old new result
  goes-behind old mid new result carries goes = record {
    records = advances-behind old mid new new.shown result carries goes.records;
    fits = let a = goes.fits in let b = carries.fits in omega (arith, a, b);
    stops = goes.stops;
  }

  -- the answer is repeated
  answers-end : (old : Taking S) (end : Option SourceFault) → old.stopped ≡ Some (answer_at_end end) → MayCome comes old [] end
  answers-end old end is =
      subst (λ (s : Option (Result Bool SourceFault)). ComesUnless s (ComesOpen comes old) [] end) (sym is) (refl, end-of end)

  end-goes : (old new : Taking S) (end : Option SourceFault) → MayCome comes old [] end
      → Advances (MayCome comes) old new None (answer_at_end end)
  end-goes old new None come = (refl, come)
  end-goes old new (Some fault) come = (refl, come)

  end-stops : (end : Option SourceFault) → Stops (Some (answer_at_end end)) (answer_at_end end)
  end-stops None = refl
  end-stops (Some fault) = refl

  ends-at : (old : Taking S) (end : Option SourceFault) → MayCome comes old [] end
      → GoesOn comes room old (record old { shown = None; stopped = Some (answer_at_end end) }) (answer_at_end end)
  ends-at old end come = record {
    records = end-goes old (record old { shown = None; stopped = Some (answer_at_end end) }) end come;
    fits = omega arith;
    stops = end-stops end;
  }

  pub repeats : (old : Taking S) (end : Option SourceFault) → old.stopped ≡ Some (answer_at_end end)
      → GoesOn comes room old (record old { shown = None; stopped = Some (answer_at_end end) }) (answer_at_end end)
  repeats old end is = ends-at old end (answers-end old end is)

  -- the reader is gone
  pub fails : (old : Taking S) → old.stopped ≡ None
      → GoesOn comes room old (record old { shown = None; stopped = Some (Err Read) }) (Err Read)
  fails old goes =
      ends-at old (Some Read)
      (subst (λ (s : Option (Result Bool SourceFault)). ComesUnless s (ComesOpen comes old) [] (Some Read)) (sym goes)
      (inr (record { begins = inl refl; fails = refl })))

  -- ---- nothing is shown

  hears-hidden : (old : Taking S) (later : List MrtRecord) (end : Option SourceFault)
      → IsHeard comes (record old { shown = None }) later end → IsHeard comes old later end
  hears-hidden old later end h =
      record { records = h.records; given = h.given; more = h.more; splits = h.splits; is_later = h.is_later }

  begins-hidden : (old : Taking S) (records : List MrtRecord) → (records ≡ []) ⊎ Begins comes (record old { shown = None }) records
      → (records ≡ []) ⊎ Begins comes old records
  begins-hidden old records (inl none) = inl none
  begins-hidden old records (inr b) = inr (record {
    later = b.later;
    end = b.end;
    hears = hears-hidden old b.later b.end b.hears;
    rest = b.rest;
    splits = b.splits;
  })

  comes-hidden : (old : Taking S) (records : List MrtRecord) (end : Option SourceFault)
      → ComesOpen comes (record old { shown = None }) records end → ComesOpen comes old records end
  comes-hidden old records end (inl whole) =
      inl (record { later = whole.later; hears = hears-hidden old whole.later end whole.hears; are = whole.are })
  comes-hidden old records end (inr part) =
      inr (record { begins = begins-hidden old records part.begins; fails = part.fails })

  comes-unless : (old : Taking S) (stopped : Option (Result Bool SourceFault)) (records : List MrtRecord) (end : Option SourceFault)
      → ComesUnless stopped (ComesOpen comes (record old { shown = None })) records end
      → ComesUnless stopped (ComesOpen comes old) records end
  comes-unless old None records end come = comes-hidden old records end come
  comes-unless old (Some answer) records end come = come

  carries-hidden : (old : Taking S) → old.stopped ≡ None → Carries comes room old (record old { shown = None })
  carries-hidden old goes = record {
    goes = goes;
    keeps = λ records end come. comes-unless old old.stopped records end come;
    fits = omega arith;
  }

  -- a part that is used up, and the next one
  pub carries-next : (first old mid new : Taking S) → Carries comes room first old → mid ≡ record old { shown = None }
      → Carries comes room mid new → Carries comes room first new
  carries-next first old mid new one is two =
      carries-on first old new one
      (carries-on old (record old { shown = None }) new (carries-hidden old one.goes)
      (subst (λ (m : Taking S). Carries comes room m new) is two))

  -- the answer that is counted
  pub counts-none : (old stopped : Option (Result Bool SourceFault)) (result : Result Bool SourceFault) → Stops stopped result
      → CountsFailure 0 0 (stopped ≡ Some (Err Read)) old result
  counts-none old stopped (Ok true) stops = refl
  counts-none old stopped (Ok false) stops = refl
  counts-none old stopped (Err (Mrt fault)) stops = refl
  counts-none old stopped (Err Read) stops = inr (refl, inl stops)

  -- an open source stays open until it says how the records end
  pub stays-open : (old : Option (Result Bool SourceFault)) (result : Result Bool SourceFault) → old ≡ None → Stays old 0 0 result
  stays-open old result goes = subst (λ (s : Option (Result Bool SourceFault)). Stays s 0 0 result) (sym goes) tt
