-- A record that a source with losses shows is counted: for StepLemmas.
use Rattle.std.proofs.Common.{◌≡◌, ℕ, zero, suc, ◌-◌, ◌<◌, true, false, Bool, List, [], ◌∷◌, Option, Some, None, Result, Ok, Err}
use Rattle.std.proofs.Common.{refl, ap, subst, sym, ◌∙◌, arith, inl, inr}
use Rattle.std.specs.Prelude.{nat_lt}
use Rattle.std.proofs.lemmas.Bool.{cases_Bool, cond-true, cond-false, ltb-true}
use Rattle.rs_mrt.specs.declared.fault.SourceFault.{SourceFault}
use Rattle.rs_mrt.specs.declared.fault.SourceFault.TheVariants.{Read}
use Rattle.rs_mrt.specs.Record.{MrtRecord, octets_of}
use Rattle.rs_mrt.specs.Source.{Advances, SomethingComes, Stays}
use Rattle.rs_losses.specs.WithLosses.{ComesInferred, GoesOn, Inferring, answer_within, at_limit, counted, end_within, loss_or}
use Rattle.rs_losses.specs.WithLosses.{losses_along, pending, repeated, shown_of, stopped_of, within}
use Rattle.rs_losses.specs.declared.following.Followed.{Followed}

-- ---- the limit

pub below-limit : {A : Type 0} (left : ℕ) (limit below : A) → 0 < left → at_limit left limit below ≡ below
below-limit zero limit below some = absurd (omega (arith, some))
below-limit (suc left) limit below some = refl

not-below-none : (n : ℕ) → nat_lt n 0 ≡ false
not-below-none n =
    elim (cases_Bool (nat_lt n 0)) [
      | inl below ↦ absurd (let less = ltb-true n 0 below in omega (arith, less))
      | inr over ↦ over
    ]

pub within-none : (records : List MrtRecord) → within 0 records ≡ []
within-none [] = refl
within-none (r ∷ later) = cond-false _ _ _ (not-below-none (octets_of (Some r)))

pub end-none : (records : List MrtRecord) (end : Option SourceFault) → end_within 0 records end ≡ Some Read
end-none [] end = refl
end-none (r ∷ later) end = cond-false _ _ _ (not-below-none (octets_of (Some r)))

-- ---- a record that is shown is counted

module _ {S : Type 0} (shows : S → Option MrtRecord) (comes : S → List MrtRecord → Option SourceFault → Type 0)
    (stopped : S → Option (Result Bool SourceFault)) (failures : S → ℕ) (full : S → Type 0) where
  -- what comes of a source in one state comes of it in another one, behind a record
  abbrev pub Peels : Inferring S → Inferring S → MrtRecord → Type 0
  Peels old new r = (all : List MrtRecord) (last : Option SourceFault) → comes new.source all last
      → (more : List MrtRecord) × comes old.source more last
      × (pending old.put_in (shows old.source) (losses_along old.followed more)
      ≡ r ∷ pending new.put_in (shows new.source) (losses_along new.followed all))

  module _ (may : (source : S) → SomethingComes (comes source)) (old : Inferring S) (source : S) (f : Followed) (put_in : Bool)
      (r : MrtRecord) (some : 0 < old.left) (shown : loss_or put_in f.who (shows source) ≡ Some r)
      (peels : Peels old (record old { source = source; followed = f; put_in = put_in }) r)
      (same : failures source ≡ failures old.source) (goes : stopped source ≡ None) (went : repeated (stopped old.source) ≡ None) where
    abbrev mid : Inferring S
    mid = record old { source = source; followed = f; put_in = put_in }

    abbrev len : ℕ
    len = octets_of (Some r)

    open-before : stopped_of stopped old ≡ None
    open-before = below-limit old.left (Some (Err Read)) (repeated (stopped old.source)) some ∙ went

    stays-open : (answer : Result Bool SourceFault) → Stays (stopped_of stopped old) (failures old.source) (failures source) answer
    stays-open answer =
        subst (λ (s : Option (Result Bool SourceFault)). Stays s (failures old.source) (failures source) answer) (sym open-before) tt

    counts-one : nat_lt len old.left ≡ true → GoesOn shows comes stopped failures full old (record mid { left = old.left - len }) (Ok true)
    counts-one fits =
        let new : Inferring S = record mid { left = old.left - len } in
        let fewer : len < old.left = ltb-true len old.left fits in
        let left : 0 < old.left - len = omega (arith, fewer) in
        let is_shown : shown_of shows new ≡ Some r =
        below-limit (old.left - len) None (loss_or put_in f.who (shows source)) left ∙ shown in
        let takes : octets_of (shown_of shows new) ≡ len = ap octets_of is_shown in
        record {
          records = subst (λ (s : Option MrtRecord). Advances (ComesInferred shows comes) old new s (Ok true)) (sym is_shown)
              (λ later end c.
              let p = peels c.all c.last c.given in
              let rest = pending put_in (shows source) (losses_along f c.all) in
              let one : within old.left (r ∷ rest) ≡ r ∷ within (old.left - len) rest = cond-true _ _ _ fits in
              let last : end_within old.left (r ∷ rest) c.last ≡ end_within (old.left - len) rest c.last = cond-true _ _ _ fits in
              record {
                all = p.0;
                last = c.last;
                given = p.1;
                cut = ap (λ (rs : List MrtRecord). r ∷ rs) c.cut ∙ sym one ∙ ap (within old.left) (sym p.2);
                ends = c.ends ∙ sym last ∙ ap (λ (rs : List MrtRecord). end_within old.left rs c.last) (sym p.2);
              });
          room = omega (arith, takes, fewer);
          counts = same;
          stays = stays-open (Ok true);
          stops = below-limit (old.left - len) (Some (Err Read)) (repeated (stopped source)) left ∙ ap repeated goes;
          losses = refl;
        }

    counts-none : nat_lt len old.left ≡ false
        → GoesOn shows comes stopped failures full old (record mid { put_in = false; left = 0 }) (Err Read)
    counts-none over =
        let c = may source in
        let p = peels c.0 c.1 c.2 in
        let rest = pending put_in (shows source) (losses_along f c.0) in
        let none : within old.left (r ∷ rest) ≡ [] = cond-false _ _ _ over in
        let last : end_within old.left (r ∷ rest) c.1 ≡ Some Read = cond-false _ _ _ over in
        record {
          records = (
            refl,
            record {
              all = p.0;
              last = c.1;
              given = p.1;
              cut = sym none ∙ ap (within old.left) (sym p.2);
              ends = sym last ∙ ap (λ (rs : List MrtRecord). end_within old.left rs c.1) (sym p.2);
            },
          );
          room = omega arith;
          counts = inr (same, inl (inr refl));
          stays = stays-open (Err Read);
          stops = refl;
          losses = refl;
        }

    pub counted-is : (new : Inferring S) (result : Result Bool SourceFault) (octets : ℕ) → octets ≡ len → new ≡ counted mid octets
        → result ≡ answer_within octets old.left → GoesOn shows comes stopped failures full old new result
    counted-is new result octets is_len is_new is_result =
        let new_is : new ≡ counted mid len = is_new ∙ ap (counted mid) is_len in
        let answer : result ≡ answer_within len old.left = is_result ∙ ap (λ (n : ℕ). answer_within n old.left) is_len in
        elim (cases_Bool (nat_lt len old.left)) [
          | inl fits ↦
              (subst (λ (n : Inferring S). GoesOn shows comes stopped failures full old n result) (sym (new_is ∙ cond-true _ _ _ fits))
              (subst (λ (a : Result Bool SourceFault). GoesOn shows comes stopped failures full old
              (record mid { left = old.left - len }) a)
              (sym (answer ∙ cond-true _ _ _ fits)) (counts-one fits)))
          | inr over ↦
              (subst (λ (n : Inferring S). GoesOn shows comes stopped failures full old n result) (sym (new_is ∙ cond-false _ _ _ over))
              (subst (λ (a : Result Bool SourceFault). GoesOn shows comes stopped failures full old
              (record mid { put_in = false; left = 0 }) a)
              (sym (answer ∙ cond-false _ _ _ over)) (counts-none over)))
        ]
