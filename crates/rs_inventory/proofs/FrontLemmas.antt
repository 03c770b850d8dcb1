-- A reader whose first octets were taken gives what it might have given before.
use Rattle.std.proofs.Common.{◌≡◌, ℕ, zero, suc, ◌<◌, ◌||◌, nat_le, Bool, true, false, List, [], ◌∷◌, ◌++◌, length, take, drop, min, Result}
use Rattle.std.proofs.Common.{Ok, Err, refl, sym, ap, subst, ◌∙◌, arith, append_assoc, take-append-drop, ltb, ltb-false, leb-false, append-nil}
use Rattle.std.specs.Prelude.{OnErr}
use Rattle.rs_mrt.specs.declared.stream.Failed.{Failed}
use Rattle.rs_mrt.specs.Reader.{ReadEnd, ReadFails, ReadGives}
use Rattle.rs_inventory.specs.Front.{GivesUnlessEnded, ReadMayFail, Rewound, RewoundGives, Taken, front_len, is_done, rewound}

module _ {R : Type 0} (gives : R → List ℕ → ReadEnd → Type 0) where
  -- the reader is asked once all that was taken was given again
  pub inner-gives : (old new : R) (result : Result ℕ Failed) (piece : List ℕ) → ReadGives (gives old) (gives new) result piece
      → ReadGives (RewoundGives gives (record { held = []; ended = false; inner = old }))
      (RewoundGives gives (record { held = []; ended = false; inner = new })) result piece
  inner-gives old new (Err failed) piece read = record { later = []; splits = refl; given = read }
  inner-gives old new (Ok zero) (x ∷ xs) read = record { later = []; splits = refl; given = read }
  inner-gives old new (Ok zero) [] read = λ later end w. record { later = w.later; splits = w.splits; given = read w.later end w.given }
  inner-gives old new (Ok (suc n)) piece read = λ later end w. record {
    later = take (suc n) piece ++ w.later;
    splits = ap (λ (l : List ℕ). take (suc n) piece ++ l) w.splits;
    given = read w.later end w.given;
  }

  -- octets that were taken are given again
  pub held-gives : (old : Rewound R) (n : ℕ) (piece : List ℕ) → take n piece ≡ take n old.held → 0 < length old.held
      → n ≡ min (length old.held) (length piece)
      → ReadGives (RewoundGives gives old) (RewoundGives gives (record old { held = drop n old.held })) (Ok n) piece
  held-gives old zero [] same some most = λ later end w. w
  held-gives old zero (x ∷ xs) same some most = absurd (omega (arith, some, most))
  held-gives old (suc n) piece same some most = λ later end w. record {
    later = w.later;
    splits = ap (λ (l : List ℕ). take (suc n) piece ++ l) w.splits ∙ sym (append_assoc (take (suc n) piece) (drop (suc n) old.held) w.later)
        ∙ ap (λ (l : List ℕ). l ++ w.later) (ap (λ (l : List ℕ). l ++ drop (suc n) old.held) same ∙ take-append-drop (suc n) old.held);
    given = w.given;
  }

  inner-of : (w : Rewound R) → w.held ≡ [] → w.ended ≡ false → w ≡ record { held = []; ended = false; inner = w.inner }
  inner-of w held ended = λ i. record { held = held i; ended = ended i; inner = w.inner }

  -- the reader is asked if no octets are kept
  pub asks-inner : (old new : Rewound R) (result : Result ℕ Failed) (piece : List ℕ) → old.held ≡ [] → old.ended ≡ false → new.held ≡ []
      → new.ended ≡ false
      → ReadGives (gives old.inner) (gives new.inner) result piece
      → ReadGives (RewoundGives gives old) (RewoundGives gives new) result piece
  asks-inner old new result piece held ended held_after ended_after read =
      subst (λ (w : Rewound R). ReadGives (RewoundGives gives w) (RewoundGives gives new) result piece) (sym (inner-of old held ended))
      (subst (λ (w : Rewound R). ReadGives (RewoundGives gives (record { held = []; ended = false; inner = old.inner }))
      (RewoundGives gives w) result piece) (sym (inner-of new held_after ended_after))
      (inner-gives old.inner new.inner result piece read))

  -- a failed read while octets are taken is one after these
  pub front-fails : (front : Taken) (inner : R) → is_done front ≡ false → gives inner [] ReadFails
      → ReadMayFail (RewoundGives gives) (rewound front inner)
  front-fails front inner unfinished failed =
      (front.octets, record { later = []; splits = sym (append-nil front.octets); given = unless front.ended unfinished }, few front.ended unfinished)
    where
      few : (ended : Bool) → (ended || nat_le front_len (length front.octets)) ≡ false → length front.octets < front_len
      few true done = absurd (cc done)
      few false done = leb-false front_len (length front.octets) done

      unless : (ended : Bool) → (ended || nat_le front_len (length front.octets)) ≡ false → GivesUnlessEnded gives ended inner [] ReadFails
      unless true done = absurd (cc done)
      unless false done = failed

-- what holds of a failed call holds of its answer
pub of-failed : {A E : Type 0} {P : Type 0} (answer : Result A E) → P → OnErr answer P
of-failed (Ok x) holds = tt
of-failed (Err e) holds = holds

pub nothing-held : (held : List ℕ) → ltb 0 (length held) ≡ false → held ≡ []
nothing-held [] e = refl
nothing-held (x ∷ xs) e = absurd (let none = ltb-false 0 (length (x ∷ xs)) e in omega (arith, none))
