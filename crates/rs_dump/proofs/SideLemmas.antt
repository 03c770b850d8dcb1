-- Dumps that are written beside each other, turn by turn.
use Rattle.std.proofs.Common.{ℕ, ◌+◌, ◌∙◌, List, [], Option, IsFalse, inl, inr, refl, ap, sym, subst, arith}
use Rattle.std.proofs.lemmas.Bool.{both_ways, cases_Bool}
use Rattle.std.proofs.lemmas.List.{append-nil}
use Rattle.rs_dump.specs.SideBySide.{CanBegin, CanGo, GoesOn, Goes, IsLost, IsWritten, IsWrittenFrom}
use Rattle.rs_dump.specs.declared.side_by_side.Writing.{Writing}
use Rattle.rs_dump.proofs.TurnLemmas.{IsUnderWay-none}
use Rattle.rs_dump.proofs.UnderWayLemmas.{Appends-whole, AppendsBeginning-part, IsUnderWay-then}

module _ {W : Type 0} (taken : W → Option (List ℕ)) (failures : W → ℕ) (label : W → Option (List ℕ)) where
  -- no rows were written yet
  pub on-none : (a : Writing W) → IsFalse a.failed → GoesOn taken failures label a a
  on-none a ok =
      record {
        sent = λ _. IsUnderWay-none (taken a.out) a.dump.octets a.dump.octets refl;
        no_failure = λ _. refl;
        rows = λ _. refl;
        lost = λ failed. absurd (both_ways a.failed ok failed);
        label_stays = refl;
      }

  -- it can be written on
  pub can-go : (a b : Writing W) → CanBegin failures a → GoesOn taken failures label a b → CanGo failures b
  can-go a b can before = λ ok. omega (arith, can.1, before.no_failure ok)

  -- a write of a dump fails of which some rows were written
  lost-then : (a b c : Writing W) → GoesOn taken failures label a b → IsFalse b.failed → IsLost taken failures label b c
      → IsLost taken failures label a c
  lost-then a b c before ok lost =
      record {
        beginning = AppendsBeginning-part (taken a.out) (taken b.out) (taken c.out) b.dump.octets a.dump.octets [] a.dump.octets
            (before.sent ok) lost.beginning (sym (append-nil a.dump.octets));
        failure = lost.failure ∙ ap (λ n. n + 1) (before.no_failure ok);
      }

  pub on-then : (a b c : Writing W) → GoesOn taken failures label a b → Goes taken failures label b c → GoesOn taken failures label a c
  on-then a b c before after = elim (cases_Bool b.failed) [
    | inl failed ↦
        let P : Writing W → Type 0 = λ w. GoesOn taken failures label a w in
        subst P (sym (after.not_on failed)) before
    | inr ok ↦
        let on = after.on ok in
        record {
          sent = λ written. IsUnderWay-then (taken a.out) (taken b.out) (taken c.out) b.dump.octets c.dump.octets a.dump.octets
              (before.sent ok) (on.sent written);
          no_failure = λ written. on.no_failure written ∙ before.no_failure ok;
          rows = λ written. on.rows written ∙ before.rows ok;
          lost = λ failed. lost-then a b c before ok (on.lost failed);
          label_stays = on.label_stays ∙ before.label_stays;
        }
  ]

  pub written-then : (a b c : Writing W) → GoesOn taken failures label a b → IsWrittenFrom taken failures label b c
      → IsWritten taken failures label a c
  written-then a b c before after = elim (cases_Bool b.failed) [
    | inl failed ↦
        let P : Writing W → Type 0 = λ w. IsWritten taken failures label a w in
        let stays : IsWritten taken failures label a b = record {
          sent = λ ok. absurd (both_ways b.failed ok failed);
          no_failure = λ ok. absurd (both_ways b.failed ok failed);
          rows = λ ok. absurd (both_ways b.failed ok failed);
          lost = λ _. before.lost failed;
          label_stays = before.label_stays;
        } in
        subst P (sym (after.not_on failed)) stays
    | inr ok ↦
        let on = after.on ok in
        record {
          sent = λ written. Appends-whole (taken a.out) (taken b.out) (taken c.out) b.dump.octets a.dump.octets (before.sent ok)
              (on.sent written);
          no_failure = λ written. on.no_failure written ∙ before.no_failure ok;
          rows = λ written. on.rows written ∙ before.rows ok;
          lost = λ failed. lost-then a b c before ok (on.lost failed);
          label_stays = on.label_stays ∙ before.label_stays;
        }
  ]
