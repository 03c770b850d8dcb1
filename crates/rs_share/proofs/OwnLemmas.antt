-- What a session says over the records that are for its peer: for laws.rt.
use Rattle.std.proofs.Common.{◌≡◌, ℕ, true, false, Bool, List, [], ◌∷◌, ◌++◌, Option, Result, Ok, Err, refl, subst, sym, ap, ◌∙◌, inl, inr, cond, not, ◌&&◌, ◌==◌, ◌+◌}
use Rattle.std.proofs.lemmas.Bool.{cases_Bool, cond-true, cond-false}
use Rattle.rs_mrt.specs.Entry.{Meaning, Message, State, Other, entry_of}
use Rattle.rs_mrt.specs.Record.{MrtRecord}
use Rattle.rs_mrt.specs.declared.fault.MrtFault.{MrtFault}
use Rattle.rs_mrt.specs.declared.fault.SourceFault.{SourceFault}
use Rattle.rs_mrt.specs.Entry.{established}
use Rattle.rs_session.specs.Effect.{RecordEffect, PassesOver, Gives, Ends, effect_of, effect_of_entry, effect_of_state, effect_of_message}
use Rattle.rs_session.specs.Effect.{loss}
use Rattle.rs_update.specs.Message.{MessageContent, IsOpen, IsUpdate, IsTreated, IsNotification, IsKeepAlive, IsRefresh}
use Rattle.rs_update.specs.Treating.{message_by}
use Rattle.rs_update.specs.declared.fault.MessageFault.{MessageFault}
use Rattle.rs_session.specs.FileChanges.{changes_of, passed_of}
use Rattle.rs_session.proofs.FileChangesLemmas.{changes_of-passes, changes_of-gives, changes_of-ends}
use Rattle.rs_session.proofs.FileChangesLemmas.{passed_of-nil, passed_of-passes, passed_of-gives, passed_of-ends}
use Rattle.rs_types.specs.Peer.{is_of}
use Rattle.rs_types.specs.declared.peer_id.PeerId.{PeerId}
use Rattle.rs_update.specs.declared.errors.Errors.{Errors}
use Rattle.rs_share.specs.Laws.{HearsTheSame}
use Rattle.rs_share.specs.Own.{heard, is_entry_for, is_for, own, silence}

-- ---- one record

-- a record that is for the peer is never passed over, and another one always is
abbrev Decides : Bool → RecordEffect → Type 0
Decides true PassesOver = ⊥
Decides true (Gives changes) = Unit {0}
Decides true (Ends reason) = Unit {0}
Decides false effect = effect ≡ PassesOver

-- a record that is for the peer says something
abbrev Speaks : RecordEffect → Type 0
Speaks PassesOver = ⊥
Speaks (Gives changes) = Unit {0}
Speaks (Ends reason) = Unit {0}

speaks-message : (time : ℕ) (content : Result MessageContent MessageFault) → Speaks (effect_of_message time content)
speaks-message time (Ok IsOpen) = tt
speaks-message time (Ok (IsUpdate update)) = tt
speaks-message time (Ok (IsTreated treated)) = tt
speaks-message time (Ok IsNotification) = tt
speaks-message time (Ok IsKeepAlive) = tt
speaks-message time (Ok IsRefresh) = tt
speaks-message time (Err fault) = tt

speaks-either : (b : Bool) (one other : RecordEffect) → Speaks one → Speaks other → Speaks (cond b one other)
speaks-either true one other h k = h
speaks-either false one other h k = k

decides-by : (b : Bool) (effect : RecordEffect) → Speaks effect → Decides b (cond b effect PassesOver)
decides-by true PassesOver speaks = speaks
decides-by true (Gives changes) speaks = tt
decides-by true (Ends reason) speaks = tt
decides-by false effect speaks = refl

decides-entry : (errors : Errors) (peer : PeerId) (time : ℕ) (entry : Result Meaning MrtFault)
    → Decides (is_entry_for peer entry) (effect_of_entry errors peer time entry)
decides-entry errors peer time (Ok (Message asn address octets)) =
    decides-by (is_of peer asn address) (effect_of_message time (message_by errors octets))
    (speaks-message time (message_by errors octets))
decides-entry errors peer time (Ok (State asn address old new)) =
    decides-by (is_of peer asn address) (effect_of_state time old new)
    (speaks-either ((old == established) && not (new == established)) (loss time) (Gives []) tt tt)
decides-entry errors peer time (Ok Other) = refl
decides-entry errors peer time (Err fault) = tt

decides : (errors : Errors) (peer : PeerId) (r : MrtRecord) → Decides (is_for peer r) (effect_of errors peer r)
unfolding effect_of
decides errors peer r = decides-entry errors peer r.time (entry_of r)

passed-over : (errors : Errors) (peer : PeerId) (r : MrtRecord) → is_for peer r ≡ false → effect_of errors peer r ≡ PassesOver
passed-over errors peer r other = subst (λ (b : Bool). Decides b (effect_of errors peer r)) other (decides errors peer r)

silence-passes : (errors : Errors) (peer : PeerId) → effect_of errors peer silence ≡ PassesOver
unfolding effect_of entry_of
silence-passes errors peer = refl

-- ---- one record in front

module _ (errors : Errors) (peer : PeerId) where
  changes-by : (effect : RecordEffect) (r : MrtRecord) (xs ys : List MrtRecord) (end : Option SourceFault)
      → effect_of errors peer r ≡ effect → changes_of errors peer xs end ≡ changes_of errors peer ys end
      → changes_of errors peer (r ∷ xs) end ≡ changes_of errors peer (r ∷ ys) end
  changes-by PassesOver r xs ys end is same =
      changes_of-passes errors peer r xs end is ∙ same ∙ sym (changes_of-passes errors peer r ys end is)
  changes-by (Gives changes) r xs ys end is same =
      changes_of-gives errors peer r changes xs end is ∙ ap (λ cs. changes ++ cs) same
      ∙ sym (changes_of-gives errors peer r changes ys end is)
  changes-by (Ends reason) r xs ys end is same =
      changes_of-ends errors peer r reason xs end is ∙ sym (changes_of-ends errors peer r reason ys end is)

  passed-by : (effect : RecordEffect) (r : MrtRecord) (xs ys : List MrtRecord) → effect_of errors peer r ≡ effect
      → passed_of errors peer xs ≡ passed_of errors peer ys → passed_of errors peer (r ∷ xs) ≡ passed_of errors peer (r ∷ ys)
  passed-by PassesOver r xs ys is same =
      passed_of-passes errors peer r xs is ∙ ap (λ n. 1 + n) same ∙ sym (passed_of-passes errors peer r ys is)
  passed-by (Gives changes) r xs ys is same =
      passed_of-gives errors peer r changes xs is ∙ same ∙ sym (passed_of-gives errors peer r changes ys is)
  passed-by (Ends reason) r xs ys is same =
      passed_of-ends errors peer r reason xs is ∙ sym (passed_of-ends errors peer r reason ys is)

  none-by : (effect : RecordEffect) (r : MrtRecord) (xs : List MrtRecord) → effect_of errors peer r ≡ effect → Speaks effect
      → passed_of errors peer xs ≡ 0 → passed_of errors peer (r ∷ xs) ≡ 0
  none-by PassesOver r xs is speaks none = absurd speaks
  none-by (Gives changes) r xs is speaks none = passed_of-gives errors peer r changes xs is ∙ none
  none-by (Ends reason) r xs is speaks none = passed_of-ends errors peer r reason xs is

  speaks-own : (effect : RecordEffect) → Decides true effect → Speaks effect
  speaks-own PassesOver decided = decided
  speaks-own (Gives changes) decided = tt
  speaks-own (Ends reason) decided = tt

  -- ---- the records for the peer

  pub own-says : (records : List MrtRecord) (end : Option SourceFault)
      → changes_of errors peer (own peer records) end ≡ changes_of errors peer records end
  own-says [] end = refl
  own-says (r ∷ later) end =
      elim (cases_Bool (is_for peer r)) [
        | inl is ↦
            (ap (λ rs. changes_of errors peer rs end) (cond-true (is_for peer r) (r ∷ own peer later) (own peer later) is)
            ∙ changes-by (effect_of errors peer r) r (own peer later) later end refl (own-says later end))
        | inr other ↦
            (ap (λ rs. changes_of errors peer rs end) (cond-false (is_for peer r) (r ∷ own peer later) (own peer later) other)
            ∙ own-says later end ∙ sym (changes_of-passes errors peer r later end (passed-over errors peer r other)))
      ]

  pub none-passed : (records : List MrtRecord) → passed_of errors peer (own peer records) ≡ 0
  none-passed [] = passed_of-nil errors peer
  none-passed (r ∷ later) =
      elim (cases_Bool (is_for peer r)) [
        | inl is ↦
            (ap (λ rs. passed_of errors peer rs) (cond-true (is_for peer r) (r ∷ own peer later) (own peer later) is)
            ∙ none-by (effect_of errors peer r) r (own peer later) refl
            (speaks-own (effect_of errors peer r) (subst (λ (b : Bool). Decides b (effect_of errors peer r)) is (decides errors peer r)))
            (none-passed later))
        | inr other ↦
            (ap (λ rs. passed_of errors peer rs) (cond-false (is_for peer r) (r ∷ own peer later) (own peer later) other)
            ∙ none-passed later)
      ]

  -- ---- what the peer hears

  pub heard-changes : (records : List MrtRecord) (end : Option SourceFault)
      → changes_of errors peer (heard peer records) end ≡ changes_of errors peer records end
  heard-changes [] end = refl
  heard-changes (r ∷ later) end =
      elim (cases_Bool (is_for peer r)) [
        | inl is ↦
            (ap (λ x. changes_of errors peer (x ∷ heard peer later) end) (cond-true (is_for peer r) r silence is)
            ∙ changes-by (effect_of errors peer r) r (heard peer later) later end refl (heard-changes later end))
        | inr other ↦
            (ap (λ x. changes_of errors peer (x ∷ heard peer later) end) (cond-false (is_for peer r) r silence other)
            ∙ changes_of-passes errors peer silence (heard peer later) end (silence-passes errors peer)
            ∙ heard-changes later end ∙ sym (changes_of-passes errors peer r later end (passed-over errors peer r other)))
      ]

  pub heard-passed : (records : List MrtRecord) → passed_of errors peer (heard peer records) ≡ passed_of errors peer records
  heard-passed [] = refl
  heard-passed (r ∷ later) =
      elim (cases_Bool (is_for peer r)) [
        | inl is ↦
            (ap (λ x. passed_of errors peer (x ∷ heard peer later)) (cond-true (is_for peer r) r silence is)
            ∙ passed-by (effect_of errors peer r) r (heard peer later) later refl (heard-passed later))
        | inr other ↦
            (ap (λ x. passed_of errors peer (x ∷ heard peer later)) (cond-false (is_for peer r) r silence other)
            ∙ passed_of-passes errors peer silence (heard peer later) (silence-passes errors peer)
            ∙ ap (λ n. 1 + n) (heard-passed later)
            ∙ sym (passed_of-passes errors peer r later (passed-over errors peer r other)))
      ]

  pub hears-the-same : (records : List MrtRecord) (end : Option SourceFault) → HearsTheSame errors peer records end
  hears-the-same records end = record { changes = heard-changes records end; passed = heard-passed records }
