-- One peer's changes on their way through its ring: for `new`, `send` and `receive` of lane.rt, and LaneStates.
use Rattle.std.proofs.Common.{◌≡◌, ◌∙◌, sym, ap, refl, ℕ, ◌+◌, ◌-◌, ◌<◌, ◌≤◌, zero, suc, arith, Bool, false, List, [], ◌∷◌, ◌++◌, length}
use Rattle.std.proofs.Common.{take, Option, Some, append_assoc, length-append}
use Rattle.std.specs.Prelude.{slice_get, ◌||◌, nat_lt}
use Rattle.std.specs.List.{list_any}
use Rattle.std.proofs.lemmas.Bool.{and_from, and_left, cond-false, cond-true, le-ltb, lt-ltb, or_from, or_parts}
use Rattle.std.proofs.lemmas.List.{length-map, map-append, take-append-le}
use Rattle.std.proofs.Math.Seq.{take-append_seam}
use Rattle.rs_mrt.specs.declared.fault.SourceFault.{SourceFault}
use Rattle.rs_session.specs.Change.{Change, change_of, is_close}
use Rattle.rs_session.specs.FileChanges.{close_at}
use Rattle.rs_session.specs.Laws as laws
use Rattle.rs_change.specs.declared.word.Word.{Word}
use Rattle.rs_floor.specs.Lane.{NoneClosesBefore, sent_changes}
use Rattle.rs_floor.specs.Schedule.{after_send}
use Rattle.rs_floor.specs.declared.counts.Counts.{Counts}
use Rattle.rs_patience.proofs.PlaceLemmas.{get-seam}

-- ---- which changes close

-- where no member passes, none does of a beginning
none-take : {X : Type 0} (p : X → Bool) (n : ℕ) (xs : List X) → list_any p xs ≡ false → list_any p (take n xs) ≡ false
none-take p zero xs none = refl
none-take p (suc n) [] none = refl
none-take p (suc n) (x ∷ xs) none = let parts = or_parts (p x) (list_any p xs) none in
    or_from (p x) (list_any p (take n xs)) parts.0 (none-take p n xs parts.1)

-- a word closes where its change does
pub closes-words : (words : List Word) → list_any (λ word. is_close (change_of word)) words ≡ list_any is_close (sent_changes words)
closes-words [] = refl
closes-words (word ∷ words) = ap (λ (b : Bool). is_close (change_of word) || b) (closes-words words)

-- a session that closes once, as the last change, closes nowhere before
pub none-before : (end : Option SourceFault) (recorded : List Change) → laws.ClosesLast end recorded → NoneClosesBefore recorded
none-before end recorded last =
    rw last.splits (λ n below. rw (take-append-le n last.before (close_at last.time last.reason ∷ [])
    (omega (arith, below, length-append last.before (close_at last.time last.reason ∷ []))))
    (none-take is_close n last.before last.none_before))

-- ---- counts

pub send-none_left : (capacity total : ℕ) (counts : Counts) → total ≤ counts.sent → after_send capacity total counts ≡ counts
send-none_left capacity total counts all =
    cond-false _ _ counts (and_left (nat_lt counts.sent total) (nat_lt (counts.sent - counts.received) capacity)
    (le-ltb counts.sent total all))

pub send-one : (capacity total : ℕ) (counts : Counts) → counts.sent < total → counts.sent - counts.received < capacity
    → after_send capacity total counts ≡ record counts { sent = counts.sent + 1 }
send-one capacity total counts some room =
    cond-true _ _ counts (and_from (nat_lt counts.sent total) (nat_lt (counts.sent - counts.received) capacity)
    (lt-ltb counts.sent total some) (lt-ltb (counts.sent - counts.received) capacity room))

-- ---- a send

-- what is recorded stays the same where the first change to come is sent
pub recorded-sent : (sent : List Word) (word : Word) (before after : List Change) → before ≡ change_of word ∷ after
    → sent_changes (sent ++ word ∷ []) ++ after ≡ sent_changes sent ++ before
recorded-sent sent word before after first =
    rw (map-append change_of sent (word ∷ []), append_assoc (sent_changes sent) (change_of word ∷ []) after, first) refl

-- nothing closed while a change is to come
pub open-sent : (sent : List Word) (to_come : List Change) (first : Change) (later : List Change)
    → NoneClosesBefore (sent_changes sent ++ to_come) → to_come ≡ first ∷ later → list_any (λ word. is_close (change_of word)) sent ≡ false
open-sent sent to_come first later none some =
    let counted : length (sent_changes sent) ≡ length sent = length-map sent change_of in
    let more : length to_come ≡ suc (length later) = ap (λ (cs : List Change). length cs) some in
    closes-words sent ∙ sym (ap (λ (cs : List Change). list_any is_close cs) (take-append_seam (sent_changes sent) to_come))
    ∙ none (length (sent_changes sent)) (omega (arith, more, length-append (sent_changes sent) to_come))

-- ---- a receipt

-- the change at the place of a word that waits
pub recorded-waiting : (sent received : List Word) (word : Word) (later : List Word) (to_come : List Change)
    → received ++ word ∷ later ≡ sent → slice_get (sent_changes sent ++ to_come) (length received) ≡ Some (change_of word)
recorded-waiting sent received word later to_come all =
    let counted : length (sent_changes received) ≡ length received = length-map received change_of in
    let spelled : sent_changes sent ≡ sent_changes received ++ change_of word ∷ sent_changes later =
    sym (ap (λ (ws : List Word). sent_changes ws) all) ∙ map-append change_of received (word ∷ later) in
    rw (spelled, append_assoc (sent_changes received) (change_of word ∷ sent_changes later) to_come, ← counted)
    (get-seam (sent_changes received) (sent_changes later ++ to_come) (change_of word))

-- a beginning of what was sent, with one more
pub beginning-more : (sent received : List Word) (word : Word) (later : List Word) → received ++ word ∷ later ≡ sent
    → take (length (received ++ word ∷ [])) sent ≡ received ++ word ∷ []
beginning-more sent received word later all =
    let regrouped : (received ++ word ∷ []) ++ later ≡ sent = append_assoc received (word ∷ []) later ∙ all in
    rw (← regrouped) (take-append_seam (received ++ word ∷ []) later)
