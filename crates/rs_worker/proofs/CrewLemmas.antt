-- Joining one worker after another.
use Rattle.std.proofs.Common.{◌≡◌, ◌∙◌, sym, ℕ, arith, List, [], ◌∷◌, ◌++◌, length, length-append, length-set, Option, Some}
use Rattle.std.specs.Prelude.{slice_get, slice_set}
use Rattle.std.proofs.lemmas.Option.{slice_get_within}
use borrow.Author.Count.{below_more}
use Rattle.rs_mrt.specs.Record.{MrtRecord}
use Rattle.rs_ring.specs.Ends.{Receiving}
use Rattle.rs_session.specs.Stage.{Comes}
use Rattle.rs_change.specs.declared.word.Word.{Word}
use Rattle.rs_worker.specs.Crew.{Charge, given_by, HasJoined, AllJoined}
use Rattle.rs_worker.specs.declared.crew.Joined.{Joined}
use Rattle.rs_patience.proofs.PlaceLemmas.{get-front, get-seam, get-set_other, get-set_same}

-- one worker more was joined
pub joined-next : {S : Type 0} (comes : Comes S) (shows : S → Option MrtRecord) (charges : List (Charge S)) (from : List (Receiving Word))
    (ends : List Joined) (charge : Charge S) (new : Receiving Word) (end : Joined)
    → AllJoined comes shows charges from ends → slice_get charges (length ends) ≡ Some charge
    → HasJoined (given_by comes shows charge) new.received end
    → AllJoined comes shows charges (slice_set from (length ends) new) (ends ++ end ∷ [])
joined-next {S} comes shows charges from ends charge new end joined here told peer c r e at_charge at_receiver at_end =
    let now : List (Receiving Word) = slice_set from (length ends) new in
    let P : ℕ → Type 0 =
    λ n. (c : Charge S) (r : Receiving Word) (e : Joined) → slice_get charges n ≡ Some c → slice_get now n ≡ Some r
    → slice_get (ends ++ end ∷ []) n ≡ Some e → HasJoined (given_by comes shows c) r.received e in
    below_more P (length ends)
    (λ n below c r e f g h. joined n c r e f (sym (get-set_other from (length ends) new n (λ same. omega (arith, below, same))) ∙ g)
    (sym (get-front ends (end ∷ []) n below) ∙ h))
    (λ c r e f g h.
    let set = get-set_same from (length ends) new (omega (arith, slice_get_within now (length ends) r g, length-set from (length ends) new))
    in
    let seam = get-seam ends [] end in
    let charge_is : charge ≡ c = cc in
    let new_is : new ≡ r = cc in
    let end_is : end ≡ e = cc in
    rw (← charge_is, ← new_is, ← end_is) told)
    peer (omega (arith, slice_get_within (ends ++ end ∷ []) peer e at_end, length-append ends (end ∷ [])))
    c r e at_charge at_receiver at_end
