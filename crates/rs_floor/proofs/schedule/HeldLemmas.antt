-- What tables hold beside the lanes: for `receive` of steps.rt.
use Rattle.std.proofs.Common.{◌≡◌, ◌≢◌, ◌∙◌, sym, ap, ℕ, ◌+◌, inl, inr, false, List, [], ◌∷◌, ◌++◌, take, Some, Result, Ok, Err}
use Rattle.std.specs.Prelude.{slice_get, slice_set, OnOk}
use Rattle.std.specs.List.{list_any}
use Rattle.std.proofs.lemmas.Bool.Decides.{eqb_tells}
use Rattle.std.proofs.lemmas.Option.{slice_get_within}
use Rattle.rs_session.specs.Change.{Change, is_close}
use Rattle.rs_table.specs.Content.{TablesContent, rib_of, rib_left}
use Rattle.rs_table.specs.Left.{BecomeBy}
use Rattle.rs_table.proofs.RibLemmas.{rib_left-more}
use Rattle.rs_floor.specs.Lane.{LaneContent, received_of}
use Rattle.rs_floor.specs.Schedule.{after_receive}
use Rattle.rs_patience.proofs.PlaceLemmas.{get-set_same, get-set_other, take-more}
use Rattle.rs_floor.specs.Steps.{HoldReceived}

-- what holds anyway holds where the answer is Ok
pub ok-anyway : {A E : Type 0} (result : Result A E) (Q : Type 0) → Q → OnOk result Q
ok-anyway (Ok value) Q q = q
ok-anyway (Err fault) Q q = tt

-- what follows from two facts of a success holds of it
pub ok-both : {A E : Type 0} (result : Result A E) (P Q R : Type 0) → OnOk result P → OnOk result Q → (P → Q → R) → OnOk result R
ok-both (Ok value) P Q R p q h = h p q
ok-both (Err fault) P Q R p q h = tt

-- a change was received from one lane, and the tables took it
pub held-after : (lanes : List LaneContent) (before after : TablesContent) (at : ℕ) (lane new : LaneContent) (change : Change)
    → HoldReceived before lanes → slice_get lanes at ≡ Some lane
    → new ≡ record lane { counts = after_receive lane.counts } → new.counts.received ≡ lane.counts.received + 1
    → slice_get lane.recorded lane.counts.received ≡ Some change → list_any is_close (received_of lane) ≡ false
    → ((other : ℕ) → other ≢ at → rib_of after other ≡ rib_of before other)
    → BecomeBy (rib_of before at).routes change (rib_of after at).routes → (rib_of after at).closed ≡ is_close change
    → HoldReceived after (slice_set lanes at new)
held-after lanes before after at lane new change held found new_is one_more given unclosed others become closed other one e =
    elim (eqb_tells other at) [
      | inl told ↦ here told.1
      | inr told ↦ others other told.1
          ∙ held other one (sym (get-set_other lanes at new other told.1) ∙ e)
    ]
  where
    recorded_same : new.recorded ≡ lane.recorded
    recorded_same = ap (λ (l : LaneContent). l.recorded) new_is

    more : received_of new ≡ received_of lane ++ change ∷ []
    more = ap (λ (n : ℕ). take n new.recorded) one_more ∙ ap (λ (cs : List Change). take (lane.counts.received + 1) cs) recorded_same
        ∙ take-more lane.recorded lane.counts.received change given

    rib : rib_of after at ≡ rib_left (received_of new)
    rib = rib_left-more (received_of lane) change (rib_of before at) (rib_of after at) (held at lane found) unclosed become closed
        ∙ ap rib_left (sym more)

    here : other ≡ at → rib_of after other ≡ rib_left (received_of one)
    here same =
        let set : slice_get (slice_set lanes at new) at ≡ Some new = get-set_same lanes at new (slice_get_within lanes at lane found) in
        let there : slice_get (slice_set lanes at new) at ≡ Some one =
        ap (λ (n : ℕ). slice_get (slice_set lanes at new) n) (sym same) ∙ e in
        let one_is : new ≡ one = cc in
        ap (λ (n : ℕ). rib_of after n) same ∙ rib ∙ ap (λ (l : LaneContent). rib_left (received_of l)) one_is
