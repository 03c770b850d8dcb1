-- Recordings and what was heard of them, one peer after another.
use Rattle.std.proofs.Common.{◌≡◌, ◌≢◌, ℕ, ◌<◌, ◌+◌, List, [], ◌∷◌, ◌++◌, Option, Some, length, sym, ap, subst, ◌∙◌, arith, inl, inr}
use Rattle.std.specs.Prelude.{IfOk, IfErr, Result, Ok, Err, slice_get}
use Rattle.std.proofs.lemmas.Option.{slice_get_within}
use Rattle.rs_mrt.proofs.PushedLemmas.{at-pushed}
use Rattle.rs_mrt.specs.Record.{MrtRecord}
use Rattle.rs_session.specs.Stage.{Comes}
use Rattle.rs_types.specs.declared.peer_id.PeerId.{PeerId}
use Rattle.rs_choice.specs.Plan.{Plan, id_of}
use Rattle.rs_table.specs.Content.{RibContent, TablesContent, rib_of}
use Rattle.rs_glass.specs.Heard.{AreHeard, AreRecordings, IsFaultHeard, IsHeard, IsRecording}
use Rattle.rs_table.specs.Left.{Routes}
use Rattle.rs_glass.specs.Recorded.{AreSaidOf, IsFaultAmong, IsFaultOf, IsSaidOf}
use Rattle.rs_glass.specs.declared.fault.GlassFault.{GlassFault}
use Rattle.rs_glass.specs.declared.fault.GlassFault.TheVariants.{Memory, Read}
use Rattle.rs_glass.specs.declared.hearing.Heard.{Heard}
use Rattle.rs_glass.specs.declared.recording.Recording.{Recording}
use Rattle.rs_glass.specs.declared.question.Question.{Question}
use Rattle.rs_glass.specs.declared.said.Said.{Said}
use Rattle.rs_glass.proofs.ListLemmas.{fault-among}

module _ {S : Type 0} (plan : Plan) (sources : List S) where
  pub recorded-none : AreRecordings plan sources []
  recorded-none number one at = absurd cc

  -- one recording more
  pub recorded-more : (all : List (Recording S)) (one : Recording S) (count : ℕ) → AreRecordings plan sources all → length all ≡ count
      → IsRecording plan sources count one → AreRecordings plan sources (all ++ one ∷ [])
  recorded-more all one count so_far as_many is number other at =
      elim (at-pushed all one other number at) [
        | inl earlier ↦ so_far number other earlier
        | inr last ↦ subst (IsRecording plan sources number) last.1
            (subst (λ (n : ℕ). IsRecording plan sources n one) (sym as_many ∙ sym last.0) is)
      ]

module _ (all : List (Result Heard GlassFault)) where
  pub heard-none : (tables : TablesContent) (said : List Said) → AreHeard all 0 tables said
  heard-none tables said number below = absurd (omega (arith, below))

  -- what was read of one more peer is in the tables
  pub heard-more : (count : ℕ) (before later : TablesContent) (said : List Said) (heard : Heard) → AreHeard all count before said
      → length said ≡ count → slice_get all count ≡ Some (Ok heard) → (rib_of later count).routes ≡ heard.routes
      → ((other : ℕ) → other ≢ count → rib_of later other ≡ rib_of before other) → AreHeard all (count + 1) later (said ++ heard.said ∷ [])
  heard-more count before later said heard so_far as_many at_heard routes others number below one at =
      elim (at-pushed said heard.said one number at) [
        | inl earlier ↦
            let under : number < count = omega (arith, slice_get_within said number one earlier, as_many) in
            let apart : number ≢ count = λ same. omega (arith, under, same) in
            let is : IsHeard all number before one = so_far number under one earlier in
            record {
              heard = is.heard;
              heard_is = is.heard_is;
              routes = ap (λ (rib : RibContent). rib.routes) (others number apart)
                  ∙ is.routes;
              said_is = is.said_is;
            }
        | inr last ↦
            let place : count ≡ number = sym (last.0 ∙ as_many) in
            record {
              heard = heard;
              heard_is = ap (slice_get all) (sym place)
                  ∙ at_heard;
              routes = ap (λ (n : ℕ). (rib_of later n).routes) (sym place) ∙ routes;
              said_is = last.1;
            }
      ]

  -- a fault at one peer
  pub fault-heard : (number : ℕ) (fault : GlassFault) → slice_get all number ≡ Some (Err fault) → IsFaultHeard all fault
  fault-heard number Memory at = tt
  fault-heard number (Read faulty) at = (number, at)

module _ {S : Type 0} (comes : Comes S) (shows : S → Option MrtRecord) (question : Question) (plan : Plan) (sources : List S) where
  -- a fault of the source of a recording is one among all
  pub fault-recorded : (number : ℕ) (one : Recording S) → IsRecording plan sources number one → (fault : GlassFault)
      → IsFaultOf comes shows question one.id one.source one.peer fault → IsFaultAmong comes shows question plan sources fault
  fault-recorded number one is fault met =
      let by_id : IsFaultOf comes shows question (id_of is.peer) one.source one.peer fault =
      subst (λ (id : PeerId). IsFaultOf comes shows question id one.source one.peer fault) is.id_is met in
      let by_place : IsFaultOf comes shows question (id_of is.peer) one.source number fault =
      subst (λ (n : ℕ). IsFaultOf comes shows question (id_of is.peer) one.source n fault) is.number_is by_id in
      fault-among comes shows question plan sources number is.peer one.source is.peer_is is.source_is fault by_place

-- what was heard of a recording: what its session says, or a fault of its source
abbrev pub HeardOf : {S : Type 0} → Comes S → (S → Option MrtRecord) → Question → Recording S → Result Heard GlassFault → Type 0
HeardOf comes shows question one (Ok heard) = IsSaidOf comes shows question one.id one.source heard.routes heard.said
HeardOf comes shows question one (Err fault) = IsFaultOf comes shows question one.id one.source one.peer fault

pub heard-of : {S : Type 0} (comes : Comes S) (shows : S → Option MrtRecord) (question : Question) (one : Recording S) (r : Result Heard GlassFault)
    → IfOk r (λ heard. IsSaidOf comes shows question one.id one.source heard.routes heard.said)
    → IfErr r (IsFaultOf comes shows question one.id one.source one.peer) → HeardOf comes shows question one r
heard-of comes shows question one (Ok heard) says fault = says
heard-of comes shows question one (Err met) says fault = fault

module _ {S : Type 0} (comes : Comes S) (shows : S → Option MrtRecord) (question : Question) (plan : Plan) (sources : List S)
    (jobs : List (Recording S)) (all : List (Result Heard GlassFault)) where
  -- each of these was heard of the recording at its place
  abbrev pub AreHeardOf : Type 0
  AreHeardOf = (number : ℕ) (r : Result Heard GlassFault) → slice_get all number ≡ Some r → (one : Recording S)
      × (slice_get jobs number ≡ Some one) × HeardOf comes shows question one r

  module _ (recorded : AreRecordings plan sources jobs) (heard_of : AreHeardOf) where
    -- the answers and routes of all peers are those of their recorded sessions
    pub all-said : (tables : TablesContent) (said : List Said) → length all ≡ length sources → AreHeard all (length all) tables said
        → AreSaidOf comes shows question plan sources (length sources) tables said
    all-said tables said as_many held number below peer at_peer source at_source one at_one =
        let is : IsHeard all number tables one = held number (omega (arith, below, as_many)) one at_one in
        let by_recording = heard_of number (Ok is.heard) is.heard_is in
        let recording : Recording S = by_recording.0 in
        let recorded_as : IsRecording plan sources number recording = recorded number recording by_recording.1 in
        let same_peer : recorded_as.peer ≡ peer = let e : Some recorded_as.peer ≡ Some peer = sym recorded_as.peer_is ∙ at_peer in cc in
        let same_source : recording.source ≡ source = let e : Some recording.source ≡ Some source = sym recorded_as.source_is ∙ at_source in
        cc in
        let same_id : recording.id ≡ id_of peer = recorded_as.id_is ∙ ap id_of same_peer in
        let by_id : IsSaidOf comes shows question (id_of peer) recording.source is.heard.routes is.heard.said =
        subst (λ (id : PeerId). IsSaidOf comes shows question id recording.source is.heard.routes is.heard.said) same_id by_recording.2 in
        let by_source : IsSaidOf comes shows question (id_of peer) source is.heard.routes is.heard.said =
        subst (λ (r : S). IsSaidOf comes shows question (id_of peer) r is.heard.routes is.heard.said) same_source by_id in
        let by_routes : IsSaidOf comes shows question (id_of peer) source (rib_of tables number).routes is.heard.said =
        subst (λ (routes : Routes). IsSaidOf comes shows question (id_of peer) source routes is.heard.said) (sym is.routes) by_source in
        subst (IsSaidOf comes shows question (id_of peer) source (rib_of tables number).routes) is.said_is by_routes

    -- and a fault that was met is one of a source
    pub fault-met : (fault : GlassFault) → IsFaultHeard all fault → IsFaultAmong comes shows question plan sources fault
    fault-met Memory met = tt
    fault-met (Read faulty) met =
        let by_recording = heard_of met.0 (Err (Read faulty)) met.1 in
        fault-recorded comes shows question plan sources met.0 by_recording.0 (recorded met.0 by_recording.0 by_recording.1) (Read faulty)
        by_recording.2
