-- A run of which all is well serves what sessions over the sources may tell: for `serve_within` of serving.rt, by RunLemmas.
use Rattle.std.proofs.Common.{◌≡◌, ◌∙◌, sym, ap, subst, refl, ℕ, ◌<◌, suc, zero, arith, Bool, true, false, List, [], ◌∷◌, All, length, map}
use Rattle.std.proofs.Common.{take, Option, Some}
use Rattle.std.specs.Prelude.{slice_get}
use Rattle.std.proofs.lemmas.List.{length-map, length-take}
use Rattle.std.proofs.lemmas.Option.{slice_get_within}
use Rattle.rs_choice.specs.Plan.{Peer, Plan, id_of}
use Rattle.rs_mrt.specs.Record.{MrtRecord}
use Rattle.rs_ring.specs.Ends.{Receiving}
use Rattle.rs_router.specs.Routing.{received_lists}
use Rattle.rs_session.specs.Change.{Change, change_of, is_read}
use Rattle.rs_session.specs.Given.{AreEach}
use Rattle.rs_session.specs.Stage.{Comes, May, fresh}
use Rattle.rs_session.specs.Told.{MayFailToTellAt, Tells, Told}
use Rattle.rs_types.specs.declared.peer_id.PeerId.{PeerId}
use Rattle.rs_change.specs.declared.word.Word.{Word}
use Rattle.rs_serve.specs.Crew as charges
use Rattle.rs_serve.specs.declared.shard_crew.ShardJob.{ShardJob}
use Rattle.rs_table.specs.Content.{RibContent, TablesContent, rib_left}
use Rattle.rs_update.specs.declared.errors.Errors.{Errors}
use Rattle.rs_worker.specs.Crew.{HasJoined, charge_of}
use Rattle.rs_worker.specs.Worked.{is_memory}
use Rattle.rs_worker.specs.declared.crew.Job.{Job}
use Rattle.rs_worker.specs.declared.crew.Joined.{Joined}
use Rattle.rs_serve.specs.Lines.{AreLines}
use Rattle.rs_serve.specs.Run.{HasRun, IsAnswer, IsFirstRead, IsWell, end_of}
use Rattle.rs_serve.specs.Served.{ServedContent, IsEndOfTold, IsServedOver}
use Rattle.rs_serve.specs.declared.ended.PeerEnd.{PeerEnd}
use Rattle.rs_patience.proofs.PlaceLemmas.{all-at, get-map, same-counted, some-at}
use Rattle.rs_serve.proofs.ListLemmas.{same-places}
use Rattle.rs_serve.proofs.serving.ServedLemmas.{JoinedOver, choose, end-of-told, fails-to-tell, tells-all, told_by}

-- what is known at a place of a run: its peer, its source, what was received, and how its worker ended
pub record IsPlace {S : Type 0} (comes : Comes S) (shows : S → Option MrtRecord) (errors : Errors) (peers : List Peer) (sources : List S)
    (receivers : List (Receiving Word)) (ends : List Joined) (place : ℕ) : Type 0 where
  pub peer : Peer
  pub source : S
  pub receiver : Receiving Word
  pub end : Joined
  pub peer_at : slice_get peers place ≡ Some peer
  pub source_at : slice_get sources place ≡ Some source
  pub receiver_at : slice_get receivers place ≡ Some receiver
  pub end_at : slice_get ends place ≡ Some end
  pub joined : JoinedOver comes shows errors (id_of peer) source receiver.received end

-- what the session at a place tells: what was received there, and its end
pub record IsToldAt {S : Type 0} (comes : Comes S) (shows : S → Option MrtRecord) (errors : Errors) (peers : List Peer) (sources : List S)
    (receivers : List (Receiving Word)) (ends : List Joined) (place : ℕ) (told : Told) : Type 0 where
  pub here : IsPlace comes shows errors peers sources receivers ends place
  pub tells : Tells comes shows errors (id_of here.peer) here.source told
  pub says : map change_of here.receiver.received ≡ told.changes
  pub ended : IsEndOfTold told (end_of here.end)

-- there is such a peer and such a source at a place
pub record IsOneAt {R D : Type 0} (Is : PeerId → R → D → Type 0) (peers : List PeerId) (readers : List R) (place : ℕ)
    (one : D) : Type 0 where
  pub peer : PeerId
  pub reader : R
  pub peer_at : slice_get peers place ≡ Some peer
  pub reader_at : slice_get readers place ≡ Some reader
  pub is : Is peer reader one

-- where there is one at each place, all are so
pub are-each : {R D : Type 0} (Is : PeerId → R → D → Type 0) (peers : List PeerId) (readers : List R) (all : List D)
    → length all ≡ length readers
    → ((place : ℕ) (one : D) → slice_get all place ≡ Some one → IsOneAt Is peers readers place one)
    → AreEach Is peers readers all
are-each {R} {D} Is peers readers all as_many at = record { as_many = as_many; each = each }
  where
    each : (place : ℕ) (peer : PeerId) (reader : R) (one : D) → slice_get peers place ≡ Some peer
        → slice_get readers place ≡ Some reader → slice_get all place ≡ Some one → Is peer reader one
    each place peer reader one peer_at reader_at one_at =
        let here = at place one one_at in
        let both : Some here.peer ≡ Some peer = sym here.peer_at ∙ peer_at in
        let same_peer : here.peer ≡ peer = cc in
        let two : Some here.reader ≡ Some reader = sym here.reader_at ∙ reader_at in
        let same_reader : here.reader ≡ reader = cc in
        subst (λ (r : R). Is peer r one) same_reader (subst (λ (p : PeerId). Is p here.reader one) same_peer here.is)

-- what stands at a place of a list stands there in a beginning that reaches so far
pub take-at : {X : Type 0} (n : ℕ) (xs : List X) (place : ℕ) (x : X) → place < n → slice_get xs place ≡ Some x
    → slice_get (take n xs) place ≡ Some x
take-at zero xs place x below e = absurd (omega (arith, below))
take-at (suc n) [] place x below e = absurd cc
take-at (suc n) (y ∷ ys) zero x below e = e
take-at (suc n) (y ∷ ys) (suc place) x below e = take-at n ys place x (omega (arith, below)) e

-- what a value made of a member is at its place
made-is : {X Y : Type 0} (f : X → Y) (xs : List X) (place : ℕ) (x : X) (y : Y) → slice_get xs place ≡ Some x
    → slice_get (map f xs) place ≡ Some y → f x ≡ y
made-is f xs place x y e made = let both : Some (f x) ≡ Some y = sym (get-map f xs place x e) ∙ made in cc

ribs-same : (receivers : List (Receiving Word))
    → map (λ words. rib_left (map change_of words)) (received_lists receivers)
    ≡ map rib_left (map (λ receiver. map change_of receiver.received) receivers)
ribs-same [] = refl
ribs-same (r ∷ rs) = ap (λ (ribs : List RibContent). rib_left (map change_of r.received) ∷ ribs) (ribs-same rs)

module _ {S : Type 0} (comes : Comes S) (shows : S → Option MrtRecord) (errors : Errors) (peers : List Peer) (sources : List S)
    (receivers : List (Receiving Word)) (ends : List Joined) where
  abbrev Here : ℕ → Type 0
  Here place = IsPlace comes shows errors peers sources receivers ends place

  abbrev ToldAt : ℕ → Told → Type 0
  ToldAt place told = IsToldAt comes shows errors peers sources receivers ends place told

  -- where all is well the session tells its changes
  told-at : (place : ℕ) (here : Here place) → IsWell here.end → (told : Told) × ToldAt place told
  told-at place here fine = (
    told_by comes shows errors (id_of here.peer) here.source here.receiver.received here.end here.joined,
    record {
      here = here;
      tells = tells-all comes shows errors (id_of here.peer) here.source here.receiver.received here.end here.joined fine.1 fine.2;
      says = ap (map change_of) (here.joined.settles fine.0);
      ended = end-of-told comes shows errors (id_of here.peer) here.source here.receiver.received here.end here.joined;
    },
  )

  module _ (all : List Told) (as_many : length all ≡ length peers) (as_sources : length all ≡ length sources)
      (as_received : length receivers ≡ length all)
      (at : (place : ℕ) (told : Told) → slice_get all place ≡ Some told → ToldAt place told) where
    are-told : AreEach (Tells comes shows errors) (map id_of peers) sources all
    are-told = are-each (Tells comes shows errors) (map id_of peers) sources all as_sources (λ place told told_at.
        let found = at place told told_at in let here = found.here in
        record {
          peer = id_of here.peer;
          reader = here.source;
          peer_at = get-map id_of peers place here.peer here.peer_at;
          reader_at = here.source_at;
          is = found.tells;
        })

    told-same : map (λ told. told.changes) all ≡ map (λ receiver. map change_of receiver.received) receivers
    told-same = same-places (map (λ (receiver : Receiving Word). map change_of receiver.received) receivers)
        (map (λ (told : Told). told.changes) all) lengths places
      where
        lengths : length (map (λ (receiver : Receiving Word). map change_of receiver.received) receivers)
            ≡ length (map (λ (told : Told). told.changes) all)
        lengths = length-map receivers (λ (receiver : Receiving Word). map change_of receiver.received) ∙ as_received
            ∙ sym (length-map all (λ (told : Told). told.changes))

        places : (place : ℕ) (changes : List Change) → slice_get
            (map (λ (receiver : Receiving Word). map change_of receiver.received) receivers) place ≡ Some changes
            → slice_get (map (λ (told : Told). told.changes) all) place ≡ Some changes
        places place changes e =
            let within : place < length (map (λ (receiver : Receiving Word). map change_of receiver.received) receivers) =
            slice_get_within (map (λ (receiver : Receiving Word). map change_of receiver.received) receivers) place changes e in
            let total : length (map (λ (receiver : Receiving Word). map change_of receiver.received) receivers) ≡ length receivers =
            length-map receivers (λ (receiver : Receiving Word). map change_of receiver.received) in
            let told = some-at all place (omega (arith, within, total, as_received)) in
            let found = at place told.0 told.1 in
            let here = found.here in
            let made : slice_get (map (λ (receiver : Receiving Word). map change_of receiver.received) receivers) place
            ≡ Some (map change_of here.receiver.received) =
            get-map (λ (receiver : Receiving Word). map change_of receiver.received) receivers place here.receiver here.receiver_at in
            get-map (λ (t : Told). t.changes) all place told.0 told.1 ∙ ap Some (sym found.says) ∙ sym made ∙ e

    ends-same : (served : List PeerEnd) → served ≡ map end_of ends → (place : ℕ) (told : Told) (end : PeerEnd)
        → slice_get all place ≡ Some told → slice_get served place ≡ Some end → IsEndOfTold told end
    ends-same served served_is place told end told_at end_at =
        let found = at place told told_at in
        let here = found.here in
        let made : slice_get (map end_of ends) place ≡ Some (end_of here.end) = get-map end_of ends place here.end here.end_at in
        let both : Some (end_of here.end) ≡ Some end =
        sym made ∙ sym (ap (λ (each : List PeerEnd). slice_get each place) served_is) ∙ end_at in
        let same_end : end_of here.end ≡ end = cc in
        subst (λ (e : PeerEnd). IsEndOfTold told e) same_end found.ended

module _ {S : Type 0} (comes : Comes S) (shows : S → Option MrtRecord) (errors : Errors) (plan : Plan) (sources : List S)
    (jobs : List (Job S)) (lines : List (Receiving Word))
    (shards : List ShardJob) (ends : List Joined) (parts : List TablesContent) (whole : Bool)
    (are : AreLines plan sources jobs lines)
    (run : HasRun comes shows (map (charge_of errors) jobs) (map charges.charge_of shards) ends parts whole) where
  counted : length run.receivers ≡ length jobs
  counted = run.counted ∙ length-map jobs (charge_of errors)

  joined : length ends ≡ length jobs
  joined = run.joined ∙ length-map jobs (charge_of errors)

  as_peers : length jobs ≡ length plan.peers
  as_peers = same-counted (λ (job : Job S). job.id) id_of jobs plan.peers are.peers

  as_sources : length jobs ≡ length sources
  as_sources = sym (length-map jobs (λ (job : Job S). job.source)) ∙ ap length are.sources_are

  -- each place has all of these
  here-at : (place : ℕ) → place < length plan.peers → IsPlace comes shows errors plan.peers sources run.receivers ends place
  here-at place below =
      let peer = some-at plan.peers place below in
      let job = some-at jobs place (omega (arith, as_peers, below)) in
      let receiver = some-at run.receivers place (omega (arith, as_peers, counted, below)) in
      let end = some-at ends place (omega (arith, as_peers, joined, below)) in
      let source_at : slice_get sources place ≡ Some job.0.source =
      sym (ap (λ (ss : List S). slice_get ss place) are.sources_are) ∙ get-map (λ (j : Job S). j.source) jobs place job.0 job.1 in
      let ids : Some job.0.id ≡ Some (id_of peer.0) =
      sym (get-map (λ (j : Job S). j.id) jobs place job.0 job.1)
      ∙ ap (λ (each : List PeerId). slice_get each place) are.peers ∙ get-map id_of plan.peers place peer.0 peer.1 in
      let id : job.0.id ≡ id_of peer.0 = cc in
      let known : HasJoined (May comes shows (fresh job.0.source job.0.id errors)) receiver.0.received end.0 =
      run.known place (charge_of errors job.0) receiver.0 end.0 (get-map (charge_of errors) jobs place job.0 job.1) receiver.1 end.1 in
      record {
        peer = peer.0;
        source = job.0.source;
        receiver = receiver.0;
        end = end.0;
        peer_at = peer.1;
        source_at = source_at;
        receiver_at = receiver.1;
        end_at = end.1;
        joined = rw id at known;
      }

  -- a place of an end is one of a peer
  pub within-peers : (place : ℕ) → place < length ends → place < length plan.peers
  within-peers place below = omega (arith, below, joined, as_peers)

  -- all of it
  pub all-served : (served : ServedContent) → IsAnswer ends parts whole served
      → served.tables ≡ record { plan = plan; ribs = map (λ words. rib_left (map change_of words)) (received_lists run.receivers) }
      → IsServedOver comes shows errors plan sources served
  all-served served answer tables =
      let chosen = choose (length plan.peers) (λ place told. IsToldAt comes shows errors plan.peers sources run.receivers ends place told)
      (λ place below. let here = here-at place below in told-at comes shows errors plan.peers sources run.receivers ends place here
      (all-at IsWell ends answer.well place here.end here.end_at)) in
      let by_sources : length chosen.0 ≡ length sources = chosen.1 ∙ sym as_peers ∙ as_sources in
      let by_received : length run.receivers ≡ length chosen.0 = counted ∙ as_peers ∙ sym chosen.1 in (
        chosen.0,
        are-told comes shows errors plan.peers sources run.receivers ends chosen.0 chosen.1 by_sources by_received chosen.2,
        record {
          tables_are =
              tables ∙ ap (λ (ribs : List RibContent). let t : TablesContent = record { plan = plan; ribs = ribs } in t)
              (ribs-same run.receivers ∙ ap (map rib_left)
              (sym (told-same comes shows errors plan.peers sources run.receivers ends chosen.0 chosen.1 by_sources by_received chosen.2)));
          counted = ap length answer.ends_are ∙ length-map ends end_of ∙ joined ∙ as_peers;
          ends_are = ends-same comes shows errors plan.peers sources run.receivers ends chosen.0 chosen.1 by_sources by_received chosen.2
              served.ends answer.ends_are;
        },
      )

  -- the first peer of which a read failed has a session that may fail, and those of the peers before it may tell their changes
  pub fails-first : (peer : ℕ) → IsFirstRead ends whole peer → MayFailToTellAt comes shows errors (map id_of plan.peers) sources peer
  fails-first peer first =
      let within : peer < length ends =
      omega (
        arith,
        slice_get_within (map (λ (end : Joined). is_read end.reason) ends) peer true first.least.has,
        length-map ends (λ (end : Joined). is_read end.reason),
      ) in
      let here = here-at peer (within-peers peer within) in
      let chosen = choose peer
      (λ place told. IsOneAt (Tells comes shows errors) (take peer (map id_of plan.peers)) (take peer sources) place told) (before within) in
      record {
        peer = id_of here.peer;
        reader = here.source;
        before_it = chosen.0;
        peer_is = get-map id_of plan.peers peer here.peer here.peer_at;
        reader_is = here.source_at;
        fails = fails-to-tell comes shows errors (id_of here.peer) here.source here.receiver.received here.end here.joined
            (made-is (λ (end : Joined). is_read end.reason) ends peer here.end true here.end_at first.least.has);
        before = are-each (Tells comes shows errors) (take peer (map id_of plan.peers)) (take peer sources) chosen.0
            (omega (arith, chosen.1, length-take peer sources, within, joined, as_sources)) chosen.2;
      }
    where
      before : peer < length ends → (place : ℕ) → place < peer → (told : Told)
          × IsOneAt (Tells comes shows errors) (take peer (map id_of plan.peers)) (take peer sources) place told
      before within place below =
          let here = here-at place (within-peers place (omega (arith, below, within))) in
          let reads : is_read here.end.reason ≡ false =
          made-is (λ (end : Joined). is_read end.reason) ends place here.end false here.end_at (first.least.least place below) in
          let remembers : is_memory here.end.reason ≡ false =
          all-at (λ (end : Joined). is_memory end.reason ≡ false) ends first.remember place here.end here.end_at in (
            told_by comes shows errors (id_of here.peer) here.source here.receiver.received here.end here.joined,
            record {
              peer = id_of here.peer;
              reader = here.source;
              peer_at =
                  take-at peer (map id_of plan.peers) place (id_of here.peer) below (get-map id_of plan.peers place here.peer here.peer_at);
              reader_at = take-at peer sources place here.source below here.source_at;
              is = tells-all comes shows errors (id_of here.peer) here.source here.receiver.received here.end here.joined remembers reads;
            },
          )
