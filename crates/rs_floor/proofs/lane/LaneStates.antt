-- A lane by its fields, and what each step of it keeps: for `new`, `send` and `receive` of lane.rt.
use Rattle.std.proofs.Common.{◌≡◌, ◌∙◌, sym, ap, refl, subst, ℕ, ◌+◌, ◌-◌, ◌<◌, ◌≤◌, ◌^◌, suc, arith, List, [], ◌∷◌, ◌++◌, length}
use Rattle.std.proofs.Common.{length-append}
use Rattle.std.proofs.lemmas.List.{length-map, take-append-le}
use Rattle.rs_ring.specs.Ends.{Receiving, Sending}
use Rattle.rs_session.specs.Change.{Change, change_of}
use Rattle.rs_session.specs.FileChanges.{changes_in}
use Rattle.rs_types.specs.declared.peer_id.PeerId.{PeerId}
use Rattle.rs_change.specs.declared.word.Word.{Word}
use Rattle.rs_floor.specs.Lane.{LaneContent, NoneClosesBefore, fresh_lane, sent_changes, to_come}
use Rattle.rs_floor.specs.LaneView.{IsLane, lane_view}
use Rattle.rs_floor.specs.Schedule.{after_send}
use Rattle.rs_floor.specs.declared.counts.Counts.{Counts}
use Rattle.rs_floor.specs.declared.lane.Lane.TheInside.{Inside}
use Rattle.rs_floor.proofs.lane.LaneLemmas.{recorded-sent, beginning-more, send-none_left, send-one}

-- the changes that a lane's file says
abbrev pub recorded_of : Inside → List Change
recorded_of lane = sent_changes lane.sender.sent ++ to_come lane.session

-- what the lane is seen as, by its parts
pub view-is : (lane : Inside) (recorded : List Change) (capacity sent received : ℕ) → recorded_of lane ≡ recorded → lane.capacity ≡ capacity
    → length lane.sender.sent ≡ sent → length lane.receiver.received ≡ received
    → let seen : LaneContent = record { recorded = recorded; capacity = capacity; counts = record { sent = sent; received = received } } in
    lane_view lane ≡ seen
view-is lane recorded capacity sent received a b c d =
    λ i. record { recorded = a i; capacity = b i; counts = record { sent = c i; received = d i } }

last-along : (one other : List Change) → one ≡ other → NoneClosesBefore other → NoneClosesBefore one
last-along one other e h = let P : List Change → Type 0 = λ cs. NoneClosesBefore cs in subst P (sym e) h

-- ---- before the first turn

fresh-recorded : (lane : Inside) (recorded : List Change) → lane.sender.sent ≡ [] → to_come lane.session ≡ recorded
    → recorded_of lane ≡ recorded
fresh-recorded lane recorded none e = ap (λ (ws : List Word). sent_changes ws ++ to_come lane.session) none ∙ e

pub fresh-is_lane : (lane : Inside) (recorded : List Change) → lane.sender.ring ≡ lane.receiver.ring → lane.sender.capacity ≡ lane.capacity
    → lane.sender.sent ≡ [] → lane.receiver.received ≡ [] → lane.received ≡ 0 → to_come lane.session ≡ recorded → NoneClosesBefore recorded
    → length recorded ≤ 2 ^ 51
    → IsLane lane
fresh-is_lane lane recorded pair capacity sent received counted e last fits = record {
  pair = pair;
  capacity = capacity;
  beginning = rw received refl;
  within = rw (received, sent) (omega arith);
  counted = rw received counted;
  last = last-along (recorded_of lane) recorded (fresh-recorded lane recorded sent e) last;
  fits = rw (fresh-recorded lane recorded sent e) fits;
}

pub fresh-view : (lane : Inside) (capacity : ℕ) (peer : PeerId) (file : List ℕ) → lane.capacity ≡ capacity → lane.sender.sent ≡ []
    → lane.receiver.received ≡ [] → to_come lane.session ≡ changes_in peer file → lane_view lane ≡ fresh_lane capacity peer file
fresh-view lane capacity peer file same sent received e =
    view-is lane (changes_in peer file) capacity 0 0 (fresh-recorded lane (changes_in peer file) sent e) same
    (ap (λ (ws : List Word). length ws) sent) (ap (λ (ws : List Word). length ws) received)

-- ---- looking at the ring

-- both ends are those of before, whatever they know of each other
pub record LooksLike (old new : Inside) : Type 0 where
  pub ring : new.sender.ring ≡ old.sender.ring
  pub room : new.sender.capacity ≡ old.sender.capacity
  pub capacity : new.capacity ≡ old.capacity
  pub receiving : new.receiver.ring ≡ old.receiver.ring

-- so they are where the threads' ends were looked at beside each other, and one of them used then
pub looks-beside : (old new : Inside) (sender : Sending Word) (receiver : Receiving Word)
    → sender ≡ record old.sender { room = sender.room } → receiver ≡ record old.receiver { waiting = receiver.waiting }
    → (new.sender.ring ≡ sender.ring) × (new.sender.capacity ≡ sender.capacity) → new.receiver.ring ≡ receiver.ring
    → new.capacity ≡ old.capacity → LooksLike old new
looks-beside old new sender receiver of_sender of_receiver sends receives capacity = record {
  ring = sends.0 ∙ ap (λ (s : Sending Word). s.ring) of_sender;
  room = sends.1 ∙ ap (λ (s : Sending Word). s.capacity) of_sender;
  capacity = capacity;
  receiving = receives ∙ ap (λ (r : Receiving Word). r.ring) of_receiver;
}

-- nothing went through either end, and the same is to come
pub looked-is_lane : (old new : Inside) → IsLane old → LooksLike old new → new.sender.sent ≡ old.sender.sent
    → new.receiver.received ≡ old.receiver.received → new.received ≡ old.received → to_come new.session ≡ to_come old.session → IsLane new
looked-is_lane old new lane like sent received counted coming =
    let recorded : recorded_of new ≡ recorded_of old =
    ap (λ (ws : List Word). sent_changes ws ++ to_come new.session) sent
    ∙ ap (λ (cs : List Change). sent_changes old.sender.sent ++ cs) coming in
    record {
      pair = like.ring ∙ lane.pair ∙ sym like.receiving;
      capacity = like.room ∙ lane.capacity ∙ sym like.capacity;
      beginning = rw (received, sent) lane.beginning;
      within = rw (received, sent) lane.within;
      counted = counted ∙ lane.counted ∙ sym (ap (λ (ws : List Word). length ws) received);
      last = last-along (recorded_of new) (recorded_of old) recorded lane.last;
      fits = rw recorded lane.fits;
    }

pub looked-view : (old new : Inside) → LooksLike old new → new.sender.sent ≡ old.sender.sent → new.receiver.received ≡ old.receiver.received
    → to_come new.session ≡ to_come old.session → lane_view new ≡ lane_view old
looked-view old new like sent received coming =
    view-is new (recorded_of old) old.capacity (length old.sender.sent) (length old.receiver.received)
    (ap (λ (ws : List Word). sent_changes ws ++ to_come new.session) sent
    ∙ ap (λ (cs : List Change). sent_changes old.sender.sent ++ cs) coming)
    like.capacity (ap (λ (ws : List Word). length ws) sent) (ap (λ (ws : List Word). length ws) received)

-- ---- a send

abbrev pub with_send : LaneContent → LaneContent
with_send lane = record lane { counts = after_send lane.capacity (length lane.recorded) lane.counts }

-- no change is left
pub unsent-view : (old new : Inside) → LooksLike old new → new.sender.sent ≡ old.sender.sent → new.receiver.received ≡ old.receiver.received
    → to_come new.session ≡ to_come old.session → to_come old.session ≡ []
    → lane_view new ≡ with_send (lane_view old)
unsent-view old new like sent received coming none =
    let all : length (recorded_of old) ≤ length old.sender.sent =
    omega (
      arith,
      length-append (sent_changes old.sender.sent) (to_come old.session),
      length-map old.sender.sent change_of,
      ap (λ (cs : List Change). length cs) none,
    ) in
    let seen : LaneContent = lane_view old in
    looked-view old new like sent received coming ∙ sym (ap
    (λ (counts : Counts). let made : LaneContent = record seen { counts = counts } in made)
    (send-none_left seen.capacity (length seen.recorded) seen.counts all))

-- a change is left, so fewer were sent than are recorded
pub some-left : (sent : List Word) (coming : List Change) (first : Change) (later : List Change) → coming ≡ first ∷ later
    → length sent < length (sent_changes sent ++ coming)
some-left sent coming first later some =
    omega (arith, length-append (sent_changes sent) coming, length-map sent change_of, ap (λ (cs : List Change). length cs) some)

-- the first change to come was sent
pub sent-is_lane : (old new : Inside) (word : Word) → IsLane old → LooksLike old new → new.sender.sent ≡ old.sender.sent ++ word ∷ []
    → new.receiver.received ≡ old.receiver.received → new.received ≡ old.received
    → to_come old.session ≡ change_of word ∷ to_come new.session → IsLane new
sent-is_lane old new word lane like sent received counted coming =
    let recorded : recorded_of new ≡ recorded_of old =
    ap (λ (ws : List Word). sent_changes ws ++ to_come new.session) sent
    ∙ recorded-sent old.sender.sent word (to_come old.session) (to_come new.session) coming in
    record {
      pair = like.ring ∙ lane.pair ∙ sym like.receiving;
      capacity = like.room ∙ lane.capacity ∙ sym like.capacity;
      beginning = rw (received, sent) (take-append-le (length old.receiver.received) old.sender.sent (word ∷ []) lane.within
          ∙ lane.beginning);
      within = rw (received, sent) (omega (arith, lane.within, length-append old.sender.sent (word ∷ [])));
      counted = counted ∙ lane.counted ∙ sym (ap (λ (ws : List Word). length ws) received);
      last = last-along (recorded_of new) (recorded_of old) recorded lane.last;
      fits = rw recorded lane.fits;
    }

pub sent-view : (old new : Inside) (word : Word) → LooksLike old new → new.sender.sent ≡ old.sender.sent ++ word ∷ []
    → new.receiver.received ≡ old.receiver.received → to_come old.session ≡ change_of word ∷ to_come new.session
    → length old.sender.sent - length old.receiver.received < old.capacity → lane_view new ≡ with_send (lane_view old)
sent-view old new word like sent received coming room =
    let recorded : recorded_of new ≡ recorded_of old =
    ap (λ (ws : List Word). sent_changes ws ++ to_come new.session) sent
    ∙ recorded-sent old.sender.sent word (to_come old.session) (to_come new.session) coming in
    let seen : LaneContent = lane_view old in
    let more : length new.sender.sent ≡ length old.sender.sent + 1 =
    ap (λ (ws : List Word). length ws) sent ∙ length-append old.sender.sent (word ∷ []) in
    view-is new (recorded_of old) old.capacity (length old.sender.sent + 1) (length old.receiver.received) recorded like.capacity more
    (ap (λ (ws : List Word). length ws) received)
    ∙ sym (ap (λ (counts : Counts). let made : LaneContent = record seen { counts = counts } in made)
    (send-one seen.capacity (length seen.recorded) seen.counts
    (some-left old.sender.sent (to_come old.session) (change_of word) (to_come new.session) coming) room))

-- ---- a receipt

-- what waits first is received first
pub front : (waiting later : List Word) (word : Word) (rest : List Word) → waiting ++ later ≡ word ∷ rest → 0 < length waiting
    → (behind : List Word) × (waiting ≡ word ∷ behind)
front [] later word rest e some = absurd (omega arith)
front (first ∷ behind) later word rest e some = let found : first ≡ word = cc in (behind, ap (λ (w : Word). w ∷ behind) found)

pub received-is_lane : (old new : Inside) (word : Word) (behind : List Word) → IsLane old → LooksLike old new
    → new.sender.sent ≡ old.sender.sent → old.receiver.received ++ word ∷ behind ≡ old.sender.sent
    → new.receiver.received ≡ old.receiver.received ++ word ∷ []
    → new.received ≡ old.received + 1 → to_come new.session ≡ to_come old.session → IsLane new
received-is_lane old new word behind lane like sent waited received counted coming =
    let recorded : recorded_of new ≡ recorded_of old =
    ap (λ (ws : List Word). sent_changes ws ++ to_come new.session) sent
    ∙ ap (λ (cs : List Change). sent_changes old.sender.sent ++ cs) coming in
    let more : length new.receiver.received ≡ length old.receiver.received + 1 =
    ap (λ (ws : List Word). length ws) received ∙ length-append old.receiver.received (word ∷ []) in
    let whole : length old.sender.sent ≡ length old.receiver.received + suc (length behind) =
    sym (ap (λ (ws : List Word). length ws) waited) ∙ length-append old.receiver.received (word ∷ behind) in
    record {
      pair = like.ring ∙ lane.pair ∙ sym like.receiving;
      capacity = like.room ∙ lane.capacity ∙ sym like.capacity;
      beginning = rw (received, sent) (beginning-more old.sender.sent old.receiver.received word behind waited);
      within = rw sent (omega (arith, more, whole));
      counted = counted ∙ ap (λ (n : ℕ). n + 1) lane.counted ∙ sym more;
      last = last-along (recorded_of new) (recorded_of old) recorded lane.last;
      fits = rw recorded lane.fits;
    }
