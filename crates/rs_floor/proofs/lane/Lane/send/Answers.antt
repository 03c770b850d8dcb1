-- The first change to come is sent, where the ring has room; else everything stays.
use Rattle.std.proofs.Common.{◌≡◌, ◌∙◌, sym, ap, subst, arith, refl, ◌+◌, List, [], ◌∷◌, ◌++◌, length, length-append, rules}
use Rattle.std.proofs.lemmas.Grind.{common_steps}
use Rattle.rs_mrt.specs.Record.{Reading}
use Rattle.rs_ring.specs.Ends.{Sending, Receiving}
use Rattle.rs_session.specs.Change.{change_of}
use Rattle.rs_session.specs.Stage.{Stage}
use Rattle.rs_change.specs.declared.word.Word.{Word}
use Rattle.rs_floor.specs.Lane.{LaneContent, to_come}
use Rattle.rs_floor.specs.LaneView.{lane_view}
use Rattle.rs_floor.specs.declared.lane.Lane.TheInside.{Inside}
use Rattle.rs_floor.proofs.lane.LaneLemmas.{open-sent}
use Rattle.rs_floor.proofs.lane.LaneStates.{looked-is_lane, looks-beside, unsent-view, sent-is_lane, sent-view, some-left, with_send}
use Rattle.rs_floor.proofs.lane.SessionLemmas.{to_come-given, to_come-kept, to_come-none}
use Rattle.rs_floor.proofs.lane.Lane.send.Goals as goal

pub invariant_of-self-in_err-word : goal.invariant_of-self-in_err-word
invariant_of-self-in_err-word c =
    let old : Inside = c.self.inside in
    let new : Inside =
    record {
      session = c.next_word.new.self;
      sender = c.beside.new.sender;
      receiver = c.beside.new.self;
      capacity = old.capacity;
      received = old.received;
    } in
    looked-is_lane old new c.self.invariant
    (looks-beside old new c.beside.new.sender c.beside.new.self c.beside.ensures.sender c.beside.ensures.same (refl, refl) refl refl)
    (ap (λ (s : Sending Word). s.sent) c.beside.ensures.sender) (ap (λ (r : Receiving Word). r.received) c.beside.ensures.same) refl
    (to_come-kept old.session c.next_word.new.self c.in_err-word.ensures.says.0)

pub returns-in_default : goal.returns-in_default
returns-in_default c =
    let old : Inside = c.self.inside in
    let new : Inside =
    record {
      session = c.next_word.new.self;
      sender = c.beside.new.sender;
      receiver = c.beside.new.self;
      capacity = old.capacity;
      received = old.received;
    } in
    let says = rw c.in_default.is at c.in_ok-word.ensures.says in
    let P : LaneContent → Type 0 = λ lane. lane_view new ≡ with_send lane in
    subst P c.self.view_is (unsent-view old new
    (looks-beside old new c.beside.new.sender c.beside.new.self c.beside.ensures.sender c.beside.ensures.same (refl, refl) refl refl)
    (ap (λ (s : Sending Word). s.sent) c.beside.ensures.sender) (ap (λ (r : Receiving Word). r.received) c.beside.ensures.same)
    (ap (λ (stage : Stage Reading). to_come stage) says.1) (to_come-none old.session c.next_word.new.self says))

pub try_send-requires : goal.try_send-requires
try_send-requires c =
    let old : Inside = c.self.inside in
    let says = rw c.in-Some.is at c.in_ok-word.ensures.says in
    let first = to_come-given old.session c.next_word.new.self c.in-Some.word says in
    let sent = ap (λ (s : Sending Word). length s.sent) c.beside.ensures.sender in
    omega (
      arith,
      sent,
      some-left old.sender.sent (to_come old.session) (change_of c.in-Some.word) (to_come c.next_word.new.self) first,
      c.self.invariant.fits,
    )

pub unreachable-requires : goal.unreachable-requires
unreachable-requires c =
    let old : Inside = c.self.inside in
    let says = rw c.in-Some.is at c.in_ok-word.ensures.says in
    let first = to_come-given old.session c.next_word.new.self c.in-Some.word says in
    let open_yet = open-sent old.sender.sent (to_come old.session) (change_of c.in-Some.word) (to_come c.next_word.new.self)
    c.self.invariant.last first in
    let room = ap (λ (s : Sending Word). s.capacity) c.beside.ensures.sender in
    let no = c.in-Err.ensures.succeeds (rw (ap (λ (s : Sending Word). s.sent) c.beside.ensures.sender) open_yet)
    (omega (arith, room, c.self.invariant.capacity, c.beside.ensures.room, c.if-beside-self.false)) in
    cc

pub invariant_of-self-2 : goal.invariant_of-self-2
invariant_of-self-2 c =
    let old : Inside = c.self.inside in
    let new : Inside =
    record {
      session = c.next_word.new.self;
      sender = c.try_send.new.self;
      receiver = c.beside.new.self;
      capacity = old.capacity;
      received = old.received;
    } in
    let says = rw c.in-Some.is at c.in_ok-word.ensures.says in
    let first = to_come-given old.session c.next_word.new.self c.in-Some.word says in
    sent-is_lane old new c.in-Some.word c.self.invariant
    (looks-beside old new c.beside.new.sender c.beside.new.self c.beside.ensures.sender c.beside.ensures.same c.in-Ok.ensures.same refl
    refl)
    (c.in-Ok.ensures.sent ∙ ap (λ (s : Sending Word). s.sent ++ c.in-Some.word ∷ []) c.beside.ensures.sender)
    (ap (λ (r : Receiving Word). r.received) c.beside.ensures.same) refl first

pub returns : goal.returns
returns c =
    let old : Inside = c.self.inside in
    let new : Inside =
    record {
      session = c.next_word.new.self;
      sender = c.try_send.new.self;
      receiver = c.beside.new.self;
      capacity = old.capacity;
      received = old.received;
    } in
    let says = rw c.in-Some.is at c.in_ok-word.ensures.says in
    let first = to_come-given old.session c.next_word.new.self c.in-Some.word says in
    let received = ap (λ (r : Receiving Word). r.received) c.beside.ensures.same in
    let whole : length c.beside.new.self.received + length c.beside.new.self.waiting ≡ length c.beside.new.sender.sent =
    sym (length-append c.beside.new.self.received c.beside.new.self.waiting)
    ∙ ap (λ (ws : List Word). length ws) c.beside.ensures.all in
    let P : LaneContent → Type 0 = λ lane. lane_view new ≡ with_send lane in
    subst P c.self.view_is (sent-view old new c.in-Some.word
    (looks-beside old new c.beside.new.sender c.beside.new.self c.beside.ensures.sender c.beside.ensures.same c.in-Ok.ensures.same refl
    refl)
    (c.in-Ok.ensures.sent ∙ ap (λ (s : Sending Word). s.sent ++ c.in-Some.word ∷ []) c.beside.ensures.sender) received first
    (omega (
      arith,
      whole,
      ap (λ (ws : List Word). length ws) received,
      ap (λ (s : Sending Word). length s.sent) c.beside.ensures.sender,
      c.beside.ensures.waiting,
      c.if-beside-self.false,
    )))

pub invariant_of-self : goal.invariant_of-self
invariant_of-self c = search rules

pub invariant_of-self-in_default : goal.invariant_of-self-in_default
invariant_of-self-in_default c = search rules

pub returns-in_err-word : goal.returns-in_err-word
returns-in_err-word c = search rules

pub returns-then-beside-self : goal.returns-then-beside-self
returns-then-beside-self c = grind (arith, common_steps)
