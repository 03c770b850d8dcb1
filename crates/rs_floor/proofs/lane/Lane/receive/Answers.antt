-- What waits first is received.
use Rattle.std.proofs.Common.{◌≡◌, ◌∙◌, ◌+◌, sym, ap, subst, arith, refl, List, [], ◌∷◌, ◌++◌, Some, rules}
use Rattle.std.specs.Prelude.{slice_get}
use Rattle.rs_ring.specs.Ends.{Sending, Receiving}
use Rattle.rs_session.specs.Change.{change_of}
use Rattle.rs_change.specs.declared.word.Word.{Word}
use Rattle.rs_floor.specs.Lane.{LaneContent, to_come}
use Rattle.rs_floor.specs.declared.lane.Lane.TheInside.{Inside}
use Rattle.rs_floor.proofs.lane.LaneLemmas.{recorded-waiting}
use Rattle.rs_floor.proofs.lane.LaneStates.{front, looks-beside, received-is_lane}
use Rattle.rs_floor.proofs.lane.Lane.receive.Goals as goal

pub invariant_of-self-2 : goal.invariant_of-self-2
invariant_of-self-2 c =
    let old : Inside = c.self.inside in
    let new : Inside =
    record {
      session = old.session;
      sender = c.beside.new.sender;
      receiver = c.try_receive.new.self;
      capacity = old.capacity;
      received =
          old.received + 1;
    } in
    let item : Word = c.in_ok-item.field-0.item in
    let prefix = c.in_ok-item.ensures.waiting in
    let found = front c.beside.new.self.waiting prefix.0 item c.try_receive.new.self.waiting prefix.1
    (omega (arith, c.beside.ensures.waiting, c.if-beside-eq0.false)) in
    let received = ap (λ (r : Receiving Word). r.received) c.beside.ensures.same in
    let sent = ap (λ (s : Sending Word). s.sent) c.beside.ensures.sender in
    let waited = ap (λ (ws : List Word). ws ++ item ∷ found.0) (sym received)
    ∙ ap (λ (ws : List Word). c.beside.new.self.received ++ ws) (sym found.1) ∙ c.beside.ensures.all ∙ sent in
    received-is_lane old new item found.0 c.self.invariant
    (looks-beside old new c.beside.new.sender c.beside.new.self c.beside.ensures.sender c.beside.ensures.same (refl, refl)
    c.in_ok-item.ensures.same.0 refl)
    sent waited (c.in_ok-item.ensures.received ∙ ap (λ (r : Receiving Word). r.received ++ item ∷ []) c.beside.ensures.same) refl refl

pub returns-clause-given : goal.returns-clause-given
returns-clause-given c =
    let old : Inside = c.self.inside in
    let item : Word = c.in_ok-item.field-0.item in
    let prefix = c.in_ok-item.ensures.waiting in
    let found = front c.beside.new.self.waiting prefix.0 item c.try_receive.new.self.waiting prefix.1
    (omega (arith, c.beside.ensures.waiting, c.if-beside-eq0.false)) in
    let received = ap (λ (r : Receiving Word). r.received) c.beside.ensures.same in
    let sent = ap (λ (s : Sending Word). s.sent) c.beside.ensures.sender in
    let waited = ap (λ (ws : List Word). ws ++ item ∷ found.0) (sym received)
    ∙ ap (λ (ws : List Word). c.beside.new.self.received ++ ws) (sym found.1) ∙ c.beside.ensures.all ∙ sent in
    let P : LaneContent → Type 0 = λ lane. slice_get lane.recorded lane.counts.received ≡ Some (change_of item) in
    subst P c.self.view_is (recorded-waiting old.sender.sent old.receiver.received item found.0 (to_come old.session) waited)

pub invariant_of-self : goal.invariant_of-self
invariant_of-self c = search rules

pub invariant_of-self-in_err-item : goal.invariant_of-self-in_err-item
invariant_of-self-in_err-item c = search rules
