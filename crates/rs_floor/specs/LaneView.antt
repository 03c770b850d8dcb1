-- A lane by its fields.
use Rattle.std.specs.Prelude.{◌≡◌, ◌≤◌, ◌^◌, ◌++◌, length, take}
use Rattle.rs_floor.specs.declared.lane.Lane.TheInside.{Inside}
use Rattle.rs_floor.specs.Lane.{LaneContent, to_come, sent_changes, NoneClosesBefore}

abbrev pub lane_view : Inside → LaneContent
lane_view l = record {
  recorded = sent_changes l.sender.sent ++ to_come l.session;
  capacity = l.capacity;
  counts = record { sent = length l.sender.sent; received = length l.receiver.received };
}

-- The two ends belong to one ring, the items received are the first of those sent, and the changes can be numbered.
pub record IsLane (l : Inside) : Type 0 where
  pub pair : l.sender.ring ≡ l.receiver.ring
  pub capacity : l.sender.capacity ≡ l.capacity
  pub beginning : take (length l.receiver.received) l.sender.sent ≡ l.receiver.received
  pub within : length l.receiver.received ≤ length l.sender.sent
  pub counted : l.received ≡ length l.receiver.received
  pub last : NoneClosesBefore (sent_changes l.sender.sent ++ to_come l.session)
  pub fits : length (sent_changes l.sender.sent ++ to_come l.session) ≤ 2 ^ 51
