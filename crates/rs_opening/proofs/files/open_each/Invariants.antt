use Rattle.std.proofs.Common.{◌≡◌, ◌≤◌, ◌^◌, All, length}
use Rattle.rs_opening.specs.Opening.{AreReadSo, room_of}
use Rattle.rs_opening.proofs.files.open_each.Given as goal

abbrev pub invariant-loop-peer : goal.invariant-loop-peer
invariant-loop-peer g l = record {
  one_for_each : length l.files.items ≡ l.peer;
  read_so : AreReadSo l.reading l.plan l.files.items;
  room : All (λ file. room_of file ≤ 2 ^ 50) l.files.items;
}
