use Rattle.std.proofs.Common.{◌≡◌, length}
use Rattle.rs_glass.specs.Heard.{AreRecordings}
use Rattle.rs_glass.proofs.recording.recordings.Given as goal

abbrev pub invariant-loop-peer : goal.invariant-loop-peer
invariant-loop-peer g l = record {
  as_many : length l.all.items ≡ length l.yielded;
  each : AreRecordings l.plan l.fn.sources.items l.all.items;
}
