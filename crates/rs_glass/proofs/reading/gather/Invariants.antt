use Rattle.std.proofs.Common.{◌≡◌, ◌≤◌, ℕ, length}
use Rattle.rs_table.specs.Content.{nothing_held, rib_of}
use Rattle.rs_glass.specs.Heard.{AreHeard}
use Rattle.rs_glass.proofs.reading.gather.Given as goal

abbrev pub invariant-loop-peer : goal.invariant-loop-peer
invariant-loop-peer l = record {
  plan : l.tables.plan ≡ l.plan.value;
  untouched : (number : ℕ) → length l.yielded ≤ number → rib_of l.tables number ≡ nothing_held;
  as_many : length l.said.items ≡ length l.yielded;
  heard : AreHeard l.fn.all.items (length l.yielded) l.tables l.said.items;
}
