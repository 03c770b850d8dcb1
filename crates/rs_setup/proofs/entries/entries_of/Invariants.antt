use Rattle.std.proofs.Common.{◌≡◌, length, take}
use Rattle.toml.specs.View.{items_view}
use Rattle.rs_setup.specs.Values.{AreAll}
use Rattle.rs_setup.proofs.entries.entries_of.Given as goal

-- the values so far are the entries so far
abbrev pub invariant-loop-value : goal.invariant-loop-value
invariant-loop-value g l = AreAll g.E.Entry.is (items_view (take l.value-index l.values)) l.entries.items × (length l.entries.items ≡ l.value-index)
