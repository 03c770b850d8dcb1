-- Records came so far that may come, whatever may come after them, and the inventory is of these, as of a file that isn't
-- compressed.
use Rattle.std.proofs.Common.{◌≡◌, None}
use Rattle.rs_inventory.specs.Reading.{Going}
use Rattle.rs_inventory.proofs.reading.take_records.Given as goal

abbrev pub invariant-loop-inventory : goal.invariant-loop-inventory
invariant-loop-inventory g l = record {
  going : Going l.initial.depth g.S.Source.comes l.initial.source l.source l.inventory;
  uncompressed : l.inventory.compression ≡ None;
}

abbrev pub decreases-loop-inventory : goal.decreases-loop-inventory
decreases-loop-inventory g l = g.S.Source.room l.source
