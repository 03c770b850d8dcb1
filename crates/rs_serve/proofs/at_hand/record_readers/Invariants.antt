-- The records of the readers that were taken stand before those of the rest.
use Rattle.std.proofs.Common.{◌≡◌, ◌<◌, ◌-◌, ◌^◌, ◌++◌, All, length, map}
use Rattle.std.specs.Vec.Iter.{into_iter_items, into_iter_len}
use Rattle.rs_mrt.specs.RecordReading.{unread}
use Rattle.rs_serve.proofs.at_hand.record_readers.Given as goal

abbrev pub invariant-loop-reader : goal.invariant-loop-reader
invariant-loop-reader g l = record {
  made : l.sources.items ++ map unread (into_iter_items l.reader-iterator) ≡ map unread (into_iter_items l.initial.reader-iterator);
  failures : All (λ reader. g.R.Read.failures reader < 2 ^ 64 - 1) (into_iter_items l.reader-iterator);
  left : into_iter_len l.reader-iterator ≡ length (into_iter_items l.reader-iterator);
}
