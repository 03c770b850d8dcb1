use Rattle.std.specs.Prelude.{◌≡◌, ◌∷◌, length}
use Rattle.std.specs.Vec.Iter.{into_iter_items, into_iter_len}
use Rattle.rs_table.proofs.MergeLemmas.{IsUnderWay}
use Rattle.rs_table.proofs.tables.Tables.merge.Given as goal

-- the parts so far are made one, and the others are still to come
abbrev pub invariant-loop-part : goal.invariant-loop-part
invariant-loop-part l =
    IsUnderWay (l.initial.merged ∷ into_iter_items l.initial.part-iterator) l.merged (into_iter_items l.part-iterator)
    × (into_iter_len l.part-iterator ≡ length (into_iter_items l.part-iterator))
