-- The cells keep room where a session is open, and there the routes are counted.
use Rattle.std.proofs.Common.{◌∙◌, ap, inl, inr, length, subst}
use Rattle.rs_table.specs.TablesView.{AllClosed}
use Rattle.rs_table.specs.Counts.{AreCounts}
use Rattle.rs_table.proofs.tables.Tables.of_cells.Goals as goal

pub invariant_of-result : goal.invariant_of-result
invariant_of-result c = record {
  peers = c.requires.peers;
  cells = c.requires.cells;
  open_or_not = elim c.requires.room [
    | inl closed ↦ inl closed
    | inr room ↦ elim c.in_ok-counts.ensures [
      | inl closed ↦ inl (subst AllClosed c.deref.ensures.value closed)
      | inr counted ↦ inr (record {
        room = room;
        counted = subst (λ n. AreCounts c.args.cells.entries n c.in_ok-counts.counts.items)
            (ap length c.deref.ensures.value ∙ c.requires.peers) counted;
      })
    ]
  ];
}
