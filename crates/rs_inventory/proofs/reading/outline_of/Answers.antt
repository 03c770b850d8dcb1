use Rattle.std.proofs.Common.{◌∙◌, sym, ap, subst, option_map}
use Rattle.rs_mrt.specs.Record.{record_of}
use Rattle.rs_mrt.specs.RecordReading.{MayCome}
use Rattle.rs_inventory.specs.OutlinedRecords.{IsFileOutline}
use Rattle.rs_inventory.specs.declared.file_outline.Outline.{Outline}
use Rattle.rs_inventory.proofs.OutlineLemmas.{outline-more, outline-start, outline-whole}
use Rattle.rs_inventory.proofs.reading.outline_of.Goals as goal

pub loop-outline-init : goal.loop-outline-init
loop-outline-init g c =
    outline-start c.args.server (MayCome g.R.Read.gives) c.args.source c.none-outline.result c.none-outline.ensures

pub loop-outline-preserved : goal.loop-outline-preserved
loop-outline-preserved g c =
    outline-more c.args.server (MayCome g.R.Read.gives) c.args.source c.loop-outline.source c.next_record.new.source c.loop-outline.outline
    c.take.new.self (record_of c.in-Some.record) c.next_record.new.source.shown c.next_record.new.end
    c.loop-outline.invariant (rw c.if-branch.true at c.in_ok-next_record.ensures.gives)
    (ap (option_map record_of) (sym c.in-Some.is) ∙ c.shown.ensures) c.in_ok-take.ensures

pub returns-clause-outline : goal.returns-clause-outline
returns-clause-outline g c =
    subst (λ (o : Outline). IsFileOutline c.args.server (MayCome g.R.Read.gives) c.args.source o) (sym c.take_end.ensures)
    (outline-whole c.args.server (MayCome g.R.Read.gives) c.args.source c.loop-outline.source c.next_record.new.source
    c.loop-outline.outline c.next_record.new.source.shown c.next_record.new.end c.cut.result
    c.loop-outline.invariant (rw c.if-branch.false at c.in_ok-next_record.ensures.gives)
    (c.in_ok-next_record.ensures.stopped c.if-branch.false) c.cut.ensures)
