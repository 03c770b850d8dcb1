use Rattle.std.proofs.Common.{◌∙◌, sym, ap, subst, option_map}
use Rattle.rs_mrt.specs.Record.{MrtRecord, record_of}
use Rattle.rs_inventory.specs.Inventory.{TakesFinding}
use Rattle.rs_inventory.specs.declared.finding.Finding.{Finding}
use Rattle.rs_inventory.proofs.ReadingLemmas.{behind-shown, going-more}
use Rattle.rs_inventory.proofs.reading.take_records.Goals as goal

pub loop-inventory-preserved : goal.loop-inventory-preserved
loop-inventory-preserved g c =
    let r : MrtRecord = record_of c.in-Some.record in
    record {
      going = going-more c.args.depth g.S.Source.comes c.args.source c.loop-inventory.source c.next_record.new.source
          c.loop-inventory.inventory c.take.new.self r c.loop-inventory.invariant.going
          (behind-shown g.S.Source.comes c.loop-inventory.source c.next_record.new.source r (g.S.Source.shows c.next_record.new.source)
          c.next_record.new.end (rw c.if-branch.true at c.in_ok-next_record.ensures.gives)
          (ap (option_map record_of) (sym c.in-Some.is) ∙ c.shown.ensures))
          (subst (λ (f : Finding). TakesFinding c.loop-inventory.inventory f c.take.new.self) c.in_ok-finding.ensures
          c.in_ok-take.ensures.takes);
      uncompressed = c.in_ok-take.ensures.compression ∙ c.loop-inventory.invariant.uncompressed;
    }
