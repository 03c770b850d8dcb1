-- What comes of the source is what the law says of the file within its bounds, with the losses that count.
use Rattle.std.proofs.Common.{◌≡◌, ◌∙◌, ap, subst, List, Option, map}
use Rattle.rs_mrt.specs.Bounds.{end_within, records_until}
use Rattle.rs_mrt.specs.Entry.{front_of}
use Rattle.rs_mrt.specs.Leniency.{ComesBy, Leniency, unread_within}
use Rattle.rs_mrt.specs.MemoryReading.{Comes, MemoryReading}
use Rattle.rs_mrt.specs.Record.{MrtRecord}
use Rattle.rs_mrt.specs.RecordReading.{MayCome, RecordReading}
use Rattle.rs_mrt.specs.Source.{source_end}
use Rattle.rs_mrt.specs.declared.fault.SourceFault.{SourceFault}
use Rattle.rs_run.proofs.RecordsLemmas.{shown-by}
use Rattle.rs_run.proofs.over_records.source_of.Goals as goal

pub returns-clause-read_so : goal.returns-clause-read_so
returns-clause-read_so c = λ records end come.
    let bounds = c.args.reading.bounds in
    let law = c.what_is_within_bounds.ensures in
    let tailed : RecordReading MemoryReading → Leniency (RecordReading MemoryReading) =
    λ reading. record { source = reading; tail = bounds.tail } in
    let same : c.new-lenient.result ≡ unread_within bounds c.new-reader.result =
    c.new-lenient.ensures ∙ ap tailed c.up_to-records.ensures in
    let within : (rs : List MrtRecord) (e : Option SourceFault) → ComesBy (MayCome Comes) c.new-lenient.result rs e
    → ComesBy (MayCome Comes) (unread_within bounds c.new-reader.result) rs e =
    λ rs e given. subst (λ (l : Leniency (RecordReading MemoryReading)). ComesBy (MayCome Comes) l rs e) same given in
    shown-by c.args.reading.losses c.args.who (ComesBy (MayCome Comes) c.new-lenient.result)
    (map front_of (records_until bounds.until c.args.file.now)) (source_end (end_within bounds c.args.file.now))
    (λ rs e given. law.records rs e (within rs e given)) (λ rs e given. law.end rs e (within rs e given)) records end
    (c.new.ensures.comes records end come)
