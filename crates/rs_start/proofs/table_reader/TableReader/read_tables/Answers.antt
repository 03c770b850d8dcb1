use Rattle.std.proofs.Common.{◌≡◌, ◌∷◌, ◌∙◌, true, false, [], List, ℕ, Ok, subst, sym, ap}
use Rattle.rs_start.specs.TableFile.{part_of}
use Rattle.rs_start.specs.TableReading.{Reads, Takes, record_at}
use Rattle.rs_start.specs.declared.part.Part.TheVariants.{Index}
use Rattle.rs_start.proofs.FileLemmas.{TellsTables, reads_tables, tells_index, tells_other}
use Rattle.rs_start.proofs.table_reader.TableReader.read_tables.Goals as goal
use Rattle.rs_start.proofs.table_reader.TableReader.read_tables.Goals.{in-Index+in_ok-push, in_default}

pub returns-in-Ok-None : goal.returns-in-Ok-None
returns-in-Ok-None g c =
    let gives = g.R.Read.gives in
    let old = c.loop-record.self in
    let ends = subst (λ found. Reads gives old c.next.new.self (Ok found)) c.in-Ok-None.field-0-is c.in-Ok-None.ensures in
    reads_tables gives c.args.self.now old c.loop-record.times.items true c.loop-record.invariant (λ is. ends)

pub returns-in-Err-Broken : goal.returns-in-Err-Broken
returns-in-Err-Broken g c =
    reads_tables g.R.Read.gives c.args.self.now c.loop-record.self c.loop-record.times.items false c.loop-record.invariant
    (λ is. absurd cc)

pub loop-record-preserved : goal.loop-record-preserved
loop-record-preserved g c =
    let gives = g.R.Read.gives in
    let first = gives c.args.self.now.reader in
    let old = gives c.loop-record.self.reader in
    let new = gives c.next.new.self.reader in
    let times = c.loop-record.times.items in
    let r = record_at c.in-Ok-Some.head c.next.new.self.body in
    let takes : Takes old new (r ∷ []) =
    subst (λ found. Reads gives c.loop-record.self c.next.new.self (Ok found)) c.in-Ok-Some.field-0-is c.in-Ok-Some.ensures in
    elim c.match-part_by.branch [
      | in-Index+in_ok-push w ↦
          let is : part_of r ≡ Index = sym c.part_by.ensures ∙ w.in-Index.is in
          subst (λ (all : List ℕ). TellsTables first new all) (sym (ap (λ vec. vec.items) w.times-is ∙ w.in_ok-push.ensures.items))
          (tells_index first old new times r c.loop-record.invariant takes is)
      | in_default w ↦
          subst (λ (all : List ℕ). TellsTables first new all) (sym (ap (λ vec. vec.items) w.times-is))
          (tells_other first old new times r c.loop-record.invariant takes (λ is. w.in_default.not-Index (c.part_by.ensures ∙ is)))
    ]
