use Rattle.std.proofs.Common.{◌≡◌, ◌∷◌, ◌∙◌, ◌≤◌, ◌+◌, [], Ok, ℕ, arith, sym, subst}
use Rattle.rs_start.specs.Table.{IsIndex}
use Rattle.rs_start.specs.TableFile.{part_of}
use Rattle.rs_start.specs.TableReading.{Reads, ReadsIndex, Takes, record_at}
use Rattle.rs_start.specs.declared.part.Part.TheVariants.{Index}
use Rattle.rs_start.proofs.FileLemmas.{PassesOver, if_both, passes_index, passes_nothing, passes_one, reads_index}
use Rattle.rs_start.proofs.table_reader.TableReader.read_index.Goals as goal
use Rattle.rs_start.proofs.table_reader.TableReader.read_index.Goals.{in-Index+else-earlier-place}
use Rattle.rs_start.proofs.table_reader.TableReader.read_index.Goals.{in_default-part_by+in_ok-pass_over-in_default-part_by}

pub loop-record-init : goal.loop-record-init
loop-record-init g c = (omega arith, passes_nothing (g.R.Read.gives c.args.self.now.reader) c.args.place)

pub returns-then-earlier-place : goal.returns-then-earlier-place
returns-then-earlier-place g c =
    let gives = g.R.Read.gives in
    let first = c.args.self.now in
    let old = c.loop-record.self in
    let new = c.next.new.self in
    let place = c.args.place in
    let r = record_at c.in-Some.head new.body in
    let takes : Takes (gives old.reader) (gives new.reader) (r ∷ []) =
    subst (λ found. Reads gives old new (Ok found)) c.in-Some.is c.in_ok-head.ensures in
    let passed : PassesOver (gives first.reader) (gives old.reader) place place =
    subst (λ (earlier : ℕ). PassesOver (gives first.reader) (gives old.reader) place earlier) c.if-earlier-place.true
    c.loop-record.invariant.1 in
    let is_index : part_of r ≡ Index = sym c.part_by.ensures ∙ c.in-Index.is in
    record {
      index = if_both (λ read. read.0 ≡ r.time)
          (λ read. IsIndex r.body read.1.collector read.1.view_name.items read.1.peers.items)
          (λ read. ReadsIndex gives first new place read.0 read.1.collector read.1.view_name.items read.1.peers.items)
          c.index_in.result
          (λ read time says. reads_index gives first old new r place read.0 read.1.collector read.1.view_name.items
          read.1.peers.items passed takes is_index (sym time) says)
          c.index_in.ensures.time c.index_in.ensures.index;
    }

pub loop-record-preserved : goal.loop-record-preserved
loop-record-preserved g c =
    let gives = g.R.Read.gives in
    let first = gives c.args.self.now.reader in
    let old = gives c.loop-record.self.reader in
    let new = gives c.next.new.self.reader in
    let place = c.args.place in
    let earlier = c.loop-record.earlier in
    let held = c.loop-record.invariant in
    let r = record_at c.in-Some.head c.next.new.self.body in
    let takes : Takes old new (r ∷ []) =
    subst (λ found. Reads gives c.loop-record.self c.next.new.self (Ok found)) c.in-Some.is c.in_ok-head.ensures in
    elim c.match-part_by.branch [
      | in-Index+else-earlier-place w ↦
          let is : part_of r ≡ Index = sym c.part_by.ensures ∙ w.in-Index.is in
          let less : earlier + 1 ≤ place = omega (arith, held.0, w.if-earlier-place.false) in
          subst (λ (count : ℕ). (count ≤ place) × PassesOver first new place count) (sym w.earlier-is)
          (less, passes_index first old new place earlier r held.1 takes is (λ none. omega (arith, less, none)))
      | in_default-part_by+in_ok-pass_over-in_default-part_by w ↦
          subst (λ (count : ℕ). (count ≤ place) × PassesOver first new place count) (sym w.earlier-is) (
            held.0,
            passes_one first old new place earlier r held.1 takes
                (λ is. w.in_default-part_by.not-Index (c.part_by.ensures ∙ is))
                (λ none. sym c.part_by.ensures ∙ w.in_ok-pass_over-in_default-part_by.ensures none),
          )
    ]
