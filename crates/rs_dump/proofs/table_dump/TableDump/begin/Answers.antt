use Rattle.std.proofs.Common.{◌≡◌, ◌∙◌, ◌++◌, List, ℕ, length, ap, sym}
use Rattle.rs_table.specs.Table.{table_of}
use Rattle.rs_dump.specs.Dump.{dumped, spelled_rows}
use Rattle.rs_dump.specs.TableDump.{ToWrite}
use Rattle.rs_dump.proofs.DumpLemmas.{dumped-rows}
use Rattle.rs_dump.proofs.table_dump.TableDump.begin.Goals as goal

pub returns-clause-begun : goal.returns-clause-begun
returns-clause-begun c =
    let plan = c.args.tables.now.plan in
    let client = c.args.client in
    let time = c.args.time in
    let rows = c.in-Some.rows in
    let begun : List ℕ → ℕ → ToWrite = λ octets rows. record { octets = octets; rows = rows; spelled = 0 } in
    let octets : c.in_ok-buffer.buffer.items ++ spelled_rows time 0 rows ≡ dumped plan client (table_of c.args.tables.now client) time =
    ap (λ waiting. waiting ++ spelled_rows time 0 rows) c.in_ok-buffer.ensures.begun
    ∙ sym (dumped-rows c.plan.result.now client rows time)
    ∙ ap (λ plan. dumped plan client rows time) c.plan.ensures
    ∙ ap (λ rows. dumped plan client rows time) c.in-Some.ensures.rows in
    ap (λ octets. begun octets (length rows)) octets ∙ ap
    (λ rows. begun (dumped plan client (table_of c.args.tables.now client) time) (length rows)) c.in-Some.ensures.rows
