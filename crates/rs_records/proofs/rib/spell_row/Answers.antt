use Rattle.std.proofs.Common.{◌++◌, ◌+◌, ◌≡◌, ℕ, length, subst}
use Rattle.rs_mrt.specs.Endian.{big_bytes}
use Rattle.rs_mrt.specs.Record.{header_spelling}
use Rattle.rs_update.specs.Prefix.{spelled_prefix}
use Rattle.rs_records.specs.Buffer.{Gains}
use Rattle.rs_records.specs.DumpType.{TABLE_DUMP_V2}
use Rattle.rs_records.specs.Rib.{RIB_IPV4_UNICAST, rib_entry, rib_ipv4_unicast}
use Rattle.rs_records.specs.RibEntryView.{entry_of}
use Rattle.rs_records.proofs.RowLemmas.{Gains-row, row-length}
use Rattle.rs_records.proofs.rib.spell_row.Goals as goal

pub returns : goal.returns
returns c =
    let entry = entry_of c.args.entry.now in
    let body = rib_ipv4_unicast c.args.sequence c.args.prefix entry in
    let header = λ (len : ℕ). header_spelling c.args.time TABLE_DUMP_V2 RIB_IPV4_UNICAST len in
    let P : ℕ → Type 0 = λ len. Gains c.args.buffer.now c.spell_entry.new.buffer (header len ++ body) in
    let len = 15 + c.octet_count.result + c.written_len.result in
    let same : len ≡ length body =
    row-length c.args.sequence c.args.prefix entry c.octet_count.result c.written_len.result
    c.octet_count.ensures.value c.octet_count.ensures.bound c.written_len.ensures.value in
    subst P same
    (Gains-row c.args.buffer.now c.put_front.new.buffer c.spell_prefix.new.buffer c.spell_entry.new.buffer
    (header len) (big_bytes 4 c.args.sequence) (spelled_prefix c.args.prefix) (big_bytes 2 1) (rib_entry entry)
    c.put_front.ensures c.spell_prefix.ensures c.spell_entry.ensures)
