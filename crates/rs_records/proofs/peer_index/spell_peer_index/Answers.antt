use Rattle.std.proofs.Common.{◌++◌, ℕ, subst}
use Rattle.rs_mrt.specs.Record.{header_spelling}
use Rattle.rs_records.specs.Buffer.{Gains}
use Rattle.rs_records.specs.DumpType.{TABLE_DUMP_V2}
use Rattle.rs_records.specs.PeerIndex.{PEER_INDEX_TABLE, peer_index}
use Rattle.rs_records.proofs.BufferLemmas.{Gains-append}
use Rattle.rs_records.proofs.peer_index.spell_peer_index.Goals as goal

pub returns-clause-spelled : goal.returns-clause-spelled
returns-clause-spelled c =
    let body = peer_index c.args.plan.now c.args.client in
    let header = λ (len : ℕ). header_spelling c.args.time TABLE_DUMP_V2 PEER_INDEX_TABLE len in
    let P : ℕ → Type 0 = λ len. Gains c.args.buffer.now c.spell_body.new.buffer (header len ++ body) in
    subst P c.body_len.ensures.value
    (Gains-append c.args.buffer.now c.put_header.new.buffer c.spell_body.new.buffer (header c.body_len.result)
    body c.put_header.ensures c.spell_body.ensures)
