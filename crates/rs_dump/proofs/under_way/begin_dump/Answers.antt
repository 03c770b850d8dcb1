use Rattle.std.proofs.Common.{◌++◌, ◌∙◌, ap, sym}
use Rattle.rs_mrt.specs.Record.{record_spelling}
use Rattle.rs_records.specs.PeerIndex.{index_record}
use Rattle.rs_dump.proofs.DumpLemmas.{dumped-nil}
use Rattle.rs_dump.proofs.under_way.begin_dump.Goals as goal

pub returns-clause-begun : goal.returns-clause-begun
returns-clause-begun c =
    let index = record_spelling (index_record c.args.plan.now c.args.client c.args.time) in
    c.spell_peer_index.ensures.spelled.items
    ∙ ap (λ octets. octets ++ index) c.in_ok-buffer.ensures.items
    ∙ sym (dumped-nil c.args.plan.now c.args.client c.args.time)
