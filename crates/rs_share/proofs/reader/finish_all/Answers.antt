use Rattle.rs_share.proofs.ReadingLemmas.{stands-in, stands-of}
use Rattle.std.proofs.Common.{◌<◌, length, rules}
use Rattle.rs_share.proofs.reader.finish_all.Goals as goal

pub finish-requires : goal.finish-requires
finish-requires g c =
    let line = c.index_mut.result.now in
    let place = c.loop-place.place in
    let less : place < length c.loop-place.lines.items = search rules in
    c.requires place line (stands-in c.loop-place.lines.items c.args.lines.now.items place line c.loop-place.invariant.0
    (stands-of c.loop-place.lines.items place line c.index_mut.ensures.value less))
