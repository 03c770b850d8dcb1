use Rattle.rs_mrt.specs.Record.{record_of}
use Rattle.rs_share.proofs.ReadingLemmas.{line-goes, stands-in, stands-of}
use Rattle.std.proofs.Common.{◌<◌, length, rules}
use Rattle.rs_share.proofs.reader.put_all.Goals as goal

pub put_last-requires-clause-at : goal.put_last-requires-clause-at
put_last-requires-clause-at g c =
    let line = c.index_mut.result.now in
    let place = c.loop-place.place in
    let less : place < length c.loop-place.lines.items = search rules in
    λ goes. line-goes g.S.Source.comes g.S.Source.room c.args.lines.now.items place line
    (stands-in c.loop-place.lines.items c.args.lines.now.items place line c.loop-place.invariant.0
    (stands-of c.loop-place.lines.items place line c.index_mut.ensures.value less)) c.args.before (record_of c.args.record.now)
    c.requires.at

pub put_last-requires-clause-own : goal.put_last-requires-clause-own
put_last-requires-clause-own g c =
    let line = c.index_mut.result.now in
    let place = c.loop-place.place in
    let less : place < length c.loop-place.lines.items = search rules in
    c.requires.own place line (stands-in c.loop-place.lines.items c.args.lines.now.items place line c.loop-place.invariant.0
    (stands-of c.loop-place.lines.items place line c.index_mut.ensures.value less))
