use Rattle.rs_mrt.specs.Record.{record_of}
use Rattle.rs_share.proofs.ReadingLemmas.{equal-true, line-at, put-same, put-tells, stands-of}
use Rattle.std.proofs.Common.{◌∙◌}
use Rattle.rs_share.proofs.reader.put_at.Goals as goal

pub put-requires-clause-at : goal.put-requires-clause-at
put-requires-clause-at g c =
    let line = c.index_mut.result.now in
    λ goes. line-at g.S.Source.comes g.S.Source.room c.args.lines.now.items c.args.place line
    (stands-of c.args.lines.now.items c.args.place line c.index_mut.ensures.value c.requires.place) c.args.before c.requires.at

pub put-requires-clause-own : goal.put-requires-clause-own
put-requires-clause-own g c =
    let line = c.index_mut.result.now in
    c.requires.own c.args.place line
    (stands-of c.args.lines.now.items c.args.place line c.index_mut.ensures.value c.requires.place) ∙ equal-true c.args.place

pub returns-clause-tells : goal.returns-clause-tells
returns-clause-tells g c =
    let line = c.index_mut.result.now in
    put-tells c.args.lines.now.items c.args.place line c.put.new.self
    (stands-of c.args.lines.now.items c.args.place line c.index_mut.ensures.value c.requires.place)
    (record_of c.args.record.now) c.args.before c.requires.own c.put.ensures.tells

pub returns-clause-same : goal.returns-clause-same
returns-clause-same g c =
    let line = c.index_mut.result.now in
    put-same c.args.lines.now.items c.args.place line c.put.new.self
    (stands-of c.args.lines.now.items c.args.place line c.index_mut.ensures.value c.requires.place)
    c.put.ensures.same.0 c.put.ensures.same.1
