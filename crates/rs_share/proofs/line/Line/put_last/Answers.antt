use Rattle.rs_mrt.specs.Record.{record_of}
use Rattle.rs_share.proofs.ReadingLemmas.{went-on}
use Rattle.rs_share.proofs.line.Line.put_last.Goals as goal

pub put-requires-clause-at : goal.put-requires-clause-at
put-requires-clause-at g c = λ goes. let at = c.requires.at goes in
    record { given = at.given; may = at.may; tells = at.tells; counted = at.counted }

pub flush-requires : goal.flush-requires
flush-requires g c =
    λ goes. went-on g.S.Source.comes g.S.Source.room c.args.self.now c.put.new.self c.args.before (record_of c.args.record.now)
    (c.requires.at (c.put.ensures.open goes)) c.put.ensures.same.0 c.put.ensures.tells
