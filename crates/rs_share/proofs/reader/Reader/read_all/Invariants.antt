use Rattle.rs_share.specs.Reading.{IsReading}
use Rattle.rs_share.proofs.reader.Reader.read_all.Given as goal

abbrev pub invariant-loop : goal.invariant-loop
invariant-loop g l = IsReading g.S.Source.comes g.S.Source.room l.reader
