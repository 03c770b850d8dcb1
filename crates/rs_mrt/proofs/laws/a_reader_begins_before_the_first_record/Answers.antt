use Rattle.rs_mrt.proofs.record_reader.PlaceLemmas.{begins}
use Rattle.rs_mrt.proofs.laws.a_reader_begins_before_the_first_record.Goals as goal

pub returns : goal.returns
returns g c =
    begins g.R.Read.gives g.R.Read.failures c.args._file.now c.args._until c.args._reader.now c.requires.known c.requires.fits
