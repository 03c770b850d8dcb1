use Rattle.rs_mrt.proofs.record_reader.FrontLemmas.{known_shown}
use Rattle.rs_mrt.proofs.laws.known_octets_are_shown.Goals as goal

pub returns : goal.returns
returns g c = known_shown g.R.Read.gives g.R.Read.failures c.args._reader.now c.args._file.now c.requires.known c.requires.fits
