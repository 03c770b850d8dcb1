use Rattle.std.proofs.Common.{Some}
use Rattle.rs_mrt.proofs.record_reader.FrontLemmas.{known_read}
use Rattle.rs_mrt.proofs.laws.known_octets_are_shown_up_to.Goals as goal

pub returns : goal.returns
returns g c =
    known_read g.R.Read.gives g.R.Read.failures (Some c.args._time) c.args._reader.now c.args._file.now c.requires.known c.requires.fits
