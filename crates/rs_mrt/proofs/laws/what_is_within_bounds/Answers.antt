use Rattle.rs_mrt.proofs.lenient.WithinLemmas.{known_within}
use Rattle.rs_mrt.proofs.laws.what_is_within_bounds.Goals as goal

pub returns-clause-records : goal.returns-clause-records
returns-clause-records g c = λ records fault may.
    (known_within g.R.Read.gives g.R.Read.failures c.args._bounds c.args._reader.now c.args._file.now c.requires.known c.requires.fits
    records fault may).0

pub returns-clause-end : goal.returns-clause-end
returns-clause-end g c = λ records fault may.
    (known_within g.R.Read.gives g.R.Read.failures c.args._bounds c.args._reader.now c.args._file.now c.requires.known c.requires.fits
    records fault may).1
