use Rattle.std.proofs.Common.{Ok, subst, rules}
use Rattle.rs_mrt.specs.Reader.{ReadGives, MayBeLeft}
use Rattle.rs_mrt.proofs.stream.ReaderLemmas.{given_by_std}
use Rattle.rs_mrt.proofs.reader.IoReaderRead.read.Goals as goal

pub returns-in-Ok-clause-gives : goal.returns-in-Ok-clause-gives
returns-in-Ok-clause-gives g c =
    let remaining = g.R.Read.remaining in
    subst (λ d. ReadGives (MayBeLeft (remaining d.inner)) (MayBeLeft (remaining c.read.new.self)) (Ok c.in-Ok.count) c.read.new.buf)
    c.self.view_is
    (given_by_std c.in-Ok.count c.read.new.buf (remaining c.self.inside.inner) (remaining c.read.new.self) c.in-Ok.ensures.bytes)

pub returns-in-Err-clause-bound : goal.returns-in-Err-clause-bound
returns-in-Err-clause-bound g c = search

pub returns-in-Err-clause-gives : goal.returns-in-Err-clause-gives
returns-in-Err-clause-gives g c = search rules

pub returns-in-Err-clause-failures : goal.returns-in-Err-clause-failures
returns-in-Err-clause-failures g c = search rules

pub returns-in-Ok-clause-bound : goal.returns-in-Ok-clause-bound
returns-in-Ok-clause-bound g c = search rules

pub returns-in-Ok-clause-failures : goal.returns-in-Ok-clause-failures
returns-in-Ok-clause-failures g c = search rules
