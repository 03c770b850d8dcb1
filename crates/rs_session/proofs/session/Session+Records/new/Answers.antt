-- Just the records of the file may come.
use Rattle.rs_update.specs.declared.errors.Errors.TheVariants.{Rfc4271}
use Rattle.rs_session.proofs.StageLemmas.{says_just-file}
use Rattle.rs_session.proofs.session.Session+Records.new.Goals as goal

pub returns-clause-says : goal.returns-clause-says
returns-clause-says c = rw (c.over.ensures, c.new.ensures) (says_just-file Rfc4271 c.args.peer c.args.file.now)
