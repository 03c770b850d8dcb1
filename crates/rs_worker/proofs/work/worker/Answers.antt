-- What may come of a file's records are just the changes of the file.
use Rattle.rs_worker.proofs.FileLemmas.{has_worked-file}
use Rattle.rs_worker.proofs.work.worker.Goals as goal

pub returns : goal.returns
returns g c = has_worked-file c.args.id c.args.file.now c.args.out.ring c.worker_over.result (rw c.new.ensures at c.worker_over.ensures)
