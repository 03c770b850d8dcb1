-- What is served over the records of readers is that of files that they may give.
use Rattle.rs_serve.proofs.serving.FilesServedLemmas.{answers-over-files}
use Rattle.rs_serve.proofs.serving.serve_by.Goals as goal

pub returns : goal.returns
returns g c =
    record {
      answer = answers-over-files g.R.Read.gives c.args.errors c.a_reader_gives_a_file_or_fails.ensures
          c.a_failed_read_closes_last.ensures c.args.plan.now.value c.args.readers.items c.requires.as_many
          c.a_session_closes_once.ensures c.args.capacity c.args.shards c.serve_within.result
          (rw c.in_ok-sources.ensures.unread at c.serve_within.ensures.answer);
    }
