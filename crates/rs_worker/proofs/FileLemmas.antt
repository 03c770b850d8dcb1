-- A worker over the records of a file.
use Rattle.std.proofs.Common.{ℕ, List, ◌++◌, None, map}
use Rattle.rs_mrt.specs.Record.{reading_of}
use Rattle.rs_ring.specs.Ends.{Ring}
use Rattle.rs_mrt.specs.Source.{IsLeft}
use Rattle.rs_session.specs.Change.{Change, change_of}
use Rattle.rs_session.specs.FileChanges.{changes_in, passed_in, default_standard}
use Rattle.rs_session.specs.Stage.{May, fresh}
use Rattle.rs_types.specs.declared.peer_id.PeerId.{PeerId}
use Rattle.rs_worker.specs.Worked.{MayGive, HasWorked, just}
use Rattle.rs_worker.specs.declared.work.WorkerEnd.{WorkerEnd}
use Rattle.rs_session.proofs.StageLemmas.{says_just-file}

-- what is sent of a session is sent of any other that may give the same
has_worked-given : (may other : MayGive) → ((changes : List Change) (passed : ℕ) → may changes passed → other changes passed)
    → (ring : Ring) (end : WorkerEnd) → HasWorked may ring end → HasWorked other ring end
has_worked-given may other gives ring end h = record {
  sent = h.sent;
  sends = record {
    before = h.sends.before;
    time = h.sends.time;
    splits = h.sends.splits;
    unclosed = h.sends.unclosed;
    whole = λ reason. gives (map change_of h.sent) end.passed (h.sends.whole reason);
    cut_short = λ reason.
        let cut = h.sends.cut_short reason in record {
          given = cut.given;
          rest = cut.rest;
          total = cut.total;
          may_come = gives (cut.given ++ cut.rest) cut.total cut.may_come;
          unfinished = cut.unfinished;
          splits = cut.splits;
          passed_within = cut.passed_within;
        };
  };
  counted = h.counted;
  token = h.token;
}

-- only the changes of the file may come
pub has_worked-file : (peer : PeerId) (file : List ℕ) (ring : Ring) (end : WorkerEnd)
    → HasWorked (May (λ s later end. IsLeft s later end) (λ s. s.shown) (fresh (reading_of None file) peer default_standard)) ring end
    → HasWorked (just (changes_in peer file) (passed_in peer file)) ring end
has_worked-file peer file ring end h =
    has_worked-given (May (λ s later end. IsLeft s later end) (λ s. s.shown) (fresh (reading_of None file) peer default_standard))
    (just (changes_in peer file) (passed_in peer file))
    (λ changes passed m. (says_just-file default_standard peer file changes passed).0 m) ring end h
