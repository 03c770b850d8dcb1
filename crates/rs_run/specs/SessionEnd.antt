-- How the session of a recorded file ended.
use Rattle.std.specs.Prelude.{ℕ, List, [], ◌∷◌, length, map}
use Rattle.std.specs.List.{zip}
use Rattle.rs_choice.specs.Plan.{Plan, id_of}
use Rattle.rs_serve.specs.declared.ended.PeerEnd.{PeerEnd}
use Rattle.rs_session.specs.Change.{Change, ChangeBody, Announced, Withdrawn, Lost, Closed}
use Rattle.rs_session.specs.FileChanges.{changes_in_by, passed_in_by}
use Rattle.rs_types.specs.declared.peer_id.PeerId.{PeerId}
use Rattle.rs_change.specs.declared.word.Reason.{Reason}
use Rattle.rs_change.specs.declared.word.Reason.TheVariants.{EndOfFile}
use Rattle.rs_update.specs.declared.errors.Errors.{Errors}

-- the reason of a close; for another change, the reason found behind it
abbrev pub reason_or : Reason → ChangeBody → Reason
reason_or later (Closed reason) = reason
reason_or later (Announced prefix attributes) = later
reason_or later (Withdrawn prefix) = later
reason_or later Lost = later

-- the reason of the first close; the changes of a file have exactly one close, at their end
abbrev pub reason_in : List Change → Reason
reason_in [] = EndOfFile
reason_in (change ∷ later) = reason_or (reason_in later) change.body

-- how a peer's session ended: how many changes its file has, with the close, how many records are passed over, and
-- why it closed
abbrev pub end_in : Errors → PeerId → List ℕ → PeerEnd
end_in errors peer file =
    let changes = changes_in_by errors peer file in
    record { changes = length changes; passed = passed_in_by errors peer file; reason = reason_in changes }

-- how all sessions ended, one for each peer, in the order of the peers
abbrev pub ends_of_files : Errors → Plan → List (List ℕ) → List PeerEnd
ends_of_files errors plan files = map (λ (peer, file). end_in errors (id_of peer) file) (zip plan.peers files)
