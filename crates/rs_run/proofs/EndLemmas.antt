-- How sessions ended that were served, file by file.
use Rattle.std.proofs.Common.{◌≡◌, ◌∙◌, sym, ap, refl, ℕ, suc, arith, Bool, true, false, List, [], ◌∷◌, ◌++◌, Option, Some, length, map}
use Rattle.std.specs.Prelude.{◌||◌, slice_get}
use Rattle.std.specs.List.{zip}
use Rattle.rs_choice.specs.Plan.{Peer, Plan, id_of}
use Rattle.rs_serve.specs.Served.{ServedContent, IsEndOf, IsServedBy}
use Rattle.rs_serve.specs.declared.ended.PeerEnd.{PeerEnd}
use Rattle.rs_mrt.specs.Reader.{ReadEnd}
use Rattle.rs_mrt.specs.Record.{records_of, end_of}
use Rattle.rs_mrt.specs.Source.{source_end}
use Rattle.rs_mrt.specs.declared.fault.SourceFault.{SourceFault}
use Rattle.rs_session.specs.Change.{Change, ChangeBody, Announced, Withdrawn, Lost, Closed, body_closes}
use Rattle.rs_session.specs.FileChanges.{changes_in_by, passed_in_by, close_at}
use Rattle.rs_session.specs.Laws.{ClosesLast, ClosesOnce, has_close}
use Rattle.rs_session.specs.Told.{ClosesFor}
use Rattle.rs_types.specs.declared.peer_id.PeerId.{PeerId}
use Rattle.rs_change.specs.declared.word.Reason.{Reason}
use Rattle.rs_update.specs.declared.errors.Errors.{Errors}
use Rattle.rs_run.specs.Recorded.{OverFiles, tables_of_files}
use Rattle.rs_run.specs.SessionEnd.{end_in, ends_of_files, reason_in, reason_or}

or-first : (b c : Bool) → (b || c) ≡ false → b ≡ false
or-first false c e = refl
or-first true c e = absurd cc

or-second : (b c : Bool) → (b || c) ≡ false → c ≡ false
or-second false c e = e
or-second true c e = absurd cc

reason_or-unclosed : (later : Reason) (body : ChangeBody) → body_closes body ≡ false → reason_or later body ≡ later
reason_or-unclosed later (Announced prefix attributes) unclosed = refl
reason_or-unclosed later (Withdrawn prefix) unclosed = refl
reason_or-unclosed later Lost unclosed = refl
reason_or-unclosed later (Closed reason) unclosed = absurd cc

-- the reason of a close that is the first one, and the last change
reason-last : (xs : List Change) (time : ℕ) (reason : Reason) → has_close xs ≡ false → reason_in (xs ++ close_at time reason ∷ []) ≡ reason
reason-last [] time reason none = refl
reason-last (x ∷ xs) time reason none =
    let rest : List Change = xs ++ close_at time reason ∷ [] in
    reason_or-unclosed (reason_in rest) x.body (or-first (body_closes x.body) (has_close xs) none)
    ∙ reason-last xs time reason (or-second (body_closes x.body) (has_close xs) none)

-- two lists that are one have the same last member
pub last-same : {X : Type 0} (xs ys : List X) (x y : X) → xs ++ x ∷ [] ≡ ys ++ y ∷ [] → x ≡ y
last-same [] [] x y e = cc
last-same [] (b ∷ []) x y e = absurd cc
last-same [] (b ∷ c ∷ ys) x y e = absurd cc
last-same (a ∷ []) [] x y e = absurd cc
last-same (a ∷ c ∷ xs) [] x y e = absurd cc
last-same (a ∷ xs) (b ∷ ys) x y e = let later : xs ++ x ∷ [] ≡ ys ++ y ∷ [] = cc in last-same xs ys x y later

pub reason-same : (t u : ℕ) (reason other : Reason) → close_at t reason ≡ close_at u other → reason ≡ other
reason-same t u reason other e = let bodies : Closed reason ≡ Closed other = ap (λ (c : Change). c.body) e in cc

-- the reason of a close that is the last change is that of the one close
pub reason-is : (end : Option SourceFault) (changes : List Change) (reason : Reason) → ClosesLast end changes
    → ClosesFor changes reason → reason ≡ reason_in changes
reason-is end changes reason close closes =
    reason-same closes.time close.time reason close.reason
    (last-same closes.before close.before (close_at closes.time reason) (close_at close.time close.reason)
    (sym closes.splits ∙ close.splits))
    ∙ sym (reason-last close.before close.time close.reason close.none_before) ∙ ap reason_in (sym close.splits)

-- a session that ended as a file says ended so
end-is : ClosesOnce → (errors : Errors) (peer : PeerId) (file : List ℕ) (end : PeerEnd) → IsEndOf errors peer file end
    → end ≡ end_in errors peer file
end-is once errors peer file end is =
    let changes = changes_in_by errors peer file in
    let last = source_end (end_of file) in
    let closes : ClosesFor changes end.reason = record { before = is.before; time = is.time; splits = is.closes } in
    let reason = reason-is last changes end.reason (once errors peer (records_of file) last) closes in
    let told : ℕ → ℕ → Reason → PeerEnd = λ n m r. record { changes = n; passed = m; reason = r } in
    ap (λ (n : ℕ). told n end.passed end.reason) is.changes_are ∙ ap (λ (m : ℕ). told (length changes) m end.reason) is.passed_are
    ∙ ap (told (length changes) (passed_in_by errors peer file)) reason

-- and so did all sessions
all-ended : ClosesOnce → (errors : Errors) (peers : List Peer) (files : List (List ℕ)) (ends : List PeerEnd) → length files ≡ length peers
    → length ends ≡ length peers
    → ((place : ℕ) (peer : Peer) (file : List ℕ) (end : PeerEnd) → slice_get peers place ≡ Some peer → slice_get files place ≡ Some file
    → slice_get ends place ≡ Some end → IsEndOf errors (id_of peer) file end)
    → ends ≡ map (λ (peer, file). end_in errors (id_of peer) file) (zip peers files)
all-ended once errors [] files [] as_files as_ends at = refl
all-ended once errors [] files (e ∷ ends) as_files as_ends at = absurd (omega (arith, as_ends))
all-ended once errors (p ∷ peers) [] ends as_files as_ends at = absurd (omega (arith, as_files))
all-ended once errors (p ∷ peers) (f ∷ files) [] as_files as_ends at = absurd (omega (arith, as_ends))
all-ended once errors (p ∷ peers) (f ∷ files) (e ∷ ends) as_files as_ends at =
    let first : e ≡ end_in errors (id_of p) f = end-is once errors (id_of p) f e (at 0 p f e refl refl refl) in
    let later : ends ≡ map (λ (peer, file). end_in errors (id_of peer) file) (zip peers files) =
    all-ended once errors peers files ends (omega (arith, as_files)) (omega (arith, as_ends))
    (λ place peer file end peer_at file_at end_at. at (suc place) peer file end peer_at file_at end_at) in
    cc

-- what is served is what the files leave, and how they say that the sessions ended
pub served-files : {R : Type 0} (gives : R → List ℕ → ReadEnd → Type 0) (errors : Errors) (plan : Plan) (readers : List R)
    (served : ServedContent) → ClosesOnce → length readers ≡ length plan.peers
    → IsServedBy gives errors plan readers served → OverFiles gives errors plan readers
    (λ files. (served.tables ≡ tables_of_files errors plan files) × (served.ends ≡ ends_of_files errors plan files))
served-files gives errors plan readers served once one_for_each by = (
  by.0,
  by.1,
  (
    by.2.tables_are,
    all-ended once errors plan.peers by.0 served.ends (by.1.as_many ∙ one_for_each)
        by.2.counted by.2.ends_are,
  ),
)
