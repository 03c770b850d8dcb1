-- The result of a run on threads.
use Rattle.std.specs.Prelude.{◌≡◌, ◌&&◌, ℕ, Bool, nat_le, List, [], ◌∷◌, ◌++◌, map, length, slice_get, Option, Some, refl}
use Rattle.std.specs.Coded.{Coded, code_by, coded×, coded_ℕ, coded_list}
use Rattle.std.specs.List.{zip}
use Rattle.rs_choice.specs.Plan.{Peer, Plan, id_of}
use Rattle.rs_session.specs.Change.{Change}
use Rattle.rs_session.specs.FileChanges.{changes_in_by, passed_in_by, close_at}
use Rattle.rs_session.specs.Given.{OverGivenFiles}
use Rattle.rs_session.specs.Stage.{Comes}
use Rattle.rs_session.specs.Told.{ClosesFor, OverTold, Told}
use Rattle.rs_change.specs.contracts.word.Reason as reason
use Rattle.rs_types.specs.declared.peer_id.PeerId.{PeerId}
use Rattle.rs_change.specs.declared.word.Reason.{Reason}
use Rattle.rs_table.specs.Codes.{tables_code}
use Rattle.rs_table.specs.Content.{TablesContent, rib_left}
use Rattle.rs_update.specs.declared.errors.Errors.{Errors}
use Rattle.rs_mrt.specs.Reader.{ReadEnd}
use Rattle.rs_mrt.specs.Record.{MrtRecord}
use Rattle.rs_serve.specs.declared.ended.PeerEnd.{PeerEnd}

-- the tables, and how each peer's session ended, in the order of the peers
pub record ServedContent : Type 0 where
  pub tables : TablesContent
  pub ends : List PeerEnd

abbrev pub end_code : Coded PeerEnd
end_code =
    code_by (ℕ × (ℕ × Reason)) (coded× coded_ℕ (coded× coded_ℕ reason.the_row.coded))
    (λ e. (e.changes, (e.passed, e.reason)))
    (λ p. record { changes = p.0; passed = p.1.0; reason = p.1.1 }) (λ _. refl)

abbrev pub served_code : Coded ServedContent
served_code =
    code_by (TablesContent × List PeerEnd) (coded× tables_code (coded_list end_code)) (λ s. (s.tables, s.ends))
    (λ p. record { tables = p.0; ends = p.1 }) (λ _. refl)

-- the tables of a plan, by the changes of each peer; the order in which changes of different peers came makes no
-- difference
abbrev pub tables_of : Plan → List (List Change) → TablesContent
tables_of plan recorded = record { plan = plan; ribs = map rib_left recorded }

-- the changes in each peer's file, in the order of the peers; faults in messages are handled by one of the standards
abbrev pub changes_by_peer : Errors → Plan → List (List ℕ) → List (List Change)
changes_by_peer errors plan files = map (λ (peer, file). changes_in_by errors (id_of peer) file) (zip plan.peers files)

-- how the session in a file ends: by its last change, which is the close
pub record IsEndOf (errors : Errors) (peer : PeerId) (file : List ℕ) (end : PeerEnd) : Type 0 where
  pub before : List Change
  pub time : ℕ
  pub changes_are : end.changes ≡ length (changes_in_by errors peer file)
  pub passed_are : end.passed ≡ passed_in_by errors peer file
  pub closes : changes_in_by errors peer file ≡ before ++ close_at time end.reason ∷ []

-- the tables depend on the files alone, and each peer's session ended as it does in its file
pub record IsServed (errors : Errors) (plan : Plan) (files : List (List ℕ)) (served : ServedContent) : Type 0 where
  pub tables_are : served.tables ≡ tables_of plan (changes_by_peer errors plan files)
  pub counted : length served.ends ≡ length plan.peers
  pub ends_are : (place : ℕ) (peer : Peer) (file : List ℕ) (end : PeerEnd)
      → slice_get plan.peers place ≡ Some peer → slice_get files place ≡ Some file
      → slice_get served.ends place ≡ Some end
      → IsEndOf errors (id_of peer) file end

-- there are files that the readers may give, and the result is that of these files
abbrev pub IsServedBy : {R : Type 0} → (R → List ℕ → ReadEnd → Type 0) → Errors → Plan → List R → ServedContent → Type 0
IsServedBy gives errors plan readers served =
    OverGivenFiles gives errors (map id_of plan.peers) readers (λ files. IsServed errors plan files served)

-- how a session ends that tells this: by its last change, which is the close
pub record IsEndOfTold (told : Told) (end : PeerEnd) : Type 0 where
  pub changes_are : end.changes ≡ length told.changes
  pub passed_are : end.passed ≡ told.passed
  pub closes : ClosesFor told.changes end.reason

-- the tables depend on what the sessions tell alone, and each session ended as it tells
pub record IsServedAs (plan : Plan) (all : List Told) (served : ServedContent) : Type 0 where
  pub tables_are : served.tables ≡ tables_of plan (map (λ told. told.changes) all)
  pub counted : length served.ends ≡ length plan.peers
  pub ends_are : (place : ℕ) (told : Told) (end : PeerEnd)
      → slice_get all place ≡ Some told → slice_get served.ends place ≡ Some end
      → IsEndOfTold told end

-- there is for each peer what its session over the source may tell, and the result is that of all these
abbrev pub IsServedOver : {S : Type 0} → Comes S → (S → Option MrtRecord) → Errors → Plan → List S → ServedContent
    → Type 0
IsServedOver comes shows errors plan sources served =
    OverTold comes shows errors (map id_of plan.peers) sources (λ all. IsServedAs plan all served)

-- whether this number of shards is allowed
abbrev pub is_shard_count : ℕ → Bool
is_shard_count shards = nat_le 1 shards && nat_le shards 16
