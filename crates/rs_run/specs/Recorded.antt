-- The tables that recorded files give an exchange: the routes that its peers have left, of which the tables of its
-- clients are chosen (RFC 4271, section 9.1).
use Rattle.std.specs.Prelude.{ℕ, List, Option, map}
use Rattle.rs_choice.specs.Plan.{Plan, id_of}
use Rattle.rs_serve.specs.Served.{IsServedOver, ServedContent, changes_by_peer, tables_of}
use Rattle.rs_mrt.specs.Reader.{ReadEnd}
use Rattle.rs_mrt.specs.Record.{MrtRecord}
use Rattle.rs_session.specs.Given.{OverGivenFiles, MayFailAt}
use Rattle.rs_session.specs.Stage.{Comes}
use Rattle.rs_session.specs.Told.{MayFailToTellAt}
use Rattle.rs_table.specs.Content.{TablesContent}
use Rattle.rs_update.specs.declared.errors.Errors.{Errors}
use Rattle.rs_run.specs.SessionEnd.{ends_of_files}

-- The statement is true of some recorded files that the readers may give, one for each peer, in the order of the
-- peers.
abbrev pub OverFiles : {R : Type 0} → (R → List ℕ → ReadEnd → Type 0) → Errors → Plan → List R
    → (List (List ℕ) → Type 0) → Type 0
OverFiles gives errors plan readers Holds = OverGivenFiles gives errors (map id_of plan.peers) readers Holds

-- the reader of this peer may fail, and the readers of the peers before it may give their files
abbrev pub FailsAt : {R : Type 0} → (R → List ℕ → ReadEnd → Type 0) → Errors → Plan → List R → ℕ → Type 0
FailsAt gives errors plan readers peer = MayFailAt gives errors (map id_of plan.peers) readers peer

-- the tables after all files were read, one file for each peer, in the order of the peers
abbrev pub tables_of_files : Errors → Plan → List (List ℕ) → TablesContent
tables_of_files errors plan files = tables_of plan (changes_by_peer errors plan files)

-- what is served of all files: these tables, and how each session ended
abbrev pub served_of_files : Errors → Plan → List (List ℕ) → ServedContent
served_of_files errors plan files =
    record { tables = tables_of_files errors plan files; ends = ends_of_files errors plan files }

-- the statement is true of what is served of some recorded files that the readers may give
abbrev pub OverFilesServed : {R : Type 0} → (R → List ℕ → ReadEnd → Type 0) → Errors → Plan → List R
    → (ServedContent → Type 0) → Type 0
OverFilesServed gives errors plan readers Holds =
    OverFiles gives errors plan readers (λ files. Holds (served_of_files errors plan files))

-- the statement is true of what is served of changes that sessions over the sources may tell
abbrev pub OverSourcesServed : {S : Type 0} → Comes S → (S → Option MrtRecord) → Errors → Plan → List S
    → (ServedContent → Type 0) → Type 0
OverSourcesServed comes shows errors plan sources Holds =
    (served : ServedContent) × IsServedOver comes shows errors plan sources served × Holds served

-- the session over this peer's source may fail, and those of the peers before it may tell their changes
abbrev pub SourceFailsAt : {S : Type 0} → Comes S → (S → Option MrtRecord) → Errors → Plan → List S → ℕ → Type 0
SourceFailsAt comes shows errors plan sources peer =
    MayFailToTellAt comes shows errors (map id_of plan.peers) sources peer
