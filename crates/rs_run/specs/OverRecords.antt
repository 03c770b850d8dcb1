-- What a run gives of recorded files that are read up to a time, with their tails or without, and with the losses of
-- each peer. The records of a file are from a standard (RFC 6396, section 2); which of them are read is our choice.
use Rattle.std.specs.Prelude.{◌≡◌, ℕ, List, length, map}
use Rattle.std.specs.List.{zip}
use Rattle.rs_choice.specs.Plan.{Peer, Plan, id_of}
use Rattle.rs_keep.specs.Kept.{dumps_of}
use Rattle.rs_losses.specs.Losses.{with_losses}
use Rattle.rs_losses.specs.declared.losses.Sought.{Sought}
use Rattle.rs_mrt.specs.Bounds.{end_within, records_until}
use Rattle.rs_mrt.specs.Entry.{front_of}
use Rattle.rs_mrt.specs.Record.{MrtRecord}
use Rattle.rs_mrt.specs.Source.{source_end}
use Rattle.rs_mrt.specs.declared.bounds.FileReading.{FileReading}
use Rattle.rs_mrt.specs.declared.losses.Losses.{Losses}
use Rattle.rs_mrt.specs.declared.losses.Losses.TheVariants.{Recorded, Inferred}
use Rattle.rs_serve.specs.Served.{ServedContent, tables_of}
use Rattle.rs_serve.specs.declared.ended.PeerEnd.{PeerEnd}
use Rattle.rs_session.specs.FileChanges.{changes_of, passed_of}
use Rattle.rs_session.specs.Told.{Told}
use Rattle.rs_types.specs.declared.peer_id.PeerId.{PeerId}
use Rattle.rs_update.specs.declared.errors.Errors.{Errors}
use Rattle.rs_run.specs.Report.{report_of}
use Rattle.rs_run.specs.SessionEnd.{reason_in}
use Rattle.rs_run.specs.declared.over_octets.RunOverOctets.{RunOverOctets}

-- ---- one file

-- the records with the losses that count: those of the recording alone, or also those of a peer that they show
abbrev pub with_losses_by : Losses → Sought → List MrtRecord → List MrtRecord
with_losses_by Recorded who records = records
with_losses_by Inferred who records = with_losses who records

-- the records of a file that are read, each by its front: those before the first one that is later than the time, with
-- the losses that count
abbrev pub records_read_so : FileReading → Sought → List ℕ → List MrtRecord
records_read_so reading who file =
    with_losses_by reading.losses who (map front_of (records_until reading.bounds.until file))

-- what the session of a peer tells by these records, which end as the bounds say
abbrev pub told_in : Errors → FileReading → PeerId → Sought → List ℕ → Told
told_in errors reading peer who file =
    record {
      changes = changes_of errors peer (records_read_so reading who file) (source_end (end_within reading.bounds file));
      passed = passed_of errors peer (records_read_so reading who file);
    }

-- ---- the files of all peers

-- a peer, whose losses are looked for, and its file
abbrev pub PeerFile : Type 0
PeerFile = Peer × (Sought × List ℕ)

-- what the sessions tell of these files, in the order of the peers
abbrev pub told_of_files : Errors → FileReading → List Peer → List Sought → List (List ℕ) → List Told
told_of_files errors reading peers whose files =
    map (λ (peer, (who, file)). told_in errors reading (id_of peer) who file) (zip peers (zip whose files))

-- how a session ended that tells this: the reason is that of its close
abbrev pub end_told : Told → PeerEnd
end_told told =
    record { changes = length told.changes; passed = told.passed; reason = reason_in told.changes }

-- what is served if the sessions tell this: the tables that their changes leave, and how each session ended
abbrev pub served_of_told : Plan → List Told → ServedContent
served_of_told plan all =
    record { tables = tables_of plan (map (λ told. told.changes) all); ends = map end_told all }

-- what is served of the records that are read of these files
abbrev pub served_of_records : Errors → FileReading → Plan → List Sought → List (List ℕ) → ServedContent
served_of_records errors reading plan whose files =
    served_of_told plan (told_of_files errors reading plan.peers whose files)

-- the run has kept the dumps of what is served, and its report is that of what is served
pub record HasDumpsAndReportOfServed (plan : Plan) (time : ℕ) (served : ServedContent) (ran : RunOverOctets)
    : Type 0 where
  pub dumps : ran.dumps.kept ≡ dumps_of served.tables time
  pub report : ran.report.items ≡ report_of plan served.ends served.tables
