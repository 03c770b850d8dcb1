-- Losses that are recorded without an address: the Peer IP Address is 0.0.0.0 (RFC 6396, section 4.4.4). Our choice:
-- the AS number alone says whose such a loss is.
use Rattle.std.specs.Prelude.{ℕ, ◌==◌, ◌&&◌, if◌then◌else◌, List, Option, Some, None, filter_map}
use Rattle.rs_inventory.specs.Course.{is_loss}
use Rattle.rs_inventory.specs.declared.finding.Finding.{Finding}
use Rattle.rs_inventory.specs.declared.finding.Note.{Note}
use Rattle.rs_inventory.specs.declared.unnamed.UnnamedLoss.{UnnamedLoss}

-- the loss in a record of a time, if it is one without an address
abbrev pub unnamed_by : ℕ → Option Note → Option UnnamedLoss
unnamed_by time None = None
unnamed_by time (Some note) =
    if (note.peer.address == 0) && is_loss note.news then Some (record { time = time; asn = note.peer.asn }) else None

-- these losses in all records, in order
abbrev pub unnamed_of : List Finding → List UnnamedLoss
unnamed_of findings = filter_map (λ f. unnamed_by f.time f.note) findings
