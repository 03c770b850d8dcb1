-- The answer is one search, so that a wrong body is refused soon.
use Rattle.std.proofs.Common.{rules}
use Rattle.rs_inventory.proofs.peer.PeerRecords.take_session.Goals as goal

pub returns-in-Notification : goal.returns-in-Notification
returns-in-Notification c = search rules
