-- The path is that of a file of the peer's recording.
use Rattle.std.proofs.Common.{rules, inl, sym}
use Rattle.rs_host.proofs.reached.unread_at.Goals as goal

pub returns : goal.returns
returns c =
    let (place, is) = c.path_at.ensures in
    inl (c.in-Some.recording, search rules, (place, rw (sym is) c.by_path.ensures))
