-- The peers so far share the reading.
use Rattle.std.proofs.Common.{◌≡◌, take}
use Rattle.rs_share.specs.Sharing.{IsSharing}
use Rattle.rs_share.proofs.sharing.share.Given as goal

abbrev pub invariant-loop-place : goal.invariant-loop-place
invariant-loop-place g l =
    IsSharing g.S.Source.room l.shared.reader l.shared.taken.items (take l.place l.initial.peers)
    × (l.shared.reader.source ≡ l.initial.shared.reader.source)
