-- What a schedule does to the two counts of one peer, whatever its changes are.
use Rattle.std.specs.Prelude.{ℕ, ◌+◌, ◌-◌, ◌&&◌, ◌==◌, nat_lt, if◌then◌else◌, List, fold}
use Rattle.rs_floor.specs.declared.counts.Counts.{Counts}
use Rattle.rs_floor.specs.declared.turn.Turn.{Turn}
use Rattle.rs_floor.specs.declared.turn.Turn.TheVariants.{Send, Receive}

-- no change was sent, and none was received
abbrev pub at_start : Counts
at_start = record { sent = 0; received = 0 }

-- The counts after a send, for a peer with so many changes. One more is sent if one is left, and fewer than the
-- capacity wait.
abbrev pub after_send : ℕ → ℕ → Counts → Counts
after_send capacity total counts =
    if nat_lt counts.sent total && nat_lt (counts.sent - counts.received) capacity
    then record counts { sent = counts.sent + 1 } else counts

-- the counts after a receipt: if a change waits, one more is received
abbrev pub after_receive : Counts → Counts
after_receive counts =
    if nat_lt counts.received counts.sent then record counts { received = counts.received + 1 } else counts

-- the counts of one peer after a turn; turns of other peers change nothing
abbrev pub after_turn : ℕ → ℕ → ℕ → Counts → Turn → Counts
after_turn capacity total peer counts (Send other) = if other == peer then after_send capacity total counts else counts
after_turn capacity total peer counts (Receive other) = if other == peer then after_receive counts else counts

-- the counts of one peer after several turns
abbrev pub after_turns : ℕ → ℕ → ℕ → Counts → List Turn → Counts
after_turns capacity total peer counts turns = fold (after_turn capacity total peer) counts turns
