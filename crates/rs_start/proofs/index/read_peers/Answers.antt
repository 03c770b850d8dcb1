use Rattle.std.proofs.Common.{◌∷◌, [], ◌++◌, ◌≡◌, ◌+◌, length, length-append, arith, sym}
use Rattle.rs_start.specs.Table.{peer_at}
use Rattle.rs_start.proofs.TableLemmas.{leads_more}
use Rattle.rs_start.proofs.index.read_peers.Goals as goal

pub loop-place-preserved : goal.loop-place-preserved
loop-place-preserved c =
    let items = c.loop-place.peers.items in
    let peer = c.in-Some.split.0 in
    let more = leads_more peer_at c.args.octets.now items c.loop-place.rest.now c.in-Some.split.1.now peer c.loop-place.invariant.1
    (sym c.in-Some.ensures.value) in
    let count : length (items ++ peer ∷ []) ≡ c.loop-place._place + 1 =
    omega (arith, length-append items (peer ∷ []), c.loop-place.invariant.0) in
    rw c.in_ok-push.ensures.items (count, more)
