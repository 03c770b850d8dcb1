use Rattle.std.proofs.Common.{◌≤◌, List, ℕ, length, take, subst, arith, length-take-le, rules}
use Rattle.std.proofs.lemmas.Grind.{common_steps}
use Rattle.std.specs.List.{flat_map}
use Rattle.rs_choice.specs.Plan.{peer_of}
use Rattle.rs_records.specs.Buffer.{Gains}
use Rattle.rs_records.specs.PeerIndex.{peer_entry}
use Rattle.rs_records.proofs.BufferLemmas.{Gains-append}
use Rattle.rs_records.proofs.PeerLemmas.{peer_entries-more, length-peer_entries}
use Rattle.rs_records.proofs.peer_index.spell_peers.Goals as goal

pub spell_peer-requires : goal.spell_peer-requires
spell_peer-requires c =
    let peers = c.args.plan.now.peers in
    let number = c.loop-number.number in
    let within : number ≤ length peers = omega arith in
    omega (arith, length-peer_entries (take number peers), length-take-le number peers within, c.requires, c.loop-number.invariant.len)

pub loop-number-preserved : goal.loop-number-preserved
loop-number-preserved c =
    let peers = c.args.plan.now.peers in
    let number = c.loop-number.number in
    let peer = peer_of c.peer.result.now in
    let both = Gains-append c.args.buffer.now c.loop-number.buffer c.spell_peer.new.buffer (flat_map peer_entry (take number peers))
    (peer_entry peer) c.loop-number.invariant c.spell_peer.ensures in
    let P : List ℕ → Type 0 = λ octets. Gains c.args.buffer.now c.spell_peer.new.buffer octets in
    subst P (peer_entries-more peers number peer c.peer.ensures) both

pub loop-number-init : goal.loop-number-init
loop-number-init c = search rules

pub loop-number-smaller : goal.loop-number-smaller
loop-number-smaller c = search rules

pub returns : goal.returns
returns c = grind (arith, common_steps)
