-- One recording more, of the peer whose place its source has.
use Rattle.std.proofs.Common.{◌≡◌, ◌+◌, ℕ, [], ◌∷◌, ◌++◌, Some, length, length-append, ◌∙◌, sym, ap, arith, rules}
use Rattle.std.specs.Prelude.{slice_get}
use Rattle.std.proofs.lemmas.Grind.{common_steps}
use Rattle.std.proofs.lemmas.Iterator.Adapters.{YieldsList-from_vec}
use Rattle.std.proofs.lemmas.Iterator.Consumers.{YieldsList-at, YieldsList-from_enumerate, YieldsList-turn, YieldsList-end}
use Rattle.std.proofs.lemmas.List.FromFn.{length-enumerate_from}
use Rattle.rs_choice.specs.Plan.{Peer}
use Rattle.rs_glass.proofs.ListLemmas.{at-enumerated_from}
use Rattle.rs_glass.proofs.RecordingLemmas.{recorded-more, recorded-none}
use Rattle.rs_glass.proofs.recording.recordings.Goals as goal

pub loop-peer-init : goal.loop-peer-init
loop-peer-init g c = record {
  as_many = grind (arith, common_steps);
  each = rw c.in_ok-all.ensures.items (recorded-none c.args.plan.now c.args.sources.items);
}

pub loop-peer-preserved : goal.loop-peer-preserved
loop-peer-preserved g c =
    let all = YieldsList-at c.into_iter-peer-iterator.ensures.into_iter_gives
    (YieldsList-from_enumerate (YieldsList-at c.enumerate-peer-items.ensures.source
    (YieldsList-from_vec c.args.sources.items c.into_iter.ensures.rest (c.into_iter.ensures.len ∙ c.args.sources.ok.0)))
    c.enumerate-peer-items.ensures.count) in
    let t = YieldsList-turn all c.loop-peer.yielded c.loop-peer.peer-iterator c.loop-peer.yielded_by c.next.result c.next.new.self
    (c.in-Some.peer, c.in-Some.source) c.in-Some.is c.next.ensures.steps in
    let at = at-enumerated_from 0 c.args.sources.items (length c.loop-peer.yielded) (c.in-Some.peer, c.in-Some.source) t.0 t.1 in
    let here : c.in-Some.peer ≡ length c.loop-peer.yielded = omega (arith, at.0) in
    let id = c.recording_of-one.ensures.id in
    let spec : Peer = id.0 in
    let peer : slice_get c.args.plan.now.peers (length c.loop-peer.yielded) ≡ Some spec = rw here at id.1 in
    let r = c.loop-peer.invariant in
    let grown : length (c.loop-peer.yielded ++ (c.in-Some.peer, c.in-Some.source) ∷ []) ≡ length c.loop-peer.yielded + 1 =
    length-append c.loop-peer.yielded ((c.in-Some.peer, c.in-Some.source) ∷ []) in
    let one = c.recording_of-one.result in
    let pushed : c.push.new.self.items ≡ c.loop-peer.all.items ++ one ∷ [] = search rules in
    let stands : slice_get c.args.sources.items (length c.loop-peer.yielded) ≡ Some one.source =
    at.1 ∙ ap Some (sym c.recording_of-one.ensures.source) in
    rw pushed (record {
      as_many = length-append c.loop-peer.all.items (one ∷ []) ∙ ap (λ (n : ℕ). n + 1) r.as_many ∙ sym grown;
      each = recorded-more c.args.plan.now c.args.sources.items c.loop-peer.all.items one (length c.loop-peer.yielded) r.each r.as_many
          (record { number_is = c.recording_of-one.ensures.number ∙ here; peer = spec; peer_is = peer; id_is = id.2; source_is = stands });
    })

pub returns-clause-as_many : goal.returns-clause-as_many
returns-clause-as_many g c =
    let all = YieldsList-at c.into_iter-peer-iterator.ensures.into_iter_gives
    (YieldsList-from_enumerate (YieldsList-at c.enumerate-peer-items.ensures.source
    (YieldsList-from_vec c.args.sources.items c.into_iter.ensures.rest (c.into_iter.ensures.len ∙ c.args.sources.ok.0)))
    c.enumerate-peer-items.ensures.count) in
    let t = YieldsList-end all c.loop-peer.yielded c.loop-peer.peer-iterator c.loop-peer.yielded_by c.next.result c.next.new.self
    c.in-None.is c.next.ensures.steps in
    c.loop-peer.invariant.as_many ∙ t.1 ∙ length-enumerate_from 0 c.args.sources.items
