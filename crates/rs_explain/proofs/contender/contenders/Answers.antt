-- One peer more: its route is a candidate, or not.
use Rattle.std.proofs.Common.{◌≡◌, ◌++◌, ◌∷◌, [], ◌<◌, ◌≤◌, sym, arith, length, refl}
use Rattle.std.specs.Prelude.{None, Some}
use Rattle.std.proofs.lemmas.List.Elements.{All-push}
use Rattle.rs_explain.specs.Contenders.{contender_from, HasOwnAddress}
use Rattle.rs_explain.proofs.ContenderLemmas.{all_below, next_below, next_has, same_below, same_has}
use Rattle.rs_explain.proofs.contender.contenders.Goals as goal
use Rattle.rs_explain.proofs.contender.contenders.Goals.{in-Some+in_ok-push, in_default}

pub loop-peer-preserved : goal.loop-peer-preserved
loop-peer-preserved c =
    let tables = c.args.tables.now in
    let client = c.args.client in
    let prefix = c.args.on.now.prefix in
    let peer = c.loop-peer.peer in
    let items = c.loop-peer.all.items in
    let so_far = c.loop-peer.invariant in
    let within : peer < length tables.ribs = omega (arith, c.count-peer-end.ensures.ribs) in
    elim c.match-candidate_on.branch [
      | in-Some+in_ok-push w ↦
          let one = w.in-Some.one in
          let found : contender_from tables client prefix peer ≡ Some one = sym w.in-Some.ensures.value in
          let grown : c.match-candidate_on.all.items ≡ items ++ one ∷ [] = rw w.all-is w.in_ok-push.ensures.items in
          record {
            listed = rw grown (next_below tables client prefix items peer one within found so_far.listed);
            addresses = rw grown (All-push (HasOwnAddress tables.plan) items one so_far.addresses w.in-Some.ensures.address);
            has = rw grown (next_has tables client prefix items peer one found so_far.has);
          }
      | in_default w ↦
          let none : contender_from tables client prefix peer ≡ None = sym w.in_default.ensures.value in
          let same : c.match-candidate_on.all.items ≡ items = rw w.all-is refl in
          record {
            listed = rw same (same_below tables client prefix items peer within none so_far.listed);
            addresses = rw same so_far.addresses;
            has = rw same (same_has tables client prefix items peer none so_far.has);
          }
    ]

pub returns : goal.returns
returns c =
    let tables = c.args.tables.now in
    let peer = c.loop-peer.peer in
    let so_far = c.loop-peer.invariant in
    let end : length tables.ribs ≤ peer = omega (arith, c.loop-peer-test.false, c.count-peer-end.ensures.ribs) in
    record {
      value = all_below tables c.args.client c.args.on.now.prefix c.loop-peer.all.items peer end so_far.listed;
      addresses = so_far.addresses;
      has = λ one known. so_far.has one (omega (arith, known, c.loop-peer-test.false, c.count-peer-end.ensures.peers));
    }
