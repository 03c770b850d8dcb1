-- One more peer, whose routes in the tables are those that were read of it.
use Rattle.std.proofs.Common.{◌≡◌, ◌≢◌, ◌+◌, ℕ, [], ◌∷◌, ◌++◌, Some, Ok, Err, length, length-append, sym, ap, subst, ◌∙◌, arith, rules}
use Rattle.std.proofs.lemmas.Grind.{common_steps}
use Rattle.std.specs.Prelude.{slice_get}
use Rattle.std.proofs.lemmas.Iterator.Adapters.{YieldsList-from_vec}
use Rattle.std.proofs.lemmas.Iterator.Consumers.{YieldsList-at, YieldsList-from_enumerate, YieldsList-turn, YieldsList-end}
use Rattle.std.proofs.lemmas.List.FromFn.{length-enumerate_from}
use Rattle.std.proofs.lemmas.Result.{err_from_is_err_and}
use Rattle.rs_table.specs.Content.{rib_of}
use Rattle.rs_glass.specs.Heard.{AreHeard}
use Rattle.rs_glass.proofs.ListLemmas.{at-enumerated_from}
use Rattle.rs_glass.proofs.RecordingLemmas.{fault-heard, heard-more, heard-none}
use Rattle.rs_glass.proofs.reading.gather.Goals as goal

pub loop-peer-init : goal.loop-peer-init
loop-peer-init c = record {
  plan = search rules;
  untouched = search rules;
  as_many = grind (arith, common_steps);
  heard = heard-none c.args.all.items c.in_ok-tables.tables c.in_ok-said.said.items;
}

pub loop-peer-preserved : goal.loop-peer-preserved
loop-peer-preserved c =
    let all = YieldsList-at c.into_iter-peer-iterator.ensures.into_iter_gives
    (YieldsList-from_enumerate (YieldsList-at c.enumerate-peer-items.ensures.source
    (YieldsList-from_vec c.args.all.items c.into_iter.ensures.rest (c.into_iter.ensures.len ∙ c.args.all.ok.0)))
    c.enumerate-peer-items.ensures.count) in
    let t = YieldsList-turn all c.loop-peer.yielded c.loop-peer.peer-iterator c.loop-peer.yielded_by c.next.result c.next.new.self
    (c.in-Some.peer, c.in-Some.one) c.in-Some.is c.next.ensures.steps in
    let at = at-enumerated_from 0 c.args.all.items (length c.loop-peer.yielded) (c.in-Some.peer, c.in-Some.one) t.0 t.1 in
    let here : c.in-Some.peer ≡ length c.loop-peer.yielded = omega (arith, at.0) in
    let heard = c.in_ok-heard.heard in
    let at_heard : slice_get c.args.all.items (length c.loop-peer.yielded) ≡ Some (Ok heard) = at.1 ∙ ap Some c.in_ok-heard.was in
    let r = c.loop-peer.invariant in
    let grown : length (c.loop-peer.yielded ++ (c.in-Some.peer, c.in-Some.one) ∷ []) ≡ length c.loop-peer.yielded + 1 =
    length-append c.loop-peer.yielded ((c.in-Some.peer, c.in-Some.one) ∷ []) in
    let pushed : c.push.new.self.items ≡ c.loop-peer.said.items ++ heard.said ∷ [] = search rules in
    let others = λ (other : ℕ) (apart : other ≢ length c.loop-peer.yielded). c.in_ok-put_into.ensures.others other
    (λ same. apart (same ∙ here)) in
    let routes = subst (λ (n : ℕ). (rib_of c.put_into.new.tables n).routes ≡ heard.routes) here c.in_ok-put_into.ensures.routes in
    let more = heard-more c.args.all.items (length c.loop-peer.yielded)
    c.loop-peer.tables c.put_into.new.tables c.loop-peer.said.items heard r.heard r.as_many at_heard routes others in
    record {
      plan = c.in_ok-put_into.ensures.plan ∙ r.plan;
      untouched = λ number past. others number (λ same. omega (arith, past, same, grown)) ∙ r.untouched number (omega (arith, past, grown));
      as_many = ap length pushed ∙ length-append c.loop-peer.said.items (heard.said ∷ []) ∙ ap (λ (n : ℕ). n + 1) r.as_many ∙ sym grown;
      heard = rw (grown, pushed) more;
    }

pub returns-clause-as_many : goal.returns-clause-as_many
returns-clause-as_many c =
    let all = YieldsList-at c.into_iter-peer-iterator.ensures.into_iter_gives
    (YieldsList-from_enumerate (YieldsList-at c.enumerate-peer-items.ensures.source
    (YieldsList-from_vec c.args.all.items c.into_iter.ensures.rest (c.into_iter.ensures.len ∙ c.args.all.ok.0)))
    c.enumerate-peer-items.ensures.count) in
    let t = YieldsList-end all c.loop-peer.yielded c.loop-peer.peer-iterator c.loop-peer.yielded_by c.next.result c.next.new.self
    c.in-None.is c.next.ensures.steps in
    c.loop-peer.invariant.as_many ∙ t.1 ∙ length-enumerate_from 0 c.args.all.items

pub returns-clause-heard : goal.returns-clause-heard
returns-clause-heard c =
    let all = YieldsList-at c.into_iter-peer-iterator.ensures.into_iter_gives
    (YieldsList-from_enumerate (YieldsList-at c.enumerate-peer-items.ensures.source
    (YieldsList-from_vec c.args.all.items c.into_iter.ensures.rest (c.into_iter.ensures.len ∙ c.args.all.ok.0)))
    c.enumerate-peer-items.ensures.count) in
    let t = YieldsList-end all c.loop-peer.yielded c.loop-peer.peer-iterator c.loop-peer.yielded_by c.next.result c.next.new.self
    c.in-None.is c.next.ensures.steps in
    let count : length c.loop-peer.yielded ≡ length c.args.all.items = t.1 ∙ length-enumerate_from 0 c.args.all.items in
    subst (λ (n : ℕ). AreHeard c.args.all.items n c.loop-peer.tables c.loop-peer.said.items) count c.loop-peer.invariant.heard

pub returns-in_err-heard-clause-fault : goal.returns-in_err-heard-clause-fault
returns-in_err-heard-clause-fault c =
    let all = YieldsList-at c.into_iter-peer-iterator.ensures.into_iter_gives
    (YieldsList-from_enumerate (YieldsList-at c.enumerate-peer-items.ensures.source
    (YieldsList-from_vec c.args.all.items c.into_iter.ensures.rest (c.into_iter.ensures.len ∙ c.args.all.ok.0)))
    c.enumerate-peer-items.ensures.count) in
    let t = YieldsList-turn all c.loop-peer.yielded c.loop-peer.peer-iterator c.loop-peer.yielded_by c.next.result c.next.new.self
    (c.in-Some.peer, c.in-Some.one) c.in-Some.is c.next.ensures.steps in
    let at = at-enumerated_from 0 c.args.all.items (length c.loop-peer.yielded) (c.in-Some.peer, c.in-Some.one) t.0 t.1 in
    let met : slice_get c.args.all.items (length c.loop-peer.yielded) ≡ Some (Err c.in_err-heard.field-0.0) =
    at.1 ∙ ap Some c.in_err-heard.was in
    let p = err_from_is_err_and c.from_residual-in_err-heard.result c.from_residual-in_err-heard.ensures.1 in
    rw (p.1, p.2) (fault-heard c.args.all.items (length c.loop-peer.yielded) c.in_err-heard.field-0.0 met)
