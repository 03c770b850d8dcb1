-- One peer more is explained.
use Rattle.std.proofs.Common.{◌≡◌, ◌∷◌, ◌++◌, [], ℕ, ap, arith, length, length-append, rules, subst, sym}
use Rattle.std.proofs.lemmas.Grind.{common_steps}
use Rattle.rs_glass.specs.Explained.{AreExplained}
use Rattle.rs_glass.specs.declared.answers.Answer.{Answer}
use Rattle.rs_glass.proofs.ListLemmas.{explained-more, explained-none}
use Rattle.rs_glass.proofs.answers.explain_all.Goals as goal

pub loop-peer-init : goal.loop-peer-init
loop-peer-init c = record {
  as_many = grind (arith, common_steps);
  explained = explained-none c.args.reading.now.tables c.args.client c.args.question.now.prefix c.args.reading.now.said.items
      c.in_ok-peers.peers.items;
}

pub loop-peer-preserved : goal.loop-peer-preserved
loop-peer-preserved c =
    let tables = c.args.reading.now.tables in
    let items = c.loop-peer.peers.items in
    let one : Answer = record { explanation = c.in_ok-explanation.explanation; said = c.said_of-said.result } in
    let pushed : c.push.new.self.items ≡ items ++ one ∷ [] = search rules in
    record {
      as_many = omega (arith, ap length pushed, length-append items (one ∷ []), c.loop-peer.invariant.as_many);
      explained = rw pushed (explained-more tables c.args.client c.args.question.now.prefix c.args.reading.now.said.items c.loop-peer.peer
          items one c.loop-peer.invariant.explained c.loop-peer.invariant.as_many c.in_ok-explanation.ensures.explains
          c.said_of-said.ensures);
    }

pub returns-clause-explained : goal.returns-clause-explained
returns-clause-explained c =
    let tables = c.args.reading.now.tables in
    let items = c.loop-peer.peers.items in
    subst (λ (n : ℕ). AreExplained tables c.args.client c.args.question.now.prefix c.args.reading.now.said.items n items)
    (sym c.loop-peer.invariant.as_many) c.loop-peer.invariant.explained
