-- All is well, and the parts are made one.
use Rattle.std.proofs.Common.{◌∙◌, sym, ap, length, map}
use Rattle.std.proofs.lemmas.List.{length-map}
use Rattle.rs_serve.specs.Run.{end_of}
use Rattle.rs_serve.proofs.serving.SettleLemmas.{all-well, answer-refused, judge-refuses, merged-counted}
use Rattle.rs_serve.proofs.serving.settle.Goals as goal

pub merge-requires-clause-parts : goal.merge-requires-clause-parts
merge-requires-clause-parts c = (c.requires (all-well c.deref.result.now c.args.ran.whole c.in_ok-judge.ensures).0).parts_are

pub merge-requires-clause-some : goal.merge-requires-clause-some
merge-requires-clause-some c = (c.requires (all-well c.deref.result.now c.args.ran.whole c.in_ok-judge.ensures).0).some

pub new-requires : goal.new-requires
new-requires c =
    ap length (c.in_ok-ends.ensures ∙ ap (map end_of) c.deref-2.ensures.value) ∙ length-map c.args.ran.ends.items end_of
    ∙ sym (merged-counted (length c.args.ran.ends.items) c.args.ran.parts.items c.in_ok-tables.tables
    (c.requires (all-well c.deref.result.now c.args.ran.whole c.in_ok-judge.ensures).0) c.in_ok-tables.ensures)

pub returns-clause-served : goal.returns-clause-served
returns-clause-served c =
    rw c.new.ensures (record {
      whole_is = (all-well c.deref.result.now c.args.ran.whole c.in_ok-judge.ensures).0;
      well = rw c.deref.ensures.value at (all-well c.deref.result.now c.args.ran.whole c.in_ok-judge.ensures).1;
      ends_are = c.in_ok-ends.ensures ∙ ap (map end_of) c.deref-2.ensures.value;
      merged = c.in_ok-tables.ensures;
      one_for_each = sym c.count-peers.ensures.ribs ∙ c.count-peers.ensures.peers;
    })

pub returns-in_err-judge-clause-refused : goal.returns-in_err-judge-clause-refused
returns-in_err-judge-clause-refused c =
    rw c.deref.ensures.value at (judge-refuses c.deref.result.now c.args.ran.whole c.in_err-judge.field-0.0 c.from_residual.result
    c.from_residual.ensures.1 c.in_err-judge.ensures)

pub returns-in_err-ends-clause-refused : goal.returns-in_err-ends-clause-refused
returns-in_err-ends-clause-refused c =
    rw c.deref.ensures.value at (answer-refused c.deref.result.now c.args.ran.whole c.from_residual-in_err-ends.result
    c.from_residual-in_err-ends.ensures.1 (all-well c.deref.result.now c.args.ran.whole c.in_ok-judge.ensures))

pub returns-in_err-tables-clause-refused : goal.returns-in_err-tables-clause-refused
returns-in_err-tables-clause-refused c =
    rw c.deref.ensures.value at (answer-refused c.deref.result.now c.args.ran.whole c.from_residual-in_err-tables.result
    c.from_residual-in_err-tables.ensures.1 (all-well c.deref.result.now c.args.ran.whole c.in_ok-judge.ensures))
