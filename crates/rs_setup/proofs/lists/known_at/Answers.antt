use Rattle.std.proofs.Common.{◌∙◌, sym}
use Rattle.std.proofs.lemmas.Slice.Eq.{bytes_eq-Decides}
use Rattle.rs_setup.proofs.lists.known_at.Goals as goal

pub returns-then-eq : goal.returns-then-eq
returns-then-eq g c = (
  c.one-item.result,
  (c.loop-one.one-index, c.loop-one-test.true, sym c.one-item.is),
  sym c.as_str.ensures.value ∙ (bytes_eq-Decides c.as_str.result.now c.args.path.now).0 (sym c.if-eq.ensures),
  sym c.in_ok-clone.ensures.cases,
)
