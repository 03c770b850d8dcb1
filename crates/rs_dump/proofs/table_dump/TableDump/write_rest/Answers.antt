use Rattle.std.proofs.Common.{◌≡◌, ◌∙◌, [], List, ℕ, ap, sym, subst, arith, length}
use Rattle.std.proofs.lemmas.List.{append-nil}
use Rattle.rs_mrt.specs.Stream.{AppendsBeginning}
use Rattle.rs_dump.specs.TableDump.{ToWrite}
use Rattle.rs_dump.proofs.TurnLemmas.{nothing-left}
use Rattle.rs_dump.proofs.UnderWayLemmas.{OnErr-always, OnErr-then, AppendsBeginning-part, IsUnderWay-then}
use Rattle.rs_dump.proofs.table_dump.TableDump.write_rest.Goals as goal

pub returns-in_err-some-clause-err : goal.returns-in_err-some-clause-err
returns-in_err-some-clause-err g c =
    let taken = g.W.Write.taken in
    let octets = c.args.self.now.octets in
    OnErr-always c.from_residual.result (AppendsBeginning-part (taken c.args.out.now) (taken c.loop-some.out) (taken c.write_turn.new.out)
    c.loop-some.self.octets octets [] octets
    c.loop-some.invariant.under_way c.in_err-some.ensures.err (sym (append-nil octets)))

pub loop-some-preserved : goal.loop-some-preserved
loop-some-preserved g c =
    let taken = g.W.Write.taken in
    record {
      under_way = IsUnderWay-then (taken c.args.out.now) (taken c.loop-some.out) (taken c.write_turn.new.out)
          c.loop-some.self.octets c.write_turn.new.self.octets c.args.self.now.octets
          c.loop-some.invariant.under_way c.in_ok-some.ensures.ok;
      failures = c.in_ok-some.ensures.ok_failures ∙ c.loop-some.invariant.failures;
      label = c.write_turn.ensures.label ∙ c.loop-some.invariant.label;
      rows = c.in_ok-some.ensures.rows ∙ c.loop-some.invariant.rows;
      none = c.in_ok-some.ensures.none;
    }

pub returns-clause-err : goal.returns-clause-err
returns-clause-err g c =
    let taken = g.W.Write.taken in
    let fields = c.self.inside in
    let octets = c.args.self.now.octets in
    let none : length fields.rows ≡ 0 =
    omega (arith, ap (λ (view : ToWrite). view.rows) c.self.view_is, c.loop-some.invariant.none c.loop-some-test.false) in
    let waiting : c.deref.result.now ≡ c.loop-some.self.octets =
    c.deref.ensures.value ∙ sym (nothing-left fields.time fields.spelled fields.rows fields.buffer.items none)
    ∙ ap (λ (view : ToWrite). view.octets) c.self.view_is in
    let P : List ℕ → Type 0 = λ piece. AppendsBeginning (taken c.loop-some.out) (taken c.write_all.new.out) piece in
    OnErr-then c.write_all.result (λ part. AppendsBeginning-part (taken c.args.out.now) (taken c.loop-some.out) (taken c.write_all.new.out)
    c.loop-some.self.octets octets [] octets
    c.loop-some.invariant.under_way (subst P waiting part) (sym (append-nil octets))) c.write_all.ensures.err
