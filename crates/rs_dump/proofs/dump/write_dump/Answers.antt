use Rattle.std.proofs.Common.{◌≡◌, ◌++◌, ◌∙◌, [], List, ℕ, map, ap, sym, subst}
use Rattle.std.specs.Io.KnownBytes.{Appends}
use Rattle.std.proofs.lemmas.List.{append-nil}
use Rattle.rs_mrt.specs.Stream.{AppendsBeginning}
use Rattle.rs_table.specs.RouteView.{row_of}
use Rattle.rs_dump.specs.Dump.{dumped, spelled_rows}
use Rattle.rs_dump.proofs.DumpLemmas.{dumped-rows}
use Rattle.rs_dump.proofs.UnderWayLemmas.{Appends-whole, AppendsBeginning-part}
use Rattle.rs_dump.proofs.dump.write_dump.Goals as goal

pub returns-in_err-add_rows-clause-failed : goal.returns-in_err-add_rows-clause-failed
returns-in_err-add_rows-clause-failed g c =
    let taken = g.W.Write.taken in
    let rows = map row_of c.args.rows.now in
    let octets = spelled_rows c.args.time 0 rows in
    let P : List ℕ → Type 0 = λ all. AppendsBeginning (taken c.args.out.now) (taken c.add_rows.new.out) all in
    λ _. subst P (ap (λ first. first ++ octets) c.in_ok-buffer.ensures.begun
    ∙ sym (dumped-rows c.args.plan.now c.args.client rows c.args.time)) c.in_err-add_rows.ensures.err

pub returns-in_err-write_all-clause-failed : goal.returns-in_err-write_all-clause-failed
returns-in_err-write_all-clause-failed g c =
    let taken = g.W.Write.taken in
    let rows = map row_of c.args.rows.now in
    let octets = spelled_rows c.args.time 0 rows in
    let waited = c.in_ok-buffer.buffer.items in
    let all = dumped c.args.plan.now c.args.client rows c.args.time in
    let is : all ≡ waited ++ octets ++ [] =
    dumped-rows c.args.plan.now c.args.client rows c.args.time ∙ ap (λ first. first ++ octets) (sym c.in_ok-buffer.ensures.begun)
    ∙ sym (append-nil (waited ++ octets)) in
    let P : List ℕ → Type 0 = λ piece. AppendsBeginning (taken c.add_rows.new.out) (taken c.write_all.new.out) piece in
    λ _. AppendsBeginning-part (taken c.args.out.now) (taken c.add_rows.new.out) (taken c.write_all.new.out) c.add_rows.new.buffer.items
    (waited ++ octets) [] all c.in_ok-add_rows.ensures.ok (subst P c.deref.ensures.value c.in_err-write_all.ensures.err) is

pub returns-clause-written : goal.returns-clause-written
returns-clause-written g c =
    let taken = g.W.Write.taken in
    let rows = map row_of c.args.rows.now in
    let octets = spelled_rows c.args.time 0 rows in
    let waited = c.in_ok-buffer.buffer.items in
    let P : List ℕ → Type 0 = λ piece. Appends (taken c.add_rows.new.out) (taken c.write_all.new.out) piece in
    let Q : List ℕ → Type 0 = λ all. Appends (taken c.args.out.now) (taken c.write_all.new.out) all in
    subst Q (ap (λ first. first ++ octets) c.in_ok-buffer.ensures.begun ∙ sym (dumped-rows c.args.plan.now c.args.client rows c.args.time))
    (Appends-whole (taken c.args.out.now) (taken c.add_rows.new.out) (taken c.write_all.new.out) c.add_rows.new.buffer.items
    (waited ++ octets) c.in_ok-add_rows.ensures.ok (subst P c.deref.ensures.value c.in_ok-write_all.ensures.ok))
