use Rattle.std.proofs.Common.{◌≡◌, None, ap, subst, sym, ◌∙◌}
use Rattle.rs_mrt.specs.Inflow.{GoesOn}
use Rattle.rs_mrt.specs.Places.{past_of}
use Rattle.rs_mrt.proofs.record_reader.AdvanceLemmas.{goes-advances, goes-limit, goes-room}
use Rattle.rs_mrt.proofs.record_reader.PlaceLemmas.{goes-next}
use Rattle.rs_mrt.proofs.record_reader.RecordReaderSource.advance.Goals as goal

pub returns-clause-records : goal.returns-clause-records
returns-clause-records g c =
    let R = g.R.Read in
    let asks : c.args.self.now.stopped ≡ None = sym (ap (λ r. r.stopped) c.self.view_is) ∙ c.in_default.is in
    goes-advances R.gives R.failures c.args.self.now c.go_on.new.self c.go_on.result asks
    (g.met.R.Read.may_come c.go_on.new.self.inflow.reader)
    (subst (λ r. GoesOn R.gives R.failures r c.go_on.new.self c.go_on.result) c.drop_shown.ensures c.go_on.ensures.goes_on)

pub returns-clause-room : goal.returns-clause-room
returns-clause-room g c =
    let R = g.R.Read in
    goes-room R.gives R.failures (record c.args.self.now { shown = None }) c.go_on.new.self c.go_on.result
    (subst (λ r. GoesOn R.gives R.failures r c.go_on.new.self c.go_on.result) c.drop_shown.ensures c.go_on.ensures.goes_on)

pub returns-clause-at_limit : goal.returns-clause-at_limit
returns-clause-at_limit g c =
    let R = g.R.Read in
    goes-limit R.gives R.failures (record c.args.self.now { shown = None }) c.go_on.new.self c.go_on.result
    (subst (λ r. GoesOn R.gives R.failures r c.go_on.new.self c.go_on.result) c.drop_shown.ensures c.go_on.ensures.goes_on)

pub returns-clause-next : goal.returns-clause-next
returns-clause-next g c = λ file before asks passed.
    let R = g.R.Read in
    goes-next R.gives R.failures file before c.args.self.now c.go_on.new.self c.go_on.result
    (g.met.R.Read.may_come c.go_on.new.self.inflow.reader)
    (subst (λ r. c.go_on.new.self.place ≡ past_of r) c.drop_shown.ensures c.go_on.ensures.place)
    passed
    (subst (λ r. GoesOn R.gives R.failures r c.go_on.new.self c.go_on.result) c.drop_shown.ensures c.go_on.ensures.goes_on)
