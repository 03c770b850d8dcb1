-- One thing more happens: the tables take it, and what the client gets is noted.
use Rattle.std.proofs.Common.{◌≡◌, ◌∙◌, ℕ, ap, sym, subst, length, Option, List, [], ◌∷◌, ◌++◌}
use Rattle.std.specs.Option.{option_to_list}
use Rattle.std.proofs.lemmas.Iterator.Adapters.{YieldsList-from_vec}
use Rattle.std.proofs.lemmas.Iterator.Consumers.{YieldsList-end}
use Rattle.std.proofs.lemmas.List.{map-id}
use Rattle.rs_update.specs.IpPrefix.{IpPrefix}
use Rattle.rs_glass.specs.Histories.{GetsContent, Notes, all_gets, gets_after, gets_by, is_open, tables_after}
use Rattle.rs_glass.specs.declared.happened.Happening.{Happening}
use Rattle.rs_glass.proofs.HistoryLemmas.{all_gets-more, gets-step, notes-more, notes-nothing, tables-fresh, tables-step}
use Rattle.rs_glass.proofs.history.fill_history.Goals as goal

pub loop-happening-init : goal.loop-happening-init
loop-happening-init c = record {
  tables = tables-fresh c.args.plan.now.value c.in_ok-tables.tables (c.in_ok-tables.ensures.plan ∙ c.in_ok-clone.ensures.cases)
      (c.in_ok-tables.ensures.count ∙ ap (λ plan. length plan.peers) c.in_ok-clone.ensures.cases) c.in_ok-tables.ensures.empty;
  notes = notes-nothing c.args.asked;
}

pub loop-happening-preserved : goal.loop-happening-preserved
loop-happening-preserved c =
    let plan = c.args.plan.now.value in
    let asked = c.args.asked in
    let before = c.loop-happening.yielded in
    let one = c.in-Some.happening in
    let is = c.loop-happening.invariant.tables in
    let so_far = c.loop-happening.invariant.notes in
    let tables : c.go_on.new.tables ≡ tables_after plan (before ++ one ∷ []) =
    tables-step plan before one c.loop-happening.tables c.go_on.new.tables is c.in_ok-go_on.ensures.takes in
    let gets : gets_by (is_open c.loop-happening.tables one.peer)
    c.go_on.new.tables c.loop-happening.history.client c.loop-happening.history.prefix one
    ≡ gets_after plan asked.client asked.prefix before one =
    ap (λ (client : Option ℕ). gets_by (is_open c.loop-happening.tables one.peer)
    c.go_on.new.tables client c.loop-happening.history.prefix one) so_far.client
    ∙ ap (λ (prefix : IpPrefix). gets_by (is_open c.loop-happening.tables one.peer) c.go_on.new.tables asked.client prefix one)
    so_far.prefix
    ∙ gets-step plan asked.client asked.prefix before one c.loop-happening.tables c.go_on.new.tables is tables in
    let noted : Notes c.loop-happening.history (option_to_list (gets_after plan asked.client asked.prefix before one)) c.go_on.new.history =
    subst (λ (found : Option GetsContent). Notes c.loop-happening.history (option_to_list found) c.go_on.new.history)
    gets c.in_ok-go_on.ensures.notes in
    let more = notes-more asked c.loop-happening.history c.go_on.new.history (all_gets plan asked.client asked.prefix before)
    (option_to_list (gets_after plan asked.client asked.prefix before one)) so_far noted in
    record {
      tables = tables;
      notes = subst (λ (all : List GetsContent). Notes asked all c.go_on.new.history)
          (sym (all_gets-more plan asked.client asked.prefix before one)) more;
    }

pub returns : goal.returns
returns c =
    let gives = c.into_iter-happening-iterator.ensures.into_iter_gives in
    let whole = YieldsList-end (YieldsList-from_vec c.args.happenings.items gives.0 (gives.1 ∙ c.args.happenings.ok.0))
    c.loop-happening.yielded c.loop-happening.happening-iterator c.loop-happening.yielded_by c.next.result c.next.new.self c.in-None.is
    c.next.ensures.steps in
    let all : c.loop-happening.yielded ≡ c.args.happenings.items = sym (map-id c.loop-happening.yielded) ∙ whole.0 in
    subst (λ (happenings : List Happening). Notes c.args.asked
    (all_gets c.args.plan.now.value c.args.asked.client c.args.asked.prefix happenings) c.loop-happening.history)
    all c.loop-happening.invariant.notes
