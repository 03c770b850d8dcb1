-- A loss, and a close for a fault, ends all of a peer's routes.
use Rattle.std.proofs.Common.{◌≡◌, refl, sym, get_or, cond, true, false, rules, Option, Some, None}
use Rattle.std.proofs.lemmas.Result.{on_ok_weaker}
use Rattle.rs_types.specs.IpPrefix.{IpPrefix}
use Rattle.rs_types.specs.PrefixOrder.{same_prefix}
use Rattle.rs_change.specs.Change.{change_of}
use Rattle.rs_change.specs.declared.word.Reason.{Reason}
use Rattle.rs_change.specs.declared.word.Reason.TheVariants as reasons
use Rattle.rs_table.specs.Left.{RouteLeft, reason_drops}
use Rattle.rs_table.specs.Gathered.{left_after, entry_route, IsAdded}
use Rattle.rs_table.specs.Logged.{Logged}
use Rattle.rs_table.proofs.gathering.GatheredLemmas.{entered, idle, lost, on_err-always}
use Rattle.rs_table.proofs.gathering.take_in.Goals as goal

pub returns-in-Down-clause-routes : goal.returns-in-Down-clause-routes
returns-in-Down-clause-routes c =
    let ends : (q : IpPrefix) (before : Option RouteLeft) → left_after (change_of c.args.word) q before ≡ None =
    λ q before. rw c.in-Down.is refl in
    lost c.args.losses.now c.args.peer c.lose.new.losses (change_of c.args.word) ends c.args.logs.now c.lose.new.logs
    c.lose.ensures.routes

drops : (reason : Reason) → (reason ≡ reasons.EndOfFile → true ≡ false) → reason_drops reason ≡ true
drops reasons.EndOfFile apart = sym (apart refl)
drops (reasons.Bgp code subcode) apart = refl
drops (reasons.Mrt fault) apart = refl
drops reasons.Memory apart = refl
drops reasons.Read apart = refl

pub returns-then-ne-clause-routes : goal.returns-then-ne-clause-routes
returns-then-ne-clause-routes c =
    let reason : Reason = c.in-Close.reason in
    let other : reason ≡ reasons.EndOfFile → true ≡ false = λ same. search rules in
    let falls : reason_drops reason ≡ true = drops reason other in
    let ends : (q : IpPrefix) (before : Option RouteLeft) → left_after (change_of c.args.word) q before ≡ None =
    λ q before. rw (c.in-Close.is, falls) refl in
    lost c.args.losses.now c.args.peer c.lose-then-ne.new.losses (change_of c.args.word) ends c.args.logs.now c.lose-then-ne.new.logs
    c.lose-then-ne.ensures.routes

pub returns-in-Announce-clause-routes : goal.returns-in-Announce-clause-routes
returns-in-Announce-clause-routes c =
    let losses = c.args.losses.now in
    let entry : Logged = record {
      prefix = c.in-Announce.prefix;
      time = c.args.word.time;
      losses = get_or losses c.args.peer 0;
      peer = c.args.peer;
      attributes = Some c.in-Announce.attributes.value;
    } in
    let makes : (q : IpPrefix) (before : Option RouteLeft) → left_after (change_of c.args.word) q before
    ≡ cond (same_prefix q entry.prefix) (entry_route entry) before =
    λ q before. rw c.in-Announce.is refl in
    on_ok_weaker c.enter.result (λ (is_added : IsAdded losses entry c.args.logs.now c.enter.new.logs).
    entered losses entry (change_of c.args.word) c.args.logs.now c.enter.new.logs c.requires.known.0 refl makes is_added)
    c.enter.ensures.routes

pub returns-in-Withdraw-clause-routes : goal.returns-in-Withdraw-clause-routes
returns-in-Withdraw-clause-routes c =
    let losses = c.args.losses.now in
    let entry : Logged = record {
      prefix = c.in-Withdraw.prefix;
      time = c.args.word.time;
      losses = get_or losses c.args.peer 0;
      peer = c.args.peer;
      attributes = None;
    } in
    let makes : (q : IpPrefix) (before : Option RouteLeft) → left_after (change_of c.args.word) q before
    ≡ cond (same_prefix q entry.prefix) (entry_route entry) before =
    λ q before. rw c.in-Withdraw.is refl in
    on_ok_weaker c.enter-in-Withdraw.result (λ (is_added : IsAdded losses entry c.args.logs.now c.enter-in-Withdraw.new.logs).
    entered losses entry (change_of c.args.word) c.args.logs.now c.enter-in-Withdraw.new.logs c.requires.known.0 refl makes is_added)
    c.enter-in-Withdraw.ensures.routes

pub returns-else-ne-clause-routes : goal.returns-else-ne-clause-routes
returns-else-ne-clause-routes c =
    let reason : Reason = c.in-Close.reason in
    let end : reason ≡ reasons.EndOfFile = search rules in
    let stays : (q : IpPrefix) (before : Option RouteLeft) → left_after (change_of c.args.word) q before ≡ before =
    λ q before. rw (c.in-Close.is, end) refl in
    idle c.args.losses.now c.args.peer (change_of c.args.word) c.args.logs.now stays

pub returns-in-Announce-clause-refused : goal.returns-in-Announce-clause-refused
returns-in-Announce-clause-refused c = rw c.in-Announce.is (on_err-always c.enter.result refl)

pub returns-in-Withdraw-clause-refused : goal.returns-in-Withdraw-clause-refused
returns-in-Withdraw-clause-refused c = rw c.in-Withdraw.is (on_err-always c.enter-in-Withdraw.result refl)
