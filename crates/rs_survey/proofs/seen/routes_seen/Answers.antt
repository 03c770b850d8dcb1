use Rattle.std.proofs.Common.{◌≡◌, ◌∙◌, ◌+◌, ◌++◌, ◌∷◌, [], ◌<◌, ◌≤◌, ap, sym, subst, arith, drop, length, length-append, map, refl}
use Rattle.std.specs.Prelude.{None, Some, Option}
use Rattle.std.specs.List.{cons_option}
use Rattle.std.proofs.lemmas.List.Elements.{All-push}
use Rattle.rs_choice.specs.Decision.{SentRoute}
use Rattle.rs_choice.specs.Plan.{Plan}
use Rattle.rs_table.specs.Table.{route_from}
use Rattle.rs_survey.specs.declared.seen.Seen.{Seen}
use Rattle.rs_survey.specs.Seen.{IsFilteredOn, IsSeen, sent_of_seen}
use Rattle.rs_survey.proofs.SeenLemmas.{next_listed, routes_from, routes_from-more}
use Rattle.rs_survey.proofs.seen.routes_seen.Goals as goal
use Rattle.rs_survey.proofs.seen.routes_seen.Goals.{in-Some+in_ok-push, in_default}

pub loop-peer-preserved : goal.loop-peer-preserved
loop-peer-preserved c =
    let tables = c.args.tables.now in
    let prefix = c.args.on.now.prefix in
    let peer = c.loop-peer.peer in
    let items = c.loop-peer.seen.items in
    let within : peer < length tables.ribs = omega (arith, c.count-peer-end.ensures.ribs) in
    let known : peer < length tables.plan.peers = omega (arith, c.count-peer-end.ensures.peers) in
    let rest = routes_from prefix (peer + 1) (drop (peer + 1) tables.ribs) in
    let more : routes_from prefix peer (drop peer tables.ribs) ≡ cons_option (route_from tables prefix peer) rest =
    routes_from-more tables prefix peer within in
    elim c.match-route.branch [
      | in-Some+in_ok-push w ↦
          let one : Seen = w.route_seen.result in
          let found : Some (sent_of_seen one) ≡ route_from tables prefix peer =
          ap (λ (sent : SentRoute). Some sent) w.route_seen.ensures.route ∙ w.in-Some.ensures ∙ c.requires.routes peer known in
          let grown : c.match-route.seen.items ≡ items ++ one ∷ [] = rw w.seen-is w.in_ok-push.ensures.items in
          let len : length (items ++ one ∷ []) ≤ peer + 1 = omega (arith, length-append items (one ∷ []), c.loop-peer.invariant.bound) in
          record {
            listed = rw grown (next_listed sent_of_seen items _ rest _ one c.loop-peer.invariant.listed
                (more ∙ ap (λ (found : Option SentRoute). cons_option found rest) (sym found)));
            seen = rw grown (All-push (IsSeen tables.plan) items one c.loop-peer.invariant.seen
                (subst (λ (plan : Plan). IsSeen plan one) w.plan.ensures w.route_seen.ensures.seen));
            filtered = rw grown (All-push (IsFilteredOn tables.plan prefix) items one c.loop-peer.invariant.filtered
                (subst (λ (plan : Plan). IsFilteredOn plan prefix one) w.plan.ensures w.route_seen.ensures.filtered));
            bound = rw grown len;
          }
      | in_default w ↦
          let none : None ≡ route_from tables prefix peer = w.in_default.ensures ∙ c.requires.routes peer known in
          let same : c.match-route.seen.items ≡ items = rw w.seen-is refl in
          record {
            listed = rw same (ap (λ later. map sent_of_seen items ++ later)
                (sym (more ∙ ap (λ (found : Option SentRoute). cons_option found rest) (sym none))) ∙ c.loop-peer.invariant.listed);
            seen = rw same c.loop-peer.invariant.seen;
            filtered = rw same c.loop-peer.invariant.filtered;
            bound = rw same (omega (arith, c.loop-peer.invariant.bound));
          }
    ]
