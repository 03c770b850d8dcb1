-- One peer more: its route is missing, or not.
use Rattle.std.proofs.Common.{◌≡◌, ◌∙◌, ◌<◌, ◌++◌, ◌∷◌, [], sym, ap, arith, length, subst, refl}
use Rattle.std.specs.Prelude.{None, Some}
use Rattle.std.specs.FinMap.{get}
use Rattle.std.specs.List.{cons_option, filter_map, range_with_len}
use Rattle.std.specs.Option.{option_map}
use Rattle.std.proofs.lemmas.List.{append-nil, map-append}
use Rattle.std.proofs.lemmas.List.Elements.{All-push}
use Rattle.rs_table.specs.Content.{rib_of}
use Rattle.rs_table.specs.PrefixRoutes.{entry_of}
use Rattle.rs_table.specs.RouteView.{sent_route_of}
use Rattle.rs_explain.specs.Explanations.{IsExplanation}
use Rattle.rs_survey.specs.declared.on_prefix.MissingRoute.{MissingRoute}
use Rattle.rs_survey.specs.Asked.{is_asked_sender}
use Rattle.rs_survey.specs.Missing.{asked_from, missing_from}
use Rattle.rs_survey.proofs.MissingLemmas.{asked-on, if_holds, missing_peer, more}
use Rattle.rs_survey.proofs.on_prefix.missing_on.Goals as goal
use Rattle.rs_survey.proofs.on_prefix.missing_on.Goals.{in-Some+in_ok-explanation+in_ok-push, in_default}

pub loop-peer-preserved : goal.loop-peer-preserved
loop-peer-preserved c =
    let tables = c.args.tables.now in
    let client = c.args.client in
    let prefix = c.args.on.now.prefix in
    let peer = c.loop-peer.peer in
    let items = c.loop-peer.routes.items in
    let known : peer < length tables.plan.peers = omega (arith, c.loop-peer-test.true, c.count-peer-end.ensures.peers) in
    let best : option_map sent_route_of c.best-best.result ≡ _ = c.best-best.ensures ∙ c.requires.routes.bests client in
    let from = c.args.from in
    let is = asked-on tables client from peer (entry_of c.args.on.now) (option_map sent_route_of c.best-best.result)
    c.requires.routes known best in
    let next = more (asked_from tables client from prefix) peer in
    elim c.match-asked_from.branch [
      | in-Some+in_ok-explanation+in_ok-push w ↦
          let one : MissingRoute = record { route = w.in-Some.route; explanation = w.in_ok-explanation.explanation } in
          let found : Some (sent_route_of w.in-Some.route) ≡ asked_from tables client from prefix peer = w.in-Some.ensures ∙ is in
          let own : w.in-Some.route.peer ≡ peer =
          missing_peer client peer _ (get (rib_of tables peer).routes prefix) (sent_route_of w.in-Some.route)
          (if_holds (is_asked_sender from peer) (missing_from tables client prefix peer) (sent_route_of w.in-Some.route) found) in
          let grown : c.match-asked_from.routes.items ≡ items ++ one ∷ [] = rw w.routes-is w.in_ok-push.ensures.items in
          record {
            routes = rw grown (map-append (λ one. sent_route_of one.route) items (one ∷ [])
                ∙ ap (λ front. front ++ sent_route_of one.route ∷ []) c.loop-peer.invariant.routes
                ∙ ap (λ found. filter_map (asked_from tables client from prefix) (range_with_len 0 peer) ++ cons_option found []) found
                ∙ sym next);
            explained =
                rw grown (All-push (λ one. IsExplanation tables client one.route.peer prefix one.explanation)
                items one c.loop-peer.invariant.explained
                (subst (λ peer. IsExplanation tables client peer prefix one.explanation) (sym own) w.in_ok-explanation.ensures.explains));
            candidates = rw w.candidates-is w.in_ok-explanation.ensures.candidates;
          }
      | in_default w ↦
          let none : None ≡ asked_from tables client from prefix peer = w.in_default.ensures ∙ is in
          let same : c.match-asked_from.routes.items ≡ items = rw w.routes-is refl in
          record {
            routes = rw same (c.loop-peer.invariant.routes ∙ sym (append-nil _)
                ∙ ap (λ found. filter_map (asked_from tables client from prefix) (range_with_len 0 peer) ++ cons_option found []) none
                ∙ sym next);
            explained = rw same c.loop-peer.invariant.explained;
            candidates = rw w.candidates-is c.loop-peer.invariant.candidates;
          }
    ]
