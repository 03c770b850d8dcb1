use Rattle.std.specs.Prelude.{◌≡◌, All, IfSome, map}
use Rattle.std.specs.List.{filter_map, range_with_len}
use Rattle.rs_table.specs.RouteView.{sent_route_of}
use Rattle.rs_explain.specs.Candidates.{AreCandidates}
use Rattle.rs_explain.specs.Explanations.{IsExplanation}
use Rattle.rs_survey.specs.Missing.{asked_from}
use Rattle.rs_survey.proofs.on_prefix.missing_on.Given as goal

-- the routes so far are those of the peers so far, each with its explanation, from the candidates, once they are collected
abbrev pub invariant-loop-peer : goal.invariant-loop-peer
invariant-loop-peer l = record {
  routes : map (λ one. sent_route_of one.route) l.routes.items
      ≡ filter_map (asked_from l.tables l.client l.from l.on.prefix) (range_with_len 0 l.peer);
  explained : All (λ one. IsExplanation l.tables l.client one.route.peer l.on.prefix one.explanation) l.routes.items;
  candidates : IfSome l.candidates (AreCandidates l.tables l.client l.on.prefix);
}
