-- The routes that a cell holds, with one more and with one less: for `put`, `take_out`, `withdraw` and `decide` of cell.rt.
use Rattle.std.proofs.Common.{◌≡◌, ℕ, ◌≤◌, Bool, cond, List, [], ◌∷◌, length, map, not, ◌==◌, All, ap, sym, subst, refl, arith, ◌∙◌}
use Rattle.std.specs.Prelude.{filter}
use Rattle.std.proofs.lemmas.List.{length-map}
use Rattle.std.proofs.lemmas.List.Elements.{All-filter, All-head, All-nil, All-push, All-tail}
use Rattle.rs_types.specs.IpPrefix.{IpPrefix}
use Rattle.rs_choice.specs.Acceptance.{accepted_among, accepts}
use Rattle.rs_choice.specs.Candidacy.{is_taken_in}
use Rattle.rs_choice.specs.Decision.{SentRoute}
use Rattle.rs_choice.specs.Held.{sent_of_held, taken_in, AreTakenBy, IsJudged, IsTakenBy}
use Rattle.rs_choice.specs.Naturality.{filter-map}
use Rattle.rs_choice.specs.Plan.{Plan}
use Rattle.rs_choice.specs.declared.held_route.HeldRoute.{HeldRoute}
use Rattle.rs_table.specs.ByPeer.{IsRow, with_one, with_route, without_one, without_route}
use Rattle.rs_table.specs.Cell.{AreHeld}
use Rattle.rs_table.proofs.cell.MemberLemmas.{map-with, map-without, All-with}
use Rattle.rs_table.proofs.cell.RowLemmas.{IsRow-with, IsRow-without, length-row}

-- the routes stored after a change are those before, changed
pub routes-with : (before held : List HeldRoute) (one : HeldRoute) → held ≡ with_one (λ one. one.peer) before one
    → map sent_of_held held ≡ with_route (map sent_of_held before) (sent_of_held one)
routes-with before held one made = ap (map sent_of_held) made ∙ map-with (λ route. route.peer) sent_of_held before one

pub routes-without : (before held : List HeldRoute) (peer : ℕ) → held ≡ without_one (λ one. one.peer) before peer
    → map sent_of_held held ≡ without_route (map sent_of_held before) peer
routes-without before held peer made = ap (map sent_of_held) made ∙ map-without (λ route. route.peer) sent_of_held before peer

module _ (plan : Plan) where
  pub few-held : (held : List HeldRoute) → AreHeld plan held → length held ≤ length plan.peers
  few-held held are =
      omega (arith, length-row 0 (length plan.peers) (map sent_of_held held) (omega arith) are.row, length-map held sent_of_held)

  pub held-with : (before held : List HeldRoute) (one : HeldRoute) → AreHeld plan before → IsJudged plan one
      → held ≡ with_one (λ one. one.peer) before one → AreHeld plan held
  held-with before held one are judged made = record {
    row = subst (IsRow 0 (length plan.peers)) (sym (routes-with before held one made))
        (IsRow-with 0 (length plan.peers) (map sent_of_held before) (sent_of_held one) (omega arith) judged.known are.row);
    judged = subst (All (IsJudged plan)) (sym made) (All-with (λ one. one.peer) (IsJudged plan) before one judged are.judged);
  }

  pub held-without : (before held : List HeldRoute) (peer : ℕ) → AreHeld plan before → held ≡ without_one (λ one. one.peer) before peer
      → AreHeld plan held
  held-without before held peer are made = record {
    row = subst (IsRow 0 (length plan.peers)) (sym (routes-without before held peer made))
        (IsRow-without 0 (length plan.peers) peer (map sent_of_held before) are.row);
    judged = subst (All (IsJudged plan)) (sym made) (All-filter (λ one. not (one.peer == peer)) (IsJudged plan) before are.judged);
  }

-- what is stored of the routes after a change says whether they are taken in on a prefix
module _ (plan : Plan) (prefix : IpPrefix) where
  pub taken-alone : (held : List HeldRoute) (one : HeldRoute) → IsTakenBy plan prefix one → held ≡ one ∷ [] → AreTakenBy plan prefix held
  taken-alone held one taken made =
      subst (AreTakenBy plan prefix) (sym made) (All-push (IsTakenBy plan prefix) [] one (All-nil (IsTakenBy plan prefix)) taken)

  pub taken-with : (before held : List HeldRoute) (one : HeldRoute) → AreTakenBy plan prefix before → IsTakenBy plan prefix one
      → held ≡ with_one (λ one. one.peer) before one → AreTakenBy plan prefix held
  taken-with before held one are taken made =
      subst (AreTakenBy plan prefix) (sym made) (All-with (λ one. one.peer) (IsTakenBy plan prefix) before one taken are)

  pub taken-without : (before held : List HeldRoute) (peer : ℕ) → held ≡ without_one (λ one. one.peer) before peer
      → AreTakenBy plan prefix before → AreTakenBy plan prefix held
  taken-without before held peer made are =
      subst (AreTakenBy plan prefix) (sym made) (All-filter (λ one. not (one.peer == peer)) (IsTakenBy plan prefix) before are)

-- the routes that are taken in are those that import policy accepts on the prefix
pub taken-accepted : (plan : Plan) (prefix : IpPrefix) (held : List HeldRoute) → AreTakenBy plan prefix held
    → taken_in held ≡ accepted_among plan prefix (map sent_of_held held)
taken-accepted plan prefix held are =
    ap (map sent_of_held) (same held are)
    ∙ sym (filter-map sent_of_held (λ (sent : SentRoute). accepts plan sent.peer prefix sent.attributes) held)
  where
    is_in : HeldRoute → Bool
    is_in one = is_taken_in one.candidacy

    is_accepted : HeldRoute → Bool
    is_accepted one = accepts plan one.peer prefix one.attributes.value

    same : (held : List HeldRoute) → AreTakenBy plan prefix held → filter is_in held ≡ filter is_accepted held
    same [] are = refl
    same (one ∷ later) are =
        ap (λ b. cond b (one ∷ filter is_in later) (filter is_in later)) (All-head (IsTakenBy plan prefix) one later are)
        ∙ ap (λ list. cond (is_accepted one) (one ∷ list) list) (same later (All-tail (IsTakenBy plan prefix) one later are))
