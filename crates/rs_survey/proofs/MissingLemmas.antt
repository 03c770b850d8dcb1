-- The routes on a prefix that a client does not get, peer after peer: for `missing_on` of on_prefix.rt.
use Rattle.std.proofs.Common.{◌≡◌, ◌∙◌, ap, ℕ, zero, suc, ◌<◌, ◌+◌, ◌==◌, ◌||◌, Bool, true, false, cond, List, []}
use Rattle.std.proofs.Common.{◌∷◌, ◌++◌, length, Option, None, Some, arith}
use Rattle.std.specs.List.{cons_option, filter_map, range_with_len}
use Rattle.std.specs.Option.{option_map}
use Rattle.rs_update.specs.IpPrefix.{IpPrefix}
use Rattle.rs_choice.specs.Decision.{SentRoute}
use Rattle.rs_table.specs.Content.{TablesContent}
use Rattle.rs_table.specs.Left.{RouteLeft}
use Rattle.rs_table.specs.PrefixRoutes.{AreRoutesOf, route_on}
use Rattle.rs_table.specs.Cell.{CellContent}
use Rattle.rs_table.specs.Table.{best_of, is_from, sent_by}
use Rattle.rs_survey.specs.Asked.{is_asked_sender}
use Rattle.rs_survey.specs.Missing.{asked_from, missing_among, missing_from}

-- one number more
behind : {X : Type 0} (o : Option X) (all front later : List X) → all ≡ front ++ later → cons_option o all ≡ cons_option o front ++ later
behind None all front later is = is
behind (Some x) all front later is = ap (λ rest. x ∷ rest) is

more-from : {X : Type 0} (f : ℕ → Option X) (first n : ℕ)
    → filter_map f (range_with_len first (suc n)) ≡ filter_map f (range_with_len first n) ++ cons_option (f (first + n)) []
more-from f first zero = ap (λ place. cons_option (f place) []) (omega arith)
more-from f first (suc n) =
    behind (f first) (filter_map f (range_with_len (first + 1) (suc n))) (filter_map f (range_with_len (first + 1) n))
    (cons_option (f (first + suc n)) [])
    (more-from f (first + 1) n ∙ ap (λ place. filter_map f (range_with_len (first + 1) n) ++ cons_option (f place) []) (omega arith))

pub more : {X : Type 0} (f : ℕ → Option X) (n : ℕ) → filter_map f (range_with_len 0 (n + 1)) ≡ filter_map f (range_with_len 0 n)
    ++ cons_option (f n) []
more f n =
    let one_more : n + 1 ≡ suc n = omega arith in
    let place : 0 + n ≡ n = omega arith in
    ap (λ count. filter_map f (range_with_len 0 count)) one_more ∙ more-from f 0 n
    ∙ ap (λ place. filter_map f (range_with_len 0 n) ++ cons_option (f place) []) place

-- a route that is found where something holds is found
pub if_holds : {X : Type 0} (holds : Bool) (o : Option X) (x : X) → Some x ≡ cond holds o None → Some x ≡ o
if_holds true o x is = is
if_holds false o x is = absurd (cc is)

-- a route that is missing is its peer's
pub missing_peer : (client peer : ℕ) (best : Option SentRoute) (left : Option RouteLeft) (route : SentRoute)
    → Some route ≡ missing_among client peer best (option_map (sent_by peer) left) → route.peer ≡ peer
missing_peer client peer best left route is = by_test ((peer == client) || is_from peer best) left is
  where
    by_test : (b : Bool) (left : Option RouteLeft) → Some route ≡ cond b None (option_map (sent_by peer) left) → route.peer ≡ peer
    by_test true left is = absurd (cc is)
    by_test false None is = absurd (cc is)
    by_test false (Some one) is = let same : route ≡ sent_by peer one = cc is in ap (λ (route : SentRoute). route.peer) same

-- what is missing on a prefix is so by the routes that are at hand
pub missing-on : (tables : TablesContent) (client peer : ℕ) (entry : IpPrefix × CellContent) (best : Option SentRoute)
    → AreRoutesOf tables entry → peer < length tables.plan.peers → best ≡ best_of tables client entry.0 →
    missing_among client peer best (route_on entry peer) ≡ missing_from tables client entry.0 peer
missing-on tables client peer entry best are known is =
    ap (λ best. missing_among client peer best (route_on entry peer)) is
    ∙ ap (missing_among client peer (best_of tables client entry.0)) (are.routes peer known)

-- the same of the sender that is asked for, if one is
pub asked-on : (tables : TablesContent) (client : ℕ) (from : Option ℕ) (peer : ℕ) (entry : IpPrefix × CellContent) (best : Option SentRoute)
    → AreRoutesOf tables entry → peer < length tables.plan.peers → best ≡ best_of tables client entry.0 →
    cond (is_asked_sender from peer) (missing_among client peer best (route_on entry peer)) None
    ≡ asked_from tables client from entry.0 peer
asked-on tables client from peer entry best are known is =
    ap (λ (found : Option SentRoute). cond (is_asked_sender from peer) found None) (missing-on tables client peer entry best are known is)
