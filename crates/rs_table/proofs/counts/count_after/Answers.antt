use Rattle.std.proofs.Common.{◌≡◌, ◌∙◌, ◌≤◌, ◌+◌, ◌-◌, ℕ, Bool, true, false, cond, length, ap, sym, arith, rules}
use Rattle.std.specs.FinMap as fin
use Rattle.rs_change.specs.Change.{body_of}
use Rattle.rs_change.specs.declared.word.Body.{Body}
use Rattle.rs_table.specs.Cells.{routes_from}
use Rattle.rs_table.specs.Counts.{route_count}
use Rattle.rs_types.specs.PrefixOrder.{prefix_cmp}
use Rattle.rs_table.specs.Left.{RouteLeft, Routes, after_body, reason_drops}
use Rattle.rs_table.proofs.counts.CountLemmas.{count-most, insert-counted, remove-counted, some-counted}
use Rattle.rs_table.proofs.counts.count_after.Goals as goal

-- how many routes are left by a body
by-body : (routes : Routes) (time : ℕ) (body other : Body) → body ≡ other
    → fin.len (after_body routes time (body_of other)) ≡ fin.len (after_body routes time (body_of body))
by-body routes time body other is = sym (ap (λ (b : Body). fin.len (after_body routes time (body_of b))) is)

pub overflow_add-result : goal.overflow_add-result
overflow_add-result c =
    let most : route_count c.args.cells.now.entries c.args.peer ≤ length c.args.cells.now.entries =
    count-most c.args.peer c.args.cells.now c.len-most.ensures.ordered in
    omega (arith, most, c.requires, c.len-most.ensures.len, c.len-most.ensures.small)

pub overflow_sub-result : goal.overflow_sub-result
overflow_sub-result c =
    let routes = routes_from c.args.cells.now.entries c.args.peer in
    let some = some-counted routes c.in-Withdraw.prefix (sym c.has_route-in-Withdraw.ensures ∙ c.if-has_route-2.true) in
    omega (arith, some, c.requires)

pub returns-then-has_route : goal.returns-then-has_route
returns-then-has_route c =
    let routes = routes_from c.args.cells.now.entries c.args.peer in
    c.requires
    ∙ sym (insert-counted routes c.in-Announce.prefix _ true (sym c.has_route.ensures ∙ c.if-has_route.true))
    ∙ by-body routes c.args.word.now.time c.args.word.now.body _ c.in-Announce.is

pub returns-else-has_route : goal.returns-else-has_route
returns-else-has_route c =
    let routes = routes_from c.args.cells.now.entries c.args.peer in
    ap (λ n. n + 1) c.requires
    ∙ sym (insert-counted routes c.in-Announce.prefix _ false (sym c.has_route.ensures ∙ c.if-has_route.false))
    ∙ by-body routes c.args.word.now.time c.args.word.now.body _ c.in-Announce.is

pub returns-then-has_route-2 : goal.returns-then-has_route-2
returns-then-has_route-2 c =
    let routes = routes_from c.args.cells.now.entries c.args.peer in
    ap (λ n. n - 1) c.requires
    ∙ sym (remove-counted routes c.in-Withdraw.prefix true (sym c.has_route-in-Withdraw.ensures ∙ c.if-has_route-2.true))
    ∙ by-body routes c.args.word.now.time c.args.word.now.body _ c.in-Withdraw.is

pub returns-else-has_route-2 : goal.returns-else-has_route-2
returns-else-has_route-2 c =
    let routes = routes_from c.args.cells.now.entries c.args.peer in
    c.requires
    ∙ sym (remove-counted routes c.in-Withdraw.prefix false (sym c.has_route-in-Withdraw.ensures ∙ c.if-has_route-2.false))
    ∙ by-body routes c.args.word.now.time c.args.word.now.body _ c.in-Withdraw.is

pub returns-in-Down : goal.returns-in-Down
returns-in-Down c =
    sym (fin.len-empty prefix_cmp RouteLeft)
    ∙ by-body (routes_from c.args.cells.now.entries c.args.peer) c.args.word.now.time c.args.word.now.body _ c.in-Down.is

pub returns-else-eq : goal.returns-else-eq
returns-else-eq c =
    let routes = routes_from c.args.cells.now.entries c.args.peer in
    let drops : reason_drops c.in-Close.reason ≡ true = search rules in
    sym (fin.len-empty prefix_cmp RouteLeft)
    ∙ ap (λ (b : Bool). fin.len (cond b fin.empty routes)) (sym drops)
    ∙ by-body routes c.args.word.now.time c.args.word.now.body _ c.in-Close.is
