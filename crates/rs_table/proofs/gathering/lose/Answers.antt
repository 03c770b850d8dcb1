-- The entries of the peer are void by one loss more, or they are removed.
use Rattle.std.proofs.Common.{◌≡◌, ◌+◌, get_or, set, ap, refl, rules}
use Rattle.rs_table.proofs.gathering.GatheredLemmas.{few-before, lost-logs, lost-routes, none-left, short-logs, short-routes}
use Rattle.rs_table.proofs.gathering.lose.Goals as goal

pub returns-clause-routes : goal.returns-clause-routes
returns-clause-routes c =
    let losses = c.args.losses.now in
    let peer = c.args.peer in
    let logs = c.args.logs.now in
    let more : c.in-Some.more ≡ get_or losses peer 0 + 1 = search rules in
    lost-routes losses peer (get_or losses peer 0 + 1) c.requires.known (set losses peer c.in-Some.more) (ap (set losses peer) more) logs
    c.requires.logs (few-before losses peer logs c.requires.logs)

pub returns-clause-logs : goal.returns-clause-logs
returns-clause-logs c =
    let losses = c.args.losses.now in
    let peer = c.args.peer in
    let logs = c.args.logs.now in
    let more : c.in-Some.more ≡ get_or losses peer 0 + 1 = search rules in
    lost-logs losses peer (get_or losses peer 0 + 1) c.requires.known (set losses peer c.in-Some.more) (ap (set losses peer) more) logs
    c.requires.logs (few-before losses peer logs c.requires.logs)

pub returns-in_default-clause-routes : goal.returns-in_default-clause-routes
returns-in_default-clause-routes c =
    let losses = c.args.losses.now in
    let peer = c.args.peer in
    let logs = c.args.logs.now in
    let short = c.forget.new.logs in
    let count = c.forget.ensures.count in
    let lists = c.forget.ensures.lists in
    short-routes losses peer logs short count lists (set losses peer 0)
    (lost-routes losses peer 0 c.requires.known (set losses peer 0) refl short (short-logs losses peer logs short count lists c.requires.logs)
    (none-left losses peer logs short count lists 0))

pub returns-in_default-clause-logs : goal.returns-in_default-clause-logs
returns-in_default-clause-logs c =
    let losses = c.args.losses.now in
    let peer = c.args.peer in
    let logs = c.args.logs.now in
    let short = c.forget.new.logs in
    let count = c.forget.ensures.count in
    let lists = c.forget.ensures.lists in
    lost-logs losses peer 0 c.requires.known (set losses peer 0) refl short (short-logs losses peer logs short count lists c.requires.logs)
    (none-left losses peer logs short count lists 0)
