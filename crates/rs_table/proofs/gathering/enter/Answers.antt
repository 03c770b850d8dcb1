-- The list of the prefix's first octet has one entry more.
use Rattle.std.proofs.Common.{◌≡◌, ◌∙◌, ◌<◌, All, List, [], length, get_or, set, ap, sym, subst, arith, cond}
use Rattle.std.proofs.lemmas.Result.{on_ok_weaker}
use Rattle.rs_table.specs.Logged.{Logged}
use Rattle.rs_table.specs.Gathered.{IsAdded, IsEntryOf, counts, entry_route, first_octet, left_in, lists_of}
use Rattle.rs_table.proofs.gathering.GatheredLemmas.{added, logs-set, entered-list}
use Rattle.rs_table.proofs.gathering.enter.Goals as goal

pub returns-clause-routes : goal.returns-clause-routes
returns-clause-routes c =
    let losses = c.args.losses.now in
    let logs = c.args.logs.now in
    let entry : Logged = c.new-entry.result in
    let within : c.first_octet.result < length logs = omega (arith, c.first_octet.ensures.bound, c.requires.logs.count) in
    let here : first_octet entry.prefix ≡ c.first_octet.result =
    ap (λ (logged : Logged). first_octet logged.prefix) c.new-entry.ensures ∙ sym c.first_octet.ensures.value in
    let list : get_or (lists_of logs) c.first_octet.result []
    ≡ (get_or logs c.first_octet.result c.index-logs-first_octet.result).entries.items =
    entered-list logs c.first_octet.result c.index-logs-first_octet.result within in
    on_ok_weaker c.push.result
    (λ left. subst (λ (logged : Logged). IsAdded losses logged logs (set logs c.first_octet.result c.push.new.self)) c.new-entry.ensures
    (added losses logs c.first_octet.result c.push.new.self within entry here
    (λ peer prefix. left peer prefix ∙ ap (λ (entries : List Logged). cond (counts losses peer prefix entry) (entry_route entry)
    (left_in losses entries peer prefix)) (sym list))))
    c.push.ensures.left

pub returns-clause-logs : goal.returns-clause-logs
returns-clause-logs c =
    let losses = c.args.losses.now in
    let logs = c.args.logs.now in
    let octet = c.first_octet.result in
    let entry : Logged = c.new-entry.result in
    let within : octet < length logs = omega (arith, c.first_octet.ensures.bound, c.requires.logs.count) in
    let list : get_or (lists_of logs) octet [] ≡ (get_or logs octet c.index-logs-first_octet.result).entries.items =
    entered-list logs octet c.index-logs-first_octet.result within in
    let one : IsEntryOf losses octet entry =
    subst (IsEntryOf losses octet) (sym c.new-entry.ensures)
    (record { octet_is = sym c.first_octet.ensures.value; losses_are = omega arith }) in
    logs-set losses logs octet c.push.new.self within c.requires.logs
    (c.push.ensures.entries octet one (subst (All (IsEntryOf losses octet)) list (c.requires.logs.entries octet)))
