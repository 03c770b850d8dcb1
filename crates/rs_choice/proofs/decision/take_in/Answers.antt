use Rattle.std.proofs.Common.{ℕ, None, Some, rules}
use Rattle.rs_choice.specs.declared.candidate.Standing.{Standing}
use Rattle.rs_choice.specs.Comparison.{IsAhead}
use Rattle.rs_choice.specs.Grouping.{standing_in, LeadsAll}
use Rattle.rs_choice.proofs.Eliminations.{equal_level}
use Rattle.rs_choice.proofs.neighbour_groups.GroupMarks.{ahead_of_leader, ahead_of_no_leader, alone_marked, behind_leader, leads_alone}
use Rattle.rs_choice.proofs.neighbour_groups.GroupMarks.{leads_joined, level_with_leader}
use Rattle.std.proofs.lemmas.Bool.{iff_false}
use Rattle.rs_choice.proofs.decision.take_in.Goals as goal

pub join-requires-clause-level : goal.join-requires-clause-level
join-requires-clause-level g c =
    let S : ℕ → Standing = standing_in (g.E.Entrants.standings c.args.entrants.now) in
    let leader = c.in-Some.leader in
    let leads : LeadsAll S c.args.groups.now (Some leader) = rw c.in-Some.is at c.requires.leads in
    let behind_not : IsAhead leader (S c.args.place) → ⊥ = iff_false c.is_behind.ensures c.if-is_behind.false in
    let ahead_not : IsAhead (S c.args.place) leader → ⊥ =
    rw c.standing-standing-2.ensures at (iff_false c.is_ahead_of.ensures c.if-is_ahead_of.false) in
    level_with_leader S c.args.place c.args.groups.now leader leads (equal_level (S c.args.place) leader ahead_not behind_not)

pub returns-clause-leads : goal.returns-clause-leads
returns-clause-leads g c =
    let S : ℕ → Standing = standing_in (g.E.Entrants.standings c.args.entrants.now) in
    let leader = c.in-Some.leader in
    let leads : LeadsAll S c.args.groups.now (Some leader) = rw c.in-Some.is at c.requires.leads in
    let behind_not : IsAhead leader (S c.args.place) → ⊥ = iff_false c.is_behind.ensures c.if-is_behind.false in
    let ahead_not : IsAhead (S c.args.place) leader → ⊥ =
    rw c.standing-standing-2.ensures at (iff_false c.is_ahead_of.ensures c.if-is_ahead_of.false) in
    leads_joined S c.args.place c.args.groups.now c.join.new.groups leader c.requires.grouped leads
    (equal_level (S c.args.place) leader ahead_not behind_not) c.join.ensures

pub returns-then-is_behind-clause-grouped : goal.returns-then-is_behind-clause-grouped
returns-then-is_behind-clause-grouped g c =
    let S : ℕ → Standing = standing_in (g.E.Entrants.standings c.args.entrants.now) in
    let leader = c.in-Some.leader in
    let leads : LeadsAll S c.args.groups.now (Some leader) = rw c.in-Some.is at c.requires.leads in
    behind_leader S c.args.place c.args.groups.now leader c.requires.grouped leads (c.is_behind.ensures.0 c.if-is_behind.true)

pub returns-in_default-clause-grouped : goal.returns-in_default-clause-grouped
returns-in_default-clause-grouped g c =
    let S : ℕ → Standing = standing_in (g.E.Entrants.standings c.args.entrants.now) in
    let leads : LeadsAll S c.args.groups.now None = rw c.in_default.is at c.requires.leads in
    rw (c.restart.ensures, c.of.ensures, c.standing-standing.ensures)
    (alone_marked S c.args.place (ahead_of_no_leader S c.args.place c.args.groups.now c.requires.grouped leads))

pub returns-in_default-clause-leads : goal.returns-in_default-clause-leads
returns-in_default-clause-leads g c =
    let S : ℕ → Standing = standing_in (g.E.Entrants.standings c.args.entrants.now) in
    rw (c.restart.ensures, c.of.ensures, c.standing-standing.ensures) (leads_alone S c.args.place)

pub returns-then-is_ahead_of-clause-grouped : goal.returns-then-is_ahead_of-clause-grouped
returns-then-is_ahead_of-clause-grouped g c =
    let S : ℕ → Standing = standing_in (g.E.Entrants.standings c.args.entrants.now) in
    let leader = c.in-Some.leader in
    let leads : LeadsAll S c.args.groups.now (Some leader) = rw c.in-Some.is at c.requires.leads in
    let ahead : IsAhead (S c.args.place) leader = rw c.standing-standing-2.ensures at (c.is_ahead_of.ensures.0 c.if-is_ahead_of.true) in
    rw (c.restart-then-is_ahead_of.ensures, c.of-then-is_ahead_of.ensures, c.standing-standing-2.ensures)
    (alone_marked S c.args.place (ahead_of_leader S c.args.place c.args.groups.now leader c.requires.grouped leads ahead))

pub returns-then-is_ahead_of-clause-leads : goal.returns-then-is_ahead_of-clause-leads
returns-then-is_ahead_of-clause-leads g c =
    let S : ℕ → Standing = standing_in (g.E.Entrants.standings c.args.entrants.now) in
    rw (c.restart-then-is_ahead_of.ensures, c.of-then-is_ahead_of.ensures, c.standing-standing-2.ensures) (leads_alone S c.args.place)

pub returns-clause-grouped : goal.returns-clause-grouped
returns-clause-grouped g c = search rules

pub returns-then-is_behind-clause-leads : goal.returns-then-is_behind-clause-leads
returns-then-is_behind-clause-leads g c = search rules
