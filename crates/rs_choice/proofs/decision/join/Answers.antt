use Rattle.std.proofs.Common.{◌≡◌, ◌∙◌, sym, ap, arith, ℕ, None}
use Rattle.std.proofs.lemmas.Option.{slice_get_within}
use Rattle.rs_choice.specs.declared.candidate.Standing.{Standing}
use Rattle.rs_choice.specs.declared.neighbour_groups.Group.{Group}
use Rattle.rs_choice.specs.Grouping.{standing_in, IsJoined, IsNeighboursGroup}
use Rattle.rs_choice.proofs.neighbour_groups.GroupMarks.{joined_marked, one_more_marked, place_within}
use Rattle.rs_choice.proofs.decision.join.Goals as goal

pub returns-in_default : goal.returns-in_default
returns-in_default g c =
    let S : ℕ → Standing = standing_in (g.E.Entrants.standings c.args.entrants.now) in
    let none : IsNeighboursGroup c.args.groups.now (S c.args.place).neighbour None = rw c.requires.is_standing at c.in_default.ensures in
    rw (c.push.ensures, c.of.ensures, c.requires.is_standing)
    (one_more_marked S c.args.place c.args.groups.now c.requires.grouped c.requires.level none)

pub group-group-requires : goal.group-group-requires
group-group-requires g c = let found = c.in-Some.ensures in slice_get_within c.args.groups.now c.in-Some.number found.0 found.1

pub standing-held-requires : goal.standing-held-requires
standing-held-requires g c =
    let S : ℕ → Standing = standing_in (g.E.Entrants.standings c.args.entrants.now) in
    let within = place_within S c.args.place c.args.groups.now c.requires.grouped c.in-Some.number c.group-group.result
    c.group-group.ensures in
    omega (arith, within, c.from.ensures, c.requires.within)

pub replace-requires : goal.replace-requires
replace-requires g c =
    let found = c.in-Some.ensures in
    record {
      number = slice_get_within c.args.groups.now c.in-Some.number found.0 found.1;
      neighbour = rw c.group-group.ensures c.joined.ensures.neighbour;
    }

pub returns : goal.returns
returns g c =
    let S : ℕ → Standing = standing_in (g.E.Entrants.standings c.args.entrants.now) in
    let held = c.group-group.result in
    let found = c.in-Some.ensures in
    let e : found.0 ≡ held = cc (found.1, c.group-group.ensures) in
    let same : held.neighbour ≡ (S c.args.place).neighbour =
    ap (λ (group : Group). group.neighbour) (sym e) ∙ found.2 ∙ ap (λ (one : Standing). one.neighbour) c.requires.is_standing in
    let joined : IsJoined held (S held.place) c.args.place (S c.args.place) c.joined.result =
    rw (c.requires.is_standing, c.standing-held.ensures, c.from.ensures) at c.joined.ensures in
    rw c.replace.ensures (joined_marked S c.args.place c.args.groups.now c.requires.grouped c.requires.level c.in-Some.number held
    c.joined.result c.group-group.ensures same joined)
