use Rattle.std.proofs.Common.{arith, ℕ, length}
use Rattle.rs_choice.specs.declared.candidate.Standing.{Standing}
use Rattle.rs_choice.specs.Grouping.{places_of, standing_in, GoesBeforeSome}
use Rattle.rs_choice.proofs.neighbour_groups.GroupChoice.{first_changes, first_stays}
use Rattle.rs_choice.proofs.neighbour_groups.GroupMarks.{place_at, place_within}
use Rattle.std.proofs.lemmas.Bool.{iff_false}
use Rattle.rs_choice.proofs.decision.first_of.Goals as goal
use Rattle.rs_choice.proofs.decision.first_of.Goals.{then-goes_before, else-goes_before}

pub standing-requires : goal.standing-requires
standing-requires g c =
    let standings = g.E.Entrants.standings c.args.entrants.now in
    let within = place_within (standing_in standings) (length standings)
    c.args.groups.now c.requires.grouped c.loop-number.number c.group.result c.group.ensures in
    omega (arith, within, c.from-place.ensures)

pub loop-number-preserved : goal.loop-number-preserved
loop-number-preserved g c =
    let S : ℕ → Standing = standing_in (g.E.Entrants.standings c.args.entrants.now) in
    let places = places_of c.args.groups.now in
    let place = c.group.result.place in
    let at = place_at c.args.groups.now c.loop-number.number c.group.result c.group.ensures in
    elim c.if-goes_before.branch [
      | then-goes_before w ↦
          let before : GoesBeforeSome (record { place = place; standing = S place }) c.loop-number.first =
          rw (c.standing.ensures, c.from-place.ensures) at (c.goes_before.ensures.0 w.if-goes_before.true) in
          rw (w.first-is, c.standing.ensures, c.from-place.ensures)
          (first_changes S places c.loop-number.number place c.loop-number.first at c.loop-number.invariant before)
      | else-goes_before w ↦
          let before_not : GoesBeforeSome (record { place = place; standing = S place }) c.loop-number.first → ⊥ =
          rw (c.standing.ensures, c.from-place.ensures) at
          (iff_false c.goes_before.ensures w.if-goes_before.false) in
          rw w.first-is (first_stays S places c.loop-number.number place c.loop-number.first at c.loop-number.invariant before_not)
    ]
