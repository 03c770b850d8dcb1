use Rattle.std.proofs.Common.{◌≡◌, ◌≤◌, vec_capacity}
use Rattle.rs_survey.proofs.DifferenceLemmas.{IsPassed}
use Rattle.rs_survey.proofs.differences.DifferencesIterator.next.Given as goal

-- the same two clients, whose choices are the same on each prefix that was passed
abbrev pub invariant-loop-one : goal.invariant-loop-one
invariant-loop-one l = record {
  before : l.self-inside.rows.before ≡ l.initial.self-inside.rows.before;
  after : l.self-inside.rows.after ≡ l.initial.self-inside.rows.after;
  passed : IsPassed l.initial.self-inside.rows.before l.initial.self-inside.rows.after l.initial.self-inside.rows.last
      l.self-inside.rows.last;
  left : l.self-inside.rows.left ≤ l.initial.self-inside.rows.left;
  room : 8146 ≤ vec_capacity l.self-inside.octets;
}

abbrev pub decreases-loop-one : goal.decreases-loop-one
decreases-loop-one l = l.self-inside.rows.left
