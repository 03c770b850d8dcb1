-- Before any change all sessions are open, and lists without entries leave nothing.
use Rattle.std.proofs.Common.{◌≡◌, ◌<◌, ◌∙◌, ℕ, false, length, get_or, inl, inr, rules}
use Rattle.std.proofs.lemmas.Bool.{cases_lt}
use Rattle.std.proofs.lemmas.List.{get_or_past}
use Rattle.rs_table.specs.Gathered.{routes_gathered}
use Rattle.rs_table.proofs.cells.CellsLemmas.{by-length}
use Rattle.rs_table.proofs.gathering.GatheringLemmas.{empty-held, empty-logs}
use Rattle.rs_table.proofs.gathering.Gathering.of_plan.Goals as goal

pub returns-clause-empty : goal.returns-clause-empty
returns-clause-empty c = λ peer.
    let closed = c.resize.new.self.items in
    let known : (p : ℕ) → p < length closed → get_or closed p false ≡ false = search rules in
    let all_open : (p : ℕ) → get_or closed p false ≡ false = λ p. elim (cases_lt p (length closed)) [
      | inl below ↦ known p below
      | inr past ↦ get_or_past closed p false past
    ] in
    empty-held c.resize-2.new.self.items c.in_ok-logs.logs.items c.in_ok-logs.ensures.1 c.args.plan.value closed all_open peer

pub returns-clause-count : goal.returns-clause-count
returns-clause-count c =
    by-length (routes_gathered c.resize-2.new.self.items c.in_ok-logs.logs.items) 0 c.resize.new.self.items ∙ search rules

pub invariant_of-result : goal.invariant_of-result
invariant_of-result c =
    record {
      peers = search rules;
      losses = search rules;
      logs = empty-logs c.resize-2.new.self.items c.in_ok-logs.logs.items c.in_ok-logs.ensures.1 c.in_ok-logs.ensures.0;
    }
