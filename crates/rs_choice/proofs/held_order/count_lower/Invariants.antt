use Rattle.std.proofs.Common.{◌<◌, ◌≤◌, ℕ, get_or}
use Rattle.rs_choice.specs.declared.held_route.HeldRoute.{HeldRoute}
use Rattle.rs_choice.specs.Held.{AscendByPeer}
use Rattle.rs_choice.proofs.held_order.count_lower.Given as goal

-- among the routes so far, those of lower numbers come first
abbrev pub invariant-loop-place : goal.invariant-loop-place
invariant-loop-place l = record {
  within : l.count ≤ l.place;
  lower : AscendByPeer l.held → (k : ℕ) (one : HeldRoute) → k < l.count → (get_or l.held k one).peer < l.peer;
  others : AscendByPeer l.held → (k : ℕ) (one : HeldRoute) → l.count ≤ k → k < l.place → l.peer ≤ (get_or l.held k one).peer;
}
