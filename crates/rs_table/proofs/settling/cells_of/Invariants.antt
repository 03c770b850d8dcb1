use Rattle.std.proofs.Common.{◌≡◌, ℕ, All, length}
use Rattle.std.specs.List.Sorted.{IsStrictlySortedBy}
use Rattle.rs_types.specs.IpPrefix.{IpPrefix}
use Rattle.rs_table.specs.ByPeer.{route_at}
use Rattle.rs_table.specs.Gathered.{left_in, left_over, logged_cmp, IsAnnounced}
use Rattle.rs_table.specs.Making.{routes_so_far, IsMaking, IsNext}
use Rattle.rs_table.proofs.settling.cells_of.Given as goal

-- the routes so far, and the changes that are left over them, are what the list leaves
abbrev pub invariant-loop-entry : goal.invariant-loop-entry
invariant-loop-entry l = record {
  making : IsMaking l.fn.keeps_room l.plan l.making;
  next : All (IsNext l.making) l.ahead.rest.items;
  sorted : IsStrictlySortedBy logged_cmp l.ahead.rest.items;
  announced : All (IsAnnounced l.losses) l.ahead.rest.items;
  routes : (peer : ℕ) (prefix : IpPrefix)
      → left_over l.losses l.ahead.rest.items peer prefix (route_at (routes_so_far l.making prefix) peer)
      ≡ left_in l.fn.losses l.fn.entries.items peer prefix;
}

abbrev pub decreases-loop-entry : goal.decreases-loop-entry
decreases-loop-entry l = length l.ahead.rest.items
