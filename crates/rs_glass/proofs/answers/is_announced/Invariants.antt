use Rattle.std.proofs.Common.{◌≡◌, false, take}
use Rattle.std.specs.FinMap.{contains_key}
use Rattle.std.specs.List.{list_any}
use Rattle.rs_glass.proofs.answers.is_announced.Given as goal

abbrev pub invariant-loop-peer : goal.invariant-loop-peer
invariant-loop-peer l = list_any (λ rib. contains_key rib.routes l.prefix) (take l.peer l.tables.ribs) ≡ false
