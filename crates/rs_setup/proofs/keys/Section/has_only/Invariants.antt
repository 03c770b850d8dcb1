use Rattle.std.proofs.Common.{map}
use Rattle.toml.specs.View.{members_view}
use Rattle.rs_setup.specs.Values.{HasOnly}
use Rattle.rs_setup.proofs.keys.Section.has_only.Given as goal

-- once the keys that are left are known, all are
abbrev pub invariant-loop-key : goal.invariant-loop-key
invariant-loop-key l =
    let known = map (λ key. key.now) l.known in
    HasOnly known (members_view l.key-iterator) → HasOnly known (members_view l.self.table.now.entries)
