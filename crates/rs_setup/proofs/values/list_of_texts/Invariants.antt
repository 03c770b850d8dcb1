use Rattle.std.proofs.Common.{◌≡◌, map, take, string_bytes}
use Rattle.toml.specs.Data.{string}
use Rattle.toml.specs.View.{items_of, items_view}
use Rattle.rs_setup.proofs.values.list_of_texts.Given as goal

-- the values so far are the texts so far
abbrev pub invariant-loop-value : goal.invariant-loop-value
invariant-loop-value l = items_view (take l.value-index l.values) ≡ items_of (map string (map string_bytes l.texts.items))
