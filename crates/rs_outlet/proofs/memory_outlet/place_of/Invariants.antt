use Rattle.std.proofs.Common.{◌≡◌, ◌<◌, ℕ, map, string_bytes}
use Rattle.std.specs.Prelude.{slice_index_or}
use Rattle.rs_outlet.proofs.memory_outlet.place_of.Given as goal

-- none so far is this name
abbrev pub invariant-loop-place : goal.invariant-loop-place
invariant-loop-place l = (k : ℕ) → k < l.place → slice_index_or (map (λ one. string_bytes one) l.names) k l.name ≡ l.name → ⊥
