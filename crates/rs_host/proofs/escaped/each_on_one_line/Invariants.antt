use Rattle.std.proofs.Common.{◌≡◌, map, string_bytes, take}
use Rattle.rs_host.specs.Line.{one_line}
use Rattle.rs_host.proofs.escaped.each_on_one_line.Given as goal

-- the lines so far are those of as many texts
abbrev pub invariant-loop-text : goal.invariant-loop-text
invariant-loop-text l = map string_bytes l.lines.items ≡ map (λ text. one_line (string_bytes text)) (take l.text-index l.texts)
